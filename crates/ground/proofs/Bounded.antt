-- Laws of `all_below` and `sum_below`: a loop's turn and end, what they tell of each number, and two sums beside each other. Assumes nothing.
use mathlib.Core.Path.{◌≡◌, refl, ap, ◌∙◌}
use mathlib.Core.Bool.{Bool, true, ◌&&◌}
use mathlib.Core.Logic.{⊎_elim}
use Prim.Native.Nat.{ℕ, zero, suc, ◌+◌, ◌<◌, ◌≤◌}
use native.Mathlib.Nat.{eq-or-lt_of_le, le_antisymm, not-suc-le-zero}
use native.Mathlib.Numerals.{add-one}
use native.Mathlib.Omega.{arith}
use Rattle.ground.specs.Lists.{all_below, sum_below}
use Rattle.ground.proofs.Cases.{and_left, and_right, and_both}

module _ (test : ℕ → Bool) where
  -- one number more, as a loop with no early exit counts it: `good = good & test`
  pub all_turn : (i : ℕ) (good t : Bool) → good ≡ all_below i test → t ≡ test i → (good && t) ≡ all_below (i + 1) test
  unfolding all_below
  all_turn i good t g e = rw add-one (λ k. g k && e k)

  -- the loop's end
  pub all_end : {n i : ℕ} {good : Bool} → i ≤ n → n ≤ i → good ≡ all_below i test → good ≡ all_below n test
  all_end {n} {i} h k g = g ∙ ap (λ (m : ℕ). all_below m test) (le_antisymm h k)

  pub all_at : (n : ℕ) → all_below n test ≡ true → (i : ℕ) → i < n → test i ≡ true
  unfolding all_below
  all_at zero g i h = absurd (not-suc-le-zero h)
  all_at (suc n) g i h =
      let q : i ≤ n = omega arith in
      ⊎_elim
      (λ e. ap test e ∙ and_right (all_below n test) (test n) g)
      (λ l. all_at n (and_left (all_below n test) (test n) g) i l)
      (eq-or-lt_of_le q)

  pub all_intro : (n : ℕ) → ((i : ℕ) → i < n → test i ≡ true) → all_below n test ≡ true
  unfolding all_below
  all_intro zero h = refl
  all_intro (suc n) h = and_both (all_intro n (λ i l. h i (omega arith))) (h n (omega arith))

module _ (f : ℕ → ℕ) where
  pub sum_turn : (i : ℕ) → sum_below (i + 1) f ≡ sum_below i f + f i
  unfolding sum_below
  sum_turn i = rw add-one

  pub sum_grows : (n i : ℕ) → i ≤ n → sum_below i f ≤ sum_below n f
  unfolding sum_below
  sum_grows zero i h = let e : i ≡ 0 = omega arith in rw e (omega arith)
  sum_grows (suc n) i h =
      ⊎_elim
      (λ e. rw e (omega arith))
      (λ l. omega (arith, sum_grows n i (omega arith)))
      (eq-or-lt_of_le h)

  -- each part of a sum lies within it
  pub sum_within : (n i : ℕ) → i < n → sum_below i f + f i ≤ sum_below n f
  sum_within n i h = omega (arith, sum_turn i, sum_grows n (i + 1) (omega arith))

-- two sums, part by part: no less, the same, and one more where one part has one more
module _ (f g : ℕ → ℕ) where
  pub sum_at_most : (n : ℕ) → ((i : ℕ) → i < n → f i ≤ g i) → sum_below n f ≤ sum_below n g
  unfolding sum_below
  sum_at_most zero h = omega arith
  sum_at_most (suc n) h = omega (arith, sum_at_most n (λ i l. h i (omega arith)), h n (omega arith))

  pub sum_same : (n : ℕ) → ((i : ℕ) → i < n → f i ≡ g i) → sum_below n f ≡ sum_below n g
  unfolding sum_below
  sum_same zero h = refl
  sum_same (suc n) h = λ k. sum_same n (λ i l. h i (omega arith)) k + h n (omega arith) k

  pub sum_one_more : (n j : ℕ) → j < n → f j ≡ suc (g j) → ((i : ℕ) → (i ≡ j → ⊥) → f i ≡ g i) → sum_below n f ≡ suc (sum_below n g)
  unfolding sum_below
  sum_one_more zero j h e same = absurd (not-suc-le-zero h)
  sum_one_more (suc n) j h e same =
      let q : j ≤ n = omega arith in
      ⊎_elim
      (λ (w : j ≡ n). omega (arith, sum_same n (λ i l. same i (λ r. omega (arith, r))), ap f w, ap g w))
      (λ (l : j < n). omega (arith, sum_one_more n j l e same, same n (λ r. omega (arith, r))))
      (eq-or-lt_of_le q)
