-- A cut of rising starts says what `previous_start` and `next_start` are. Assumes nothing.
use mathlib.Core.Path.{◌≡◌, sym, ap}
use mathlib.Core.Logic.{⊎_elim}
use mathlib.Core.List.{List}
use Prim.Native.Nat.{ℕ, suc, ◌+◌, ◌-◌, ◌<◌, ◌≤◌}
use native.Mathlib.Nat.{lt_irrefl, eq-or-lt_of_le}
use native.Mathlib.Omega.{arith}
use borrow.Author.Tests.{le-leb, leb-true, lt-ltb, le-ltb, ltb-true}
use lib.Dec.{leb, ltb}
use lib.ListN.{length, get_or}
use Rattle.std.specs.Prelude.{Option, Some}
use Rattle.ground.proofs.Cases.{le_or, true_or}
use Rattle.player_segments.specs.Segments.{own_start, start_before, previous_margin, previous_start, next_start, Cut}
use Rattle.player_segments.proofs.Sides.{greatest_le, greatest_is, greatest_none, least_is, least_none}

abbrev pub Rises : List ℕ → Type 0
Rises l = (j i : ℕ) → i < j → j < length l → get_or l i 0 < get_or l j 0

-- neither the start of its segment nor what Previous leads to is above the position
own_le : (l : List ℕ) (p : ℕ) → own_start l p ≤ p
own_le l p = greatest_le (λ x. leb x p) 0 p l (omega arith) (λ k a b. leb-true (get_or l k 0) p b)

pub previous_le : (l : List ℕ) (p : ℕ) → previous_start l p ≤ p
unfolding previous_start
previous_le l p = ⊎_elim
    (λ e. rw e (omega (arith, before_le (own_start l p), own_le l p)))
    (λ e. rw e (own_le l p))
    (true_or (ltb p (own_start l p + previous_margin)))
  where
    before_le : (own : ℕ) → start_before l own ≤ own
    before_le own = greatest_le (λ x. ltb x own) own own l (omega arith) (λ k a b. omega (arith, ltb-true (get_or l k 0) own b))

module _ (l : List ℕ) (rises : Rises l) where
  pub rises_le : (j i : ℕ) → i ≤ j → j < length l → get_or l i 0 ≤ get_or l j 0
  rises_le j i h g = ⊎_elim (λ e. omega (arith, ap (λ (n : ℕ). get_or l n 0) e)) (λ q. omega (arith, rises j i q g)) (eq-or-lt_of_le h)

  -- a start cuts behind its own place
  pub cut_at : (j : ℕ) → j < length l → Cut l (get_or l j 0) (suc j)
  cut_at j h = record { within = omega arith; low = λ k q. rises_le j k (omega arith) h; high = λ k q g. rises k j (omega arith) g }

  -- the start before one that stands at a place, and that there is none before the first
  before_is : (j : ℕ) → suc j < length l → start_before l (get_or l (suc j) 0) ≡ get_or l j 0
  before_is j h =
      greatest_is (λ x. ltb x (get_or l (suc j) 0)) (get_or l (suc j) 0) l j (omega arith) (lt-ltb _ _ (rises (suc j) j (omega arith) h)) (λ k a b.
      ⊎_elim
      (λ q. absurd (lt_irrefl (get_or l k 0) (omega (arith, rises_le k (suc j) q a, ltb-true (get_or l k 0) (get_or l (suc j) 0) b))))
      (λ q. rises_le j k (omega arith) (omega arith))
      (le_or (suc j) k))

  before_first : start_before l (get_or l 0 0) ≡ get_or l 0 0
  before_first = greatest_none (λ x. ltb x (get_or l 0 0)) (get_or l 0 0) l (λ k a. le-ltb (get_or l k 0) (get_or l 0 0) (rises_le k 0 (omega arith) a))

  module _ (p k : ℕ) (cut : Cut l p k) where
    -- the start before the cut is that of the segment that the position lies in
    own_is : 0 < k → own_start l p ≡ get_or l (k - 1) 0
    own_is s =
        let w : k ≤ length l = cut.within in
        let i : k - 1 < length l = omega arith in
        greatest_is (λ x. leb x p) 0 l (k - 1) i (le-leb (get_or l (k - 1) 0) p (cut.low (k - 1) (omega arith))) (λ j a b.
        ⊎_elim
        (λ q. absurd (lt_irrefl p (omega (arith, cut.high j q a, leb-true (get_or l j 0) p b))))
        (λ q. rises_le (k - 1) j (omega arith) i)
        (le_or k j))

    -- far past it, Previous leads there
    pub previous_own : 0 < k → get_or l (k - 1) 0 + previous_margin ≤ p → get_or l (k - 1) 0 ≡ previous_start l p
    unfolding previous_start
    previous_own s h = rw (own_is s, le-ltb p (get_or l (k - 1) 0 + previous_margin) h)

    -- and less far, to the one before
    pub previous_before : 1 < k → p < get_or l (k - 1) 0 + previous_margin → get_or l (k - 2) 0 ≡ previous_start l p
    unfolding previous_start
    previous_before s h =
        let e : k - 1 ≡ suc (k - 2) = omega arith in
        rw (own_is (omega arith), lt-ltb p (get_or l (k - 1) 0 + previous_margin) h, e) (sym (before_is (k - 2) (omega (arith, cut.within))))

    -- in the first segment there is none before
    pub previous_first : k ≡ 1 → get_or l 0 0 ≡ previous_start l p
    unfolding previous_start
    previous_first e =
        let z : k - 1 ≡ 0 = omega arith in
        rw (own_is (omega arith), z, before_first) (⊎_elim (λ t. rw t) (λ t. rw t) (true_or (ltb p (get_or l 0 0 + previous_margin))))

  module _ (past : Option ℕ) (p k : ℕ) (cut : Cut l p k) where
    pub next_past : length l ≤ k → past ≡ next_start l past p
    unfolding next_start
    next_past h = sym (least_none (λ x. ltb p x) past l (λ j a. le-ltb p (get_or l j 0) (cut.low j (omega arith))))

    pub next_here : k < length l → Some (get_or l k 0) ≡ next_start l past p
    unfolding next_start
    next_here h =
        sym (least_is (λ x. ltb p x) past l k h (lt-ltb p (get_or l k 0) (cut.high k (omega arith) h)) (λ j a b.
        ⊎_elim
        (λ q. rises_le j k q a)
        (λ q. absurd (lt_irrefl p (omega (arith, cut.low j q, ltb-true p (get_or l j 0) b))))
        (le_or k j)))
