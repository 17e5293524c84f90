-- The greatest and the least of the elements that pass a test. Assumes nothing.
use mathlib.Core.Path.{◌≡◌, refl, ap}
use mathlib.Core.Bool.{Bool, true, false}
use mathlib.Core.Logic.{⊎_elim}
use mathlib.Core.List.{List, [], ◌∷◌}
use Prim.Native.Nat.{ℕ, zero, suc, ◌<◌, ◌≤◌, suc-le-suc}
use native.Mathlib.Nat.{not-suc-le-zero, le_of_suc-le-suc}
use native.Mathlib.Omega.{arith}
use lib.ListN.{length, get_or}
use Rattle.std.specs.Prelude.{Option, Some, None}
use Rattle.ground.specs.Lists.{those}
use Rattle.ground.proofs.Cases.{true_or}
use Rattle.player_segments.specs.Segments.{greatest_or, least, least_or}

module _ (test : ℕ → Bool) where
  -- each element that passes has P; none passes
  abbrev pub Passing : (ℕ → Type 0) → List ℕ → Type 0
  Passing P l = (k : ℕ) → k < length l → test (get_or l k 0) ≡ true → P (get_or l k 0)

  abbrev pub NonePasses : List ℕ → Type 0
  NonePasses l = (k : ℕ) → k < length l → test (get_or l k 0) ≡ false

  -- what holds of all holds of those behind the first
  behind : (P : ℕ → Type 0) (x : ℕ) (l : List ℕ) → Passing P (x ∷ l) → Passing P l
  behind P x l h k a b = h (suc k) (suc-le-suc a) b

  -- what bounds z and each that passes bounds the greatest of these
  pub greatest_le : (z m : ℕ) (l : List ℕ) → z ≤ m → Passing (λ x. x ≤ m) l → greatest_or z (those test l) ≤ m
  greatest_le z m [] b h = b
  greatest_le z m (x ∷ l) b h = ⊎_elim
      (λ e. rw e (let c = h 0 (omega arith) e in omega (arith, greatest_le x m l c (behind (λ x. x ≤ m) x l h))))
      (λ e. rw e (greatest_le z m l b (behind (λ x. x ≤ m) x l h)))
      (true_or (test x))

  -- the greatest is the one that passes and bounds all that do
  pub greatest_is : (z : ℕ) (l : List ℕ) (j : ℕ) → j < length l → test (get_or l j 0) ≡ true → Passing (λ x. x ≤ get_or l j 0) l
      → greatest_or z (those test l) ≡ get_or l j 0
  greatest_is z [] j i g h = absurd (not-suc-le-zero i)
  greatest_is z (x ∷ l) zero i g h = rw g (omega (arith, greatest_le x x l (omega arith) (behind (λ y. y ≤ x) x l h)))
  greatest_is z (x ∷ l) (suc j) i g h = ⊎_elim
      (λ e. rw e (omega (arith, h 0 (omega arith) e, greatest_is x l j (le_of_suc-le-suc i) g (behind (λ y. y ≤ get_or l j 0) x l h))))
      (λ e. rw e (greatest_is z l j (le_of_suc-le-suc i) g (behind (λ y. y ≤ get_or l j 0) x l h)))
      (true_or (test x))

  pub greatest_none : (z : ℕ) (l : List ℕ) → NonePasses l → greatest_or z (those test l) ≡ z
  greatest_none z [] h = refl
  greatest_none z (x ∷ l) h = rw (h 0 (omega arith)) (greatest_none z l (λ k a. h (suc k) (suc-le-suc a)))

  -- the least of x and those that pass is bounded from below by what bounds these, and is x where x does
  least_le : (x m : ℕ) (l : List ℕ) → m ≤ x → Passing (λ y. m ≤ y) l → m ≤ least x (those test l)
  least_le x m [] b h = b
  least_le x m (y ∷ l) b h = ⊎_elim
      (λ e. rw e (let c = h 0 (omega arith) e in omega (arith, least_le y m l c (behind (λ y. m ≤ y) y l h))))
      (λ e. rw e (least_le x m l b (behind (λ y. m ≤ y) y l h)))
      (true_or (test y))

  least_first : (x : ℕ) (l : List ℕ) → Passing (λ y. x ≤ y) l → least x (those test l) ≡ x
  least_first x [] h = refl
  least_first x (y ∷ l) h = ⊎_elim
      (λ e. rw e (let c = h 0 (omega arith) e in omega (arith, least_le y x l c (behind (λ z. x ≤ z) y l h))))
      (λ e. rw e (least_first x l (behind (λ z. x ≤ z) y l h)))
      (true_or (test y))

  -- the least is the one that passes and is below all others that do
  pub least_is : (past : Option ℕ) (l : List ℕ) (j : ℕ) → j < length l → test (get_or l j 0) ≡ true → Passing (λ x. get_or l j 0 ≤ x) l
      → least_or past (those test l) ≡ Some (get_or l j 0)
  least_is past [] j i g h = absurd (not-suc-le-zero i)
  least_is past (x ∷ l) zero i g h = rw g (ap (λ (n : ℕ). Some n) (least_first x l (behind (λ y. x ≤ y) x l h)))
  least_is past (x ∷ l) (suc j) i g h = ⊎_elim
      (λ e. rw e (ap (λ (n : ℕ). Some n) (lower (those test l) (h 0 (omega arith) e) (least_is None l j (le_of_suc-le-suc i) g (behind (λ y. get_or l j 0 ≤ y) x l h)))))
      (λ e. rw e (least_is past l j (le_of_suc-le-suc i) g (behind (λ y. get_or l j 0 ≤ y) x l h)))
      (true_or (test x))
    where
      -- the least of those behind x, where it is not above x, is the least with x too
      lower : (m : List ℕ) → get_or l j 0 ≤ x → least_or None m ≡ Some (get_or l j 0) → least x m ≡ get_or l j 0
      lower [] b e = cc
      lower (y ∷ m) b e = let c : least y m ≡ get_or l j 0 = cc in omega arith

  -- the least is bounded by what bounds `past` and each that passes
  pub least_within : (past : Option ℕ) (d : ℕ) (l : List ℕ) → ((z : ℕ) → past ≡ Some z → z ≤ d) → Passing (λ x. x ≤ d) l
      → (q : ℕ) → least_or past (those test l) ≡ Some q → q ≤ d
  least_within past d [] b h q e = b q e
  least_within past d (x ∷ l) b h q e = ⊎_elim
      (λ t. let c : least x (those test l) ≡ q = same (rw t at e) in omega (arith, at_most (those test l), h 0 (omega arith) t))
      (λ t. least_within past d l b (behind (λ x. x ≤ d) x l h) q (rw t at e))
      (true_or (test x))
    where
      same : Some (least x (those test l)) ≡ Some q → least x (those test l) ≡ q
      same f = cc

      at_most : (m : List ℕ) → least x m ≤ x
      at_most [] = omega arith
      at_most (y ∷ m) = omega arith

  pub least_none : (past : Option ℕ) (l : List ℕ) → NonePasses l → least_or past (those test l) ≡ past
  least_none past [] h = refl
  least_none past (x ∷ l) h = rw (h 0 (omega arith)) (least_none past l (λ k a. h (suc k) (suc-le-suc a)))
