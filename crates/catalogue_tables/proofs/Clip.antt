-- A part that is cut off at the end of its list is the part. Assumes nothing.
use mathlib.Core.Path.{◌≡◌, sym, ◌∙◌}
use mathlib.Core.List.{List}
use mathlib.Core.Logic.{⊎_elim}
use Prim.Native.Nat.{ℕ, min, ◌+◌, ◌-◌, ◌≤◌}
use native.Mathlib.Omega.{arith}
use lib.ListN.{length, take, drop, length-drop, drop_of_length-le}
use lib.Seq.{take_all, take-nil}
use Rattle.ground.proofs.Cases.{le_or}

module _ {A : Type 0} (s : List A) (first count : ℕ) where
  -- as many as there are, or fewer
  cut : (l : List A) (n : ℕ) → n ≡ min count (length l) → take n l ≡ take count l
  cut l n e =
      ⊎_elim
      (λ h. let q : n ≡ count = omega arith in rw q)
      (λ h. take_all n l (omega arith) ∙ sym (take_all count l (omega arith)))
      (le_or count (length l))

  pub clipped : (a e : ℕ) → a ≡ min first (length s) → e ≡ a + min count (length s - a) → take (e - a) (drop a s) ≡ take count (drop first s)
  clipped a e p q =
      ⊎_elim
      (λ h.
      let f : a ≡ first = omega arith in
      rw f (cut (drop first s) (e - first) (omega (arith, length-drop first s))))
      (λ h.
      let l : length s ≤ a = omega arith in
      let l' : length s ≤ first = omega arith in
      rw (drop_of_length-le s l, drop_of_length-le s l', take-nil (e - a), take-nil count))
      (le_or first (length s))
