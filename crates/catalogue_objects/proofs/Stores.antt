-- Stores one behind the other lay a list; and what stands at a place, seen from the place on. Assumes nothing.
use mathlib.Core.Path.{◌≡◌, ap, ◌∙◌}
use mathlib.Core.List.{List, [], ◌∷◌, append_assoc}
use Prim.Native.Nat.{ℕ, suc, ◌+◌, ◌≤◌}
use native.Mathlib.Nat.{add-zero, add_assoc}
use native.Mathlib.Omega.{arith}
use lib.ListN.{length, get_or, set, take, drop}
use lib.Seq.{sets, sets-eq, get_or-drop}
use Rattle.ground.specs.Lists.{laid}
use Rattle.ground.specs.Words.{half_at}

module _ (d : List ℕ) (at : ℕ) where
  pub laid_run : (vs : List ℕ) → at + length vs ≤ length d → sets d at vs ≡ laid d at vs
  unfolding laid
  laid_run vs h = sets-eq vs d at h ∙ append_assoc (take at d) vs (drop (at + length vs) d)

  pub laid_three : (a b c : ℕ) → at + 3 ≤ length d → set (set (set d at a) (at + 1) b) (at + 2) c ≡ laid d at (a ∷ b ∷ c ∷ [])
  laid_three a b c h =
      let p1 : at + 1 ≡ suc at = omega arith in
      let p2 : at + 2 ≡ suc (suc at) = omega arith in
      (λ i. set (set (set d at a) (p1 i) b) (p2 i) c) ∙ laid_run (a ∷ b ∷ c ∷ []) h

  pub laid_seven : (a b c e f g h : ℕ) → at + 7 ≤ length d
      → set (set (set (set (set (set (set d at a) (at + 1) b) (at + 2) c) (at + 3) e) (at + 4) f) (at + 5) g) (at + 6) h ≡ laid d at (a ∷ b ∷ c ∷ e ∷ f ∷ g ∷ h ∷ [])
  laid_seven a b c e f g h room =
      let p1 : at + 1 ≡ suc at = omega arith in
      let p2 : at + 2 ≡ suc (suc at) = omega arith in
      let p3 : at + 3 ≡ suc (suc (suc at)) = omega arith in
      let p4 : at + 4 ≡ suc (suc (suc (suc at))) = omega arith in
      let p5 : at + 5 ≡ suc (suc (suc (suc (suc at)))) = omega arith in
      let p6 : at + 6 ≡ suc (suc (suc (suc (suc (suc at))))) = omega arith in
      (λ i. set (set (set (set (set (set (set d at a) (p1 i) b) (p2 i) c) (p3 i) e) (p4 i) f) (p5 i) g) (p6 i) h)
      ∙ laid_run (a ∷ b ∷ c ∷ e ∷ f ∷ g ∷ h ∷ []) room

module _ (s : List ℕ) (at : ℕ) where
  pub first_of : get_or (drop at s) 0 0 ≡ get_or s at 0
  first_of = get_or-drop at s 0 0 ∙ ap (λ (i : ℕ). get_or s i 0) (add-zero at)

  pub half_of : (k : ℕ) → half_at (drop at s) k ≡ half_at s (at + k)
  half_of k = simp (get_or-drop, add_assoc)
