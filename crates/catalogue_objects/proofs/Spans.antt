-- Numbers one behind the other, and those of them that pass a test, from the front. Assumes nothing.
use mathlib.Core.Path.{◌≡◌, refl, ap, ◌∙◌}
use mathlib.Core.Bool.{Bool, true, false}
use mathlib.Core.List.{[], ◌∷◌}
use Prim.Native.Nat.{ℕ, zero, suc, ◌+◌}
use native.Mathlib.Omega.{arith}
use lib.ListN.{length}
use Rattle.ground.specs.Lists.{span, those}

module _ (a n : ℕ) where
  pub span_opens : (b m : ℕ) → n ≡ m + 1 → b ≡ a + 1 → span a n ≡ a ∷ span b m
  span_opens b m e f =
      let one : n ≡ suc m = omega arith in
      let next : suc a ≡ b = omega arith in
      ap (span a) one ∙ ap (λ (x : ℕ). a ∷ span x m) next

  pub span_shuts : n ≡ 0 → span a n ≡ []
  span_shuts e = ap (span a) e

module _ (test : ℕ → Bool) (a n b m : ℕ) (e : n ≡ m + 1) (f : b ≡ a + 1) where
  pub those_taken : test a ≡ true → those test (span a n) ≡ a ∷ those test (span b m)
  those_taken t = ap (those test) (span_opens a n b m e f) ∙ rw t

  pub those_passed : test a ≡ false → those test (span a n) ≡ those test (span b m)
  those_passed t = ap (those test) (span_opens a n b m e f) ∙ rw t

pub span_long : (first n : ℕ) → length (span first n) ≡ n
span_long first zero = refl
span_long first (suc n) = ap suc (span_long (suc first) n)
