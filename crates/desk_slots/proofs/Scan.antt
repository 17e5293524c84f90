-- A loop that tries the distances d = 1, 2, .. , n: what the search finds from d on. The loop's invariant is `next n p a ≡ scan n p a d`.
-- Assumes nothing.
use mathlib.Core.Path.{◌≡◌, ap, ◌∙◌}
use mathlib.Core.Bool.{Bool, true, false, cond}
use Prim.Native.Nat.{ℕ, suc, ◌+◌, ◌-◌, ◌≤◌, ◌<◌}
use native.Mathlib.Omega.{arith}
use Rattle.desk_slots.specs.Round.{ahead, first, next}

-- what is found from distance d on
unfoldable pub scan : ℕ → (ℕ → Bool) → ℕ → ℕ → ℕ
scan n p a d = first n p a (n + 1 - d) d

module _ (n : ℕ) (p : ℕ → Bool) (a : ℕ) where
  pub scan_start : next n p a ≡ scan n p a 1
  unfolding scan next
  scan_start = let e : n ≡ n + 1 - 1 = omega arith in ap (λ (k : ℕ). first n p a k 1) e

  pub scan_hit : (d : ℕ) → d ≤ n → p (ahead n a d) ≡ true → scan n p a d ≡ ahead n a d
  unfolding scan first
  scan_hit d h e =
      let k : n + 1 - d ≡ suc (n - d) = omega arith in
      ap (λ (k : ℕ). first n p a k d) k ∙ ap (λ (t : Bool). cond t (ahead n a d) (first n p a (n - d) (suc d))) e

  pub scan_pass : (d : ℕ) → d ≤ n → p (ahead n a d) ≡ false → scan n p a d ≡ scan n p a (d + 1)
  unfolding scan first
  scan_pass d h e =
      let k : n + 1 - d ≡ suc (n - d) = omega arith in
      let l : n - d ≡ n + 1 - (d + 1) = omega arith in
      let s : suc d ≡ d + 1 = omega arith in
      ap (λ (k : ℕ). first n p a k d) k ∙ ap (λ (t : Bool). cond t (ahead n a d) (first n p a (n - d) (suc d))) e
      ∙ ap (λ (x : ℕ). first n p a x (suc d)) l ∙ ap (λ (x : ℕ). first n p a (n + 1 - (d + 1)) x) s

  pub scan_end : (d : ℕ) → n < d → scan n p a d ≡ n
  unfolding scan first
  scan_end d h = let k : n + 1 - d ≡ 0 = omega arith in ap (λ (k : ℕ). first n p a k d) k
