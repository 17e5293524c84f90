-- The lowest bit of a number, by its trailing zeros at any width. Assumes nothing.
use mathlib.Core.Path.{◌≡◌, refl, sym, ap, ◌∙◌}
use mathlib.Core.Bool.{true, false}
use mathlib.Core.Logic.{⊎_elim}
use Prim.Native.Nat.{ℕ, zero, suc, ◌/◌, ◌%◌, ◌^◌, ◌≤◌, ◌<◌, suc-le-suc}
use native.Mathlib.Nat.{mod-lt, le_of_suc-le-suc, not-suc-le-zero, zero-lt-suc}
use native.Mathlib.Omega.{arith}
use lib.Count.{count_trailing_zeros, under}
use lib.Dec.{eqb}
use Rattle.ground.specs.Cases.{has}
use Rattle.ground.proofs.Cases.{le_or, clash}
use Rattle.desk_slots.proofs.Bits.{has_half, has_low, half_below}

-- no bit is set below the count
pub zeros_below : (m w s : ℕ) → s < count_trailing_zeros m w → has w s ≡ false
unfolding count_trailing_zeros
zeros_below zero w s h = absurd (not-suc-le-zero h)
zeros_below (suc m) w s h = go (w % 2) refl s h (zeros_below m (w / 2))
  where
    go : (d : ℕ) → w % 2 ≡ d → (s : ℕ) → s < under d (count_trailing_zeros m (w / 2))
        → ((s : ℕ) → s < count_trailing_zeros m (w / 2) → has (w / 2) s ≡ false) → has w s ≡ false
    go zero e zero h ih = has_low w ∙ ap (λ (x : ℕ). eqb x 1) e
    go zero e (suc s) h ih = has_half w s ∙ ih s (le_of_suc-le-suc h)
    go (suc d) e s h ih = absurd (not-suc-le-zero h)

-- the bit at the count is set, where the count is below the width
pub zeros_at : (m w : ℕ) → count_trailing_zeros m w < m → has w (count_trailing_zeros m w) ≡ true
unfolding count_trailing_zeros
zeros_at zero w h = absurd (not-suc-le-zero h)
zeros_at (suc m) w h = go (w % 2) refl (mod-lt w (zero-lt-suc 1)) h (zeros_at m (w / 2))
  where
    go : (d : ℕ) → w % 2 ≡ d → w % 2 < 2 → under d (count_trailing_zeros m (w / 2)) < suc m
        → (count_trailing_zeros m (w / 2) < m → has (w / 2) (count_trailing_zeros m (w / 2)) ≡ true) → has w (under d (count_trailing_zeros m (w / 2))) ≡ true
    go zero e l h ih = has_half w (count_trailing_zeros m (w / 2)) ∙ ih (le_of_suc-le-suc h)
    go (suc d) e l h ih = let o : w % 2 ≡ 1 = omega arith in has_low w ∙ ap (λ (x : ℕ). eqb x 1) o

-- so the count is at most any bit that is set
pub zeros_le : (m w s : ℕ) → has w s ≡ true → count_trailing_zeros m w ≤ s
zeros_le m w s e = ⊎_elim (λ h. h) (λ h. clash (sym (zeros_below m w s h) ∙ e)) (le_or (count_trailing_zeros m w) s)

-- a number that is not 0 has a lowest bit
pub zeros_lt : (n w : ℕ) → 0 < w → w < 2 ^ n → count_trailing_zeros n w < n
unfolding count_trailing_zeros
zeros_lt zero w p h = omega arith
zeros_lt (suc n) w p h = go (w % 2) refl (λ q. zeros_lt n (w / 2) q (half_below n w h))
  where
    go : (d : ℕ) → w % 2 ≡ d → (0 < w / 2 → count_trailing_zeros n (w / 2) < n) → under d (count_trailing_zeros n (w / 2)) < suc n
    go zero e ih = suc-le-suc (ih (omega arith))
    go (suc d) e ih = zero-lt-suc n

-- so a set that is not 0 has a slot
pub some_slot : (n w : ℕ) → 0 < w → w < 2 ^ n → (s : ℕ) × (s < n) × (has w s ≡ true)
some_slot n w p h = let l = zeros_lt n w p h in (count_trailing_zeros n w, l, zeros_at n w l)
