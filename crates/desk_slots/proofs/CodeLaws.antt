-- What the operators give at words of m bits, for n slots: the sets. Assumes nothing.
use mathlib.Core.Path.{◌≡◌, sym, ap, ◌∙◌, subst}
use mathlib.Core.Bool.{Bool, ◌&&◌}
use Prim.Native.Nat.{ℕ, ◌-◌, ◌*◌, ◌%◌, ◌^◌, ◌≤◌, ◌<◌}
use native.Mathlib.Nat.{lt_of_lt_of_le, mod-eq_of_lt, one-mul}
use native.Mathlib.Omega.{arith}
use lib.Bits.{bit_and, bit_or, and_le_l}
use lib.Pow.{pow_mono, pow-lt}
use Rattle.ground.specs.Cases.{has}
use Rattle.desk_slots.specs.Slots.{insert, remove, minus}
use Rattle.desk_slots.proofs.Bits.{has_and, has_not, ext}
use Rattle.desk_slots.proofs.SlotLaws.{has_minus, minus_lt, insert_lt, remove_lt}

-- `w & !v` at m bits
pub minus_code : (m w v : ℕ) → w < 2 ^ m → v < 2 ^ m → bit_and w (2 ^ m - 1 - v) ≡ minus w v
minus_code m w v hw hv =
    ext m (bit_and w (2 ^ m - 1 - v)) (minus w v) (omega (arith, and_le_l w (2 ^ m - 1 - v))) (minus_lt m w v hw)
    (λ s h. has_and w (2 ^ m - 1 - v) s ∙ ap (λ (b : Bool). has w s && b) (has_not m v s hv h) ∙ sym (has_minus w v s))

-- `1 << s` at m bits
pub bit_code : (m s : ℕ) → s < m → 1 * 2 ^ s % 2 ^ m ≡ 2 ^ s
bit_code m s h = ap (λ (x : ℕ). x % 2 ^ m) (one-mul (2 ^ s)) ∙ mod-eq_of_lt (pow-lt h)

-- the bound and the equation of a contract
both : (n r v : ℕ) → r ≡ v → v < 2 ^ n → (r < 2 ^ n) × (r ≡ v)
both n r v e h = (subst (λ (x : ℕ). x < 2 ^ n) (sym e) h, e)

-- `w | (1 << s)`
pub insert_code : (m n w s : ℕ) → n ≤ m → w < 2 ^ n → s < n → (bit_or w (1 * 2 ^ s % 2 ^ m) < 2 ^ n) × (bit_or w (1 * 2 ^ s % 2 ^ m) ≡ insert w s)
unfolding insert
insert_code m n w s l h k =
    both n (bit_or w (1 * 2 ^ s % 2 ^ m)) (insert w s) (ap (bit_or w) (bit_code m s (omega arith))) (insert_lt n w s h k)

-- `w & !(1 << s)`
pub remove_code : (m n w s : ℕ) → n ≤ m → w < 2 ^ n → s < n
    → (bit_and w (2 ^ m - 1 - 1 * 2 ^ s % 2 ^ m) < 2 ^ n) × (bit_and w (2 ^ m - 1 - 1 * 2 ^ s % 2 ^ m) ≡ remove w s)
unfolding remove minus
remove_code m n w s l h k =
    both n (bit_and w (2 ^ m - 1 - 1 * 2 ^ s % 2 ^ m)) (remove w s)
    (ap (λ (x : ℕ). bit_and w (2 ^ m - 1 - x)) (bit_code m s (omega arith))
    ∙ minus_code m w (2 ^ s) (lt_of_lt_of_le h (pow_mono l)) (pow-lt (lt_of_lt_of_le k l)))
    (remove_lt n w s h)
