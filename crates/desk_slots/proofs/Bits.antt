-- The bits of a number: what `has` gives of halves, of the operators, shifts and complements, and that its bits determine a number. Assumes nothing.
use mathlib.Core.Path.{◌≡◌, refl, sym, ap, ◌∙◌, subst}
use mathlib.Core.Bool.{Bool, true, false, not, xor, ◌&&◌, ◌||◌}
use mathlib.Core.Logic.{⊎_elim}
use Prim.Native.Nat.{ℕ, zero, suc, ◌+◌, ◌-◌, ◌*◌, ◌/◌, ◌%◌, ◌^◌, ◌≤◌, ◌<◌, suc-le-suc}
use native.Mathlib.Nat.{div-div-eq-div-mul, pow-succ', pow-suc, div-eq_of_lt, lt_of_lt_of_le, div-one, mod-lt, mod-eq_of_lt, zero-div, le_of_suc-le-suc, not-suc-le-zero, zero-lt-suc, le_dest, mul-mod_left}
use native.Mathlib.Omega.{arith}
use borrow.Author.Tests.{eq-eqb}
use lib.Arith.{lt-one}
use lib.Bits.{bit_and, bit_or, bit_xor, and_shr, or_shr, xor_shr, and_mod, or_mod, xor_mod, and_mask, xor_add_and, shifted_half, shifted_even}
use lib.Dec.{T, eqb, eqb-suc-suc, eqb-zero-suc, eqb-suc-zero}
use lib.Pow.{pow_pos, pow_mono, shr-shr, shl-shr, field, mod-mod-pow}
use Rattle.ground.specs.Cases.{has}
use Rattle.ground.proofs.Cases.{le_or, clash}

-- a digit is 0 or 1
two : (P : ℕ → Type 0) → P 0 → P 1 → (x : ℕ) → x < 2 → P x
two P p q zero h = p
two P p q (suc zero) h = q
two P p q (suc (suc x)) h = absurd (not-suc-le-zero (le_of_suc-le-suc (le_of_suc-le-suc h)))

digit : (x : ℕ) → x % 2 < 2
digit x = mod-lt x (zero-lt-suc 1)

-- one bit further is the half's
pub has_half : (w s : ℕ) → has w (suc s) ≡ has (w / 2) s
unfolding has
has_half w s = ap (λ (x : ℕ). eqb (x % 2) 1) (ap (λ (x : ℕ). w / x) (pow-succ' 2 s) ∙ sym (div-div-eq-div-mul w 2 (2 ^ s)))

pub has_low : (w : ℕ) → has w 0 ≡ eqb (w % 2) 1
unfolding has
has_low w = ap (λ (x : ℕ). eqb (x % 2) 1) (div-one w)

pub has_zero : (s : ℕ) → has 0 s ≡ false
unfolding has
has_zero s = ap (λ (x : ℕ). eqb (x % 2) 1) (zero-div (2 ^ s))

-- a number below 2 ^ n has no bit from n on
pub has_above : (n w s : ℕ) → w < 2 ^ n → n ≤ s → has w s ≡ false
unfolding has
has_above n w s h l = ap (λ (x : ℕ). eqb (x % 2) 1) (div-eq_of_lt (lt_of_lt_of_le h (pow_mono l)))

-- the operators, bit by bit
module _ (op : ℕ → ℕ → ℕ) (f : Bool → Bool → Bool)
    (shr : (a b k : ℕ) → op a b / 2 ^ k ≡ op (a / 2 ^ k) (b / 2 ^ k))
    (low : (a b k : ℕ) → op a b % 2 ^ k ≡ op (a % 2 ^ k) (b % 2 ^ k))
    (p00 : eqb (op 0 0) 1 ≡ f false false) (p01 : eqb (op 0 1) 1 ≡ f false true)
    (p10 : eqb (op 1 0) 1 ≡ f true false) (p11 : eqb (op 1 1) 1 ≡ f true true) where
  op_digit : (x y : ℕ) → x < 2 → y < 2 → eqb (op x y) 1 ≡ f (eqb x 1) (eqb y 1)
  op_digit x y hx hy =
      two (λ x. eqb (op x y) 1 ≡ f (eqb x 1) (eqb y 1))
      (two (λ y. eqb (op 0 y) 1 ≡ f false (eqb y 1)) p00 p01 y hy)
      (two (λ y. eqb (op 1 y) 1 ≡ f true (eqb y 1)) p10 p11 y hy) x hx

  has_op : (a b s : ℕ) → has (op a b) s ≡ f (has a s) (has b s)
  unfolding has
  has_op a b s =
      ap (λ (x : ℕ). eqb x 1) (ap (λ (x : ℕ). x % 2) (shr a b s) ∙ low (a / 2 ^ s) (b / 2 ^ s) 1)
      ∙ op_digit (a / 2 ^ s % 2) (b / 2 ^ s % 2) (digit (a / 2 ^ s)) (digit (b / 2 ^ s))

pub has_or : (a b s : ℕ) → has (bit_or a b) s ≡ (has a s || has b s)
has_or = has_op bit_or ◌||◌ or_shr or_mod refl refl refl refl

pub has_and : (a b s : ℕ) → has (bit_and a b) s ≡ (has a s && has b s)
has_and = has_op bit_and ◌&&◌ and_shr and_mod refl refl refl refl

pub has_xor : (a b s : ℕ) → has (bit_xor a b) s ≡ xor (has a s) (has b s)
unfolding xor
has_xor = has_op bit_xor xor xor_shr xor_mod refl refl refl refl

-- one bit
pub has_pow : (s t : ℕ) → has (2 ^ s) t ≡ eqb s t
has_pow zero zero = has_low 1
has_pow zero (suc t) = has_half 1 t ∙ has_zero t ∙ sym (eqb-zero-suc t)
has_pow (suc s) zero =
    has_low (2 ^ suc s) ∙ ap (λ (x : ℕ). eqb x 1) (ap (λ (x : ℕ). x % 2) (pow-suc 2 s) ∙ mul-mod_left (2 ^ s) 2) ∙ sym (eqb-suc-zero s)
has_pow (suc s) (suc t) =
    has_half (2 ^ suc s) t ∙ ap (λ (x : ℕ). has x t) (ap (λ (x : ℕ). x / 2) (pow-suc 2 s) ∙ shl-shr (2 ^ s) 1) ∙ has_pow s t
    ∙ sym (eqb-suc-suc s t)

-- shifts
pub has_shr : (w k s : ℕ) → has (w / 2 ^ k) s ≡ has w (k + s)
unfolding has
has_shr w k s = ap (λ (x : ℕ). eqb (x % 2) 1) (shr-shr w k s)

pub has_shl : (w j s : ℕ) → has (w * 2 ^ j) (j + s) ≡ has w s
has_shl w j s = sym (has_shr (w * 2 ^ j) j s) ∙ ap (λ (x : ℕ). has x s) (shl-shr w j)

pub has_shl_below : (w j s : ℕ) → s < j → has (w * 2 ^ j) s ≡ false
has_shl_below w zero s h = absurd (not-suc-le-zero h)
has_shl_below w (suc j) zero h = has_low (w * 2 ^ suc j) ∙ ap (λ (x : ℕ). eqb x 1) (shifted_even w j)
has_shl_below w (suc j) (suc s) h =
    has_half (w * 2 ^ suc j) s ∙ ap (λ (x : ℕ). has x s) (shifted_half w j) ∙ has_shl_below w j s (le_of_suc-le-suc h)

-- the bits below m are kept by a cut at m
pub has_mod : (w m s : ℕ) → s < m → has (w % 2 ^ m) s ≡ has w s
unfolding has
has_mod w m s h =
    let j = (le_dest h).0 in
    let e : m ≡ j + 1 + s = omega (arith, (le_dest h).1) in
    ap (λ (x : ℕ). eqb (w % 2 ^ x / 2 ^ s % 2) 1) e
    ∙ ap (λ (x : ℕ). eqb (x % 2) 1) (field w (j + 1) s)
    ∙ ap (λ (x : ℕ). eqb x 1) (mod-mod-pow (w / 2 ^ s) j 1)

-- the complement at a width
and_true_of : (a b : Bool) → a ≡ true → (a && b) ≡ a → b ≡ true
and_true_of true b e p = p
and_true_of false true e p = refl
and_true_of false false e p = e

pub has_ones : (m s : ℕ) → s < m → has (2 ^ m - 1) s ≡ true
has_ones m s h =
    and_true_of (has (2 ^ s) s) (has (2 ^ m - 1) s) (has_pow s s ∙ eq-eqb s s refl)
    (sym (has_and (2 ^ s) (2 ^ m - 1) s) ∙ ap (λ (x : ℕ). has x s) (and_mask (2 ^ s) m) ∙ has_mod (2 ^ s) m s h)

not_xor : (m a : ℕ) → a < 2 ^ m → 2 ^ m - 1 - a ≡ bit_xor a (2 ^ m - 1)
not_xor m a h =
    let e : bit_and a (2 ^ m - 1) ≡ a = and_mask a m ∙ mod-eq_of_lt h in
    omega (arith, xor_add_and a (2 ^ m - 1), e)

xor_true : (a b : Bool) → b ≡ true → xor a b ≡ not a
unfolding xor
xor_true true true e = refl
xor_true false true e = refl
xor_true true false e = sym e
xor_true false false e = e

pub has_not : (m a s : ℕ) → a < 2 ^ m → s < m → has (2 ^ m - 1 - a) s ≡ not (has a s)
has_not m a s h l =
    ap (λ (x : ℕ). has x s) (not_xor m a h) ∙ has_xor a (2 ^ m - 1) s ∙ xor_true (has a s) (has (2 ^ m - 1) s) (has_ones m s l)

-- the bits of a number below 2 ^ n determine it
digits_eq : (x y : ℕ) → x < 2 → y < 2 → eqb x 1 ≡ eqb y 1 → x ≡ y
digits_eq zero zero hx hy e = refl
digits_eq zero (suc zero) hx hy e = absurd (subst T (sym e) tt)
digits_eq (suc zero) zero hx hy e = absurd (subst T e tt)
digits_eq (suc zero) (suc zero) hx hy e = refl
digits_eq zero (suc (suc y)) hx hy e = omega arith
digits_eq (suc zero) (suc (suc y)) hx hy e = omega arith
digits_eq (suc (suc x)) y hx hy e = omega arith

pub half_below : (n a : ℕ) → a < 2 ^ suc n → a / 2 < 2 ^ n
half_below n a h = let e : 2 ^ suc n ≡ 2 ^ n * 2 = pow-suc 2 n in omega arith

pub ext : (n a b : ℕ) → a < 2 ^ n → b < 2 ^ n → ((s : ℕ) → s < n → has a s ≡ has b s) → a ≡ b
ext zero a b ha hb e = lt-one ha ∙ sym (lt-one hb)
ext (suc n) a b ha hb e =
    let low : a % 2 ≡ b % 2 = digits_eq (a % 2) (b % 2) (digit a) (digit b) (sym (has_low a) ∙ e 0 (zero-lt-suc n) ∙ has_low b) in
    let rest : a / 2 ≡ b / 2 = ext n (a / 2) (b / 2) (half_below n a ha) (half_below n b hb)
    (λ s h. sym (has_half a s) ∙ e (suc s) (suc-le-suc h) ∙ has_half b s) in
    omega arith

-- a number with a bit set is not 0, and the bit lies below what bounds the number
pub has_pos : (w s : ℕ) → has w s ≡ true → 0 < w
has_pos zero s e = clash (sym (has_zero s) ∙ e)
has_pos (suc w) s e = zero-lt-suc w

pub has_lt : (n w s : ℕ) → w < 2 ^ n → has w s ≡ true → s < n
has_lt n w s h e = ⊎_elim (λ l. clash (sym (has_above n w s h l) ∙ e)) (λ l. l) (le_or n s)

-- no bit set
pub no_slot : (n w : ℕ) → w < 2 ^ n → ((s : ℕ) → s < n → has w s ≡ false) → w ≡ 0
no_slot n w h f = ext n w 0 h (pow_pos n) (λ s l. f s l ∙ sym (has_zero s))

-- no bit set from n on
pub has_bound : (n m w : ℕ) → n ≤ m → w < 2 ^ m → ((s : ℕ) → n ≤ s → s < m → has w s ≡ false) → w < 2 ^ n
has_bound n m w l h f =
    let below = mod-lt w (pow_pos n) in
    let same : w ≡ w % 2 ^ n = ext m w (w % 2 ^ n) h (lt_of_lt_of_le below (pow_mono l)) at in
    subst (λ (x : ℕ). x < 2 ^ n) (sym same) below
  where
    at : (s : ℕ) → s < m → has w s ≡ has (w % 2 ^ n) s
    at s k =
        ⊎_elim
        (λ q. f s q k ∙ sym (has_above n (w % 2 ^ n) s (mod-lt w (pow_pos n)) q))
        (λ q. sym (has_mod w n s q))
        (le_or n s)
