-- Steps of the clock (SCOPE 13.3): the sum fits, speed 0 is the wall clock, two steps come to one, and a rest stays a rest. Assumes nothing.
use mathlib.Core.Path.{◌≡◌, refl, sym, ap, ◌∙◌}
use mathlib.Core.Bool.{true}
use Prim.Native.Nat.{ℕ, min, ◌+◌, ◌*◌, ◌/◌, ◌%◌, ◌≤◌, ◌<◌}
use native.Mathlib.Nat.{mul-le-mul, add-mul}
use native.Mathlib.Omega.{arith}
use borrow.Author.Tests.{ltb-true, lt-ltb}
use Rattle.ground.specs.Limits.{most_duration}
use Rattle.player_clock.specs.Clock.{factor_of, place_of, parts, stepped_by, stepped, rest_rule}
use Rattle.player_clock.proofs.Factors.{factor_of_lem, factor_is}

-- nothing wraps: any three numbers of 32 bits make a sum of 64 bits
pub product_fits : {a b : ℕ} → a < 4294967296 → b < 4294967296 → a * b ≤ 18446744065119617025
product_fits {a} {b} h k =
    let h' : a ≤ 4294967295 = omega arith in
    let k' : b ≤ 4294967295 = omega arith in
    mul-le-mul h' k'

pub sum_fits : {rest d e : ℕ} → rest < 4294967296 → d < 4294967296 → e < 4294967296 → rest + d * e < 18446744073709551616
sum_fits h k l = omega (arith, product_fits k l)

-- p is 0: 65,536 is the factor
pub factor_at_zero : factor_of 128 ≡ 65536
factor_at_zero = sym (factor_is 128 65536 (factor_of_lem 128 65536 refl))

-- at speed 0 a step of d goes on by d, and the rest stays
pub step_at_zero : (rest d : ℕ) → rest < parts → stepped rest d 0 ≡ record { whole = min d most_duration; rest = rest }
unfolding stepped
step_at_zero rest d h =
    let w : (rest + d * 65536) / 65536 ≡ d = omega arith in
    let r : (rest + d * 65536) % 65536 ≡ rest = omega arith in
    ap (λ (e : ℕ). stepped_by e rest d) factor_at_zero ∙ (λ i. record { whole = min (w i) most_duration; rest = r i })

-- steps of d₁ and then of d₂ come to the step of d₁ + d₂, at any one factor, where that step is not held
joined : (e rest d₁ d₂ : ℕ) → (rest + (d₁ + d₂) * e) / parts ≤ most_duration
    → ((stepped_by e rest d₁).whole + (stepped_by e (stepped_by e rest d₁).rest d₂).whole ≡ (stepped_by e rest (d₁ + d₂)).whole)
    × ((stepped_by e (stepped_by e rest d₁).rest d₂).rest ≡ (stepped_by e rest (d₁ + d₂)).rest)
joined e rest d₁ d₂ h =
    let s = add-mul d₁ d₂ e in (omega arith, omega arith)

pub steps_join : (rest d₁ d₂ speed : ℕ) → (stepped rest (d₁ + d₂) speed).whole < most_duration
    → ((stepped rest d₁ speed).whole + (stepped (stepped rest d₁ speed).rest d₂ speed).whole ≡ (stepped rest (d₁ + d₂) speed).whole)
    × ((stepped (stepped rest d₁ speed).rest d₂ speed).rest ≡ (stepped rest (d₁ + d₂) speed).rest)
unfolding stepped
steps_join rest d₁ d₂ speed h = joined (factor_of (place_of speed)) rest d₁ d₂ (omega arith)

-- what a step leaves is a rest
pub step_leaves : (rest d speed : ℕ) → rest_rule (stepped rest d speed).rest ≡ true
unfolding stepped
step_leaves rest d speed =
    let total = rest + d * factor_of (place_of speed) in
    lt-ltb (total % parts) parts (omega arith)

pub rest_below : (rest : ℕ) → rest_rule rest ≡ true → rest < parts
rest_below rest h = ltb-true _ _ h
