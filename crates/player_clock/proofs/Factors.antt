-- The factor of a speed (SCOPE 13.2): a test that computes; what is known of a table whose every entry passes it; and that a speed has one factor only.
-- Assumes nothing.
use mathlib.Core.Path.{◌≡◌, refl}
use mathlib.Core.Bool.{Bool, true, false}
use mathlib.Core.List.{List, [], ◌∷◌}
use mathlib.Core.Logic.{⊎_elim}
use Prim.Native.Nat.{ℕ, zero, suc, ◌+◌, ◌*◌, ◌-◌, ◌^◌, ◌≤◌, ◌<◌, zero-le}
use native.Mathlib.Nat.{pow-le-pow_left, pow-le-pow_right, pow-suc, pow-zero, one-mul, add-zero, zero-add, le_of_suc-le-suc, not-suc-le-zero, le_antisymm}
use native.Mathlib.Decide.{dec_le}
use native.Mathlib.Omega.{arith}
use borrow.Author.Tests.{leb-true, ltb-true, ltb-false, lt-ltb}
use lib.Dec.{leb, ltb}
use lib.ListN.{length, get_or}
use Rattle.ground.specs.Cases.{pick}
use Rattle.ground.proofs.Cases.{le_or, and_left, and_right}
use Rattle.player_clock.specs.Clock.{Factor, is_factor, factors_from, table_rule, first_from, above, factor_of}

pub factor_of_lem : (q e : ℕ) → is_factor q e ≡ true → Factor q e
factor_of_lem q e t =
    let a = leb ((2 * e - 1) ^ 64) (2 ^ (960 + q)) in
    let b = above q e in
    record { low = leb-true _ _ (and_left a b t); high = ltb-true _ _ (and_right a b t) }

entries : (s : List ℕ) (q : ℕ) → factors_from q s ≡ true → (k : ℕ) → k < length s → is_factor (q + k) (get_or s k 0) ≡ true
unfolding factors_from
entries [] q t k h = absurd (not-suc-le-zero h)
entries (e ∷ s) q t zero h =
    rw (add-zero q) (and_left (is_factor q e) (factors_from (suc q) s) t)
entries (e ∷ s) q t (suc k) h =
    let m : q + suc k ≡ suc q + k = omega arith in
    rw m (entries s (suc q) (and_right (is_factor q e) (factors_from (suc q) s) t) k (le_of_suc-le-suc h))

-- THE law: a table that passes the test has at each place the factor of that place
pub factors : (table : List ℕ) → table_rule table ≡ true → (q : ℕ) → q < length table → Factor q (get_or table q 0)
unfolding table_rule
factors table t q h = factor_of_lem q (get_or table q 0) (rw (zero-add q) at (entries table 0 t q h))

not_below : (q e f : ℕ) → Factor q e → Factor q f → e < f → ⊥
not_below q e f p r h =
    let k : 2 * e + 1 ≤ 2 * f - 1 = omega arith in
    omega (arith, pow-le-pow_left k 64, p.high, r.low)

pub factor_only : (q e f : ℕ) → Factor q e → Factor q f → e ≡ f
factor_only q e f p r =
    elim (dec_le e f) [
      | yes h ↦ elim (dec_le f e) [ yes k ↦ le_antisymm h k | no k ↦ absurd (not_below q e f p r (omega arith)) ]
      | no h ↦ absurd (not_below q f e r p (omega arith))
    ]

-- what the search finds passes the test, if the last number that it may look at does
first_passes : (test : ℕ → Bool) (n i : ℕ) → test (i + n) ≡ true → test (first_from test n i) ≡ true
unfolding first_from
first_passes test zero i h = let e : i + 0 ≡ i = omega arith in rw e at h
first_passes test (suc n) i h =
    let e : i + suc n ≡ suc i + n = omega arith in
    by (test i) refl (first_passes test n (suc i) (rw e at h))
  where
    by : (t : Bool) → test i ≡ t → test (first_from test n (suc i)) ≡ true → test (pick t i (first_from test n (suc i))) ≡ true
    by true h r = h
    by false h r = r

-- and the number before it, if the search went on at all, does not pass
first_least : (test : ℕ → Bool) (n i j : ℕ) → i ≤ j → first_from test n i ≡ suc j → test j ≡ false
unfolding first_from
first_least test zero i j h e = absurd (let z : ⊥ = omega arith in z)
first_least test (suc n) i j h e = by (test i) refl (λ k. first_least test n (suc i) j k) e
  where
    by : (t : Bool) → test i ≡ t → (suc i ≤ j → first_from test n (suc i) ≡ suc j → test j ≡ false)
        → pick t i (first_from test n (suc i)) ≡ suc j → test j ≡ false
    by true p r e = absurd (let z : ⊥ = omega arith in z)
    by false p r e = ⊎_elim (λ k. r k e) (λ k. let q : j ≡ i = omega arith in rw q p) (le_or (suc i) j)

above_late : (q n : ℕ) → n ≡ 2 ^ (960 + q) → above q n ≡ true
above_late q n e =
    let p : (2 * n + 1) ^ 1 ≤ (2 * n + 1) ^ 64 = pow-le-pow_right (omega arith) (omega arith) in
    let one : (2 * n + 1) ^ 1 ≡ 2 * n + 1 = rw (pow-suc (2 * n + 1) 0, pow-zero, one-mul) in
    let l : 2 ^ (960 + q) < (2 * n + 1) ^ 64 = omega arith in
    lt-ltb _ _ l

below : (q e : ℕ) → ((j : ℕ) → e ≡ suc j → above q j ≡ false) → (2 * e - 1) ^ 64 ≤ 2 ^ (960 + q)
below q zero h = zero-le
below q (suc j) h =
    let k : 2 * suc j - 1 ≡ 2 * j + 1 = omega arith in
    rw k (ltb-false _ _ (h j refl))

-- each place has a factor
pub factor_meets : (q : ℕ) → Factor q (factor_of q)
unfolding factor_of
factor_meets q =
    record {
      low = below q (factor_of q) (λ j e. first_least (above q) (2 ^ (960 + q)) 0 j zero-le e);
      high = ltb-true _ _ (first_passes (above q) (2 ^ (960 + q)) 0 (above_late q (0 + 2 ^ (960 + q)) (omega arith)));
    }

-- and no other number is one
pub factor_is : (q e : ℕ) → Factor q e → e ≡ factor_of q
factor_is q e p = factor_only q e (factor_of q) p (factor_meets q)
