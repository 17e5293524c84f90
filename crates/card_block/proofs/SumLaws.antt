-- The sum of the running sums as a sum with weights, over a whole and over its two halves, and how great both sums become. Assumes nothing.
use mathlib.Core.Path.{◌≡◌, ap}
use mathlib.Core.List.{List, [], ◌∷◌, ◌++◌}
use Prim.Native.Nat.{ℕ, suc, ◌+◌, ◌*◌, ◌≤◌, ◌<◌, suc-le-suc}
use native.Mathlib.Nat.{mul-add, suc-mul, mul-suc, mul_comm, mul-le-mul, mul-le-mul_left, zero-add}
use native.Mathlib.Numerals.{add-one}
use native.Mathlib.Omega.{arith}
use lib.ListN.{length, get_or, take, drop, length-drop, take-append-drop}
use lib.Seq.{drop-cons, take_all}
use Rattle.card_block.specs.Sums.{sum_of, running_sums}

-- octet i of n counts n − i times
unfoldable pub weighted : List ℕ → ℕ
weighted [] = 0
weighted (x ∷ s) = suc (length s) * x + weighted s

-- what was summed before stands in each running sum, and octet i in all but the first i
running_weighted : (s : List ℕ) (before : ℕ) → sum_of (running_sums before s) ≡ length s * before + weighted s
unfolding sum_of running_sums weighted
running_weighted [] before = omega arith
running_weighted (x ∷ s) before =
    let again = running_weighted s (before + x) in
    let n = length s in
    omega (arith, again, mul-add n before x, suc-mul n before, suc-mul n x)

-- THE closed form: the sum of the running sums is the sum with weights
pub running_is_weighted : (s : List ℕ) → sum_of (running_sums 0 s) ≡ weighted s
running_is_weighted s = omega (arith, running_weighted s 0)

-- the sums of a list in two parts: the running sums of the second begin at the sum of the first
sum_joined : (a b : List ℕ) → sum_of (a ++ b) ≡ sum_of a + sum_of b
unfolding sum_of
sum_joined [] b = omega arith
sum_joined (x ∷ a) b = omega (arith, sum_joined a b)

running_joined : (a b : List ℕ) (before : ℕ)
    → sum_of (running_sums before (a ++ b)) ≡ sum_of (running_sums before a) + sum_of (running_sums (before + sum_of a) b)
unfolding sum_of running_sums
running_joined [] b before = let e : before + 0 ≡ before = omega arith in rw e (omega arith)
running_joined (x ∷ a) b before =
    let e : before + (x + sum_of a) ≡ before + x + sum_of a = omega arith in
    rw e (omega (arith, running_joined a b (before + x)))

pub sums_joined : (a b : List ℕ)
    → (sum_of (a ++ b) ≡ sum_of a + sum_of b)
    × (sum_of (running_sums 0 (a ++ b)) ≡ sum_of (running_sums 0 a) + length b * sum_of a + sum_of (running_sums 0 b))
sums_joined a b = (
  sum_joined a b,
  omega (arith, simp zero-add at (running_joined a b 0), running_weighted b (sum_of a), running_is_weighted b),
)

-- a turn of the loop
pub sum_turn : (s : List ℕ) (i : ℕ) → i < length s → sum_of (drop i s) ≡ get_or s i 0 + sum_of (drop (i + 1) s)
unfolding sum_of
sum_turn s i h = rw (add-one, drop-cons s i 0)

pub weighted_turn : (s : List ℕ) (i weight : ℕ) → i < length s → weight + i ≡ length s
    → weighted (drop i s) ≡ weight * get_or s i 0 + weighted (drop (i + 1) s)
unfolding weighted
weighted_turn s i weight h e =
    let n : suc (length (drop (suc i) s)) ≡ weight = rw length-drop (omega arith) in
    rw (add-one, drop-cons s i 0) (ap (λ (w : ℕ). w * get_or s i 0 + weighted (drop (suc i) s)) n)

-- each element is an octet; behind the end stands 0
abbrev pub Octets : List ℕ → Type 0
Octets s = (i : ℕ) → get_or s i 0 < 256

sum_most : (s : List ℕ) → Octets s → sum_of s ≤ 255 * length s
unfolding sum_of
sum_most [] o = omega arith
sum_most (x ∷ s) o = omega (arith, o 0, sum_most s (λ i. o (suc i)))

weighted_most : (s : List ℕ) → Octets s → 2 * weighted s ≤ 255 * (length s * suc (length s))
unfolding weighted
weighted_most [] o = omega arith
weighted_most (x ∷ s) o =
    let n = length s in
    let l : x ≤ 255 = omega (arith, o 0) in
    omega (arith, weighted_most s (λ i. o (suc i)), mul-le-mul_left (suc n) l, mul-suc (suc n) (suc n), mul-suc (suc n) n, mul_comm (suc n) n)

-- how great both sums of so many octets become
pub sums_most : (s : List ℕ) (n : ℕ) → Octets s → length s ≤ n → (sum_of s ≤ 255 * n) × (2 * sum_of (running_sums 0 s) ≤ 255 * (n * suc n))
sums_most s n o h = (
  omega (arith, sum_most s o),
  omega (arith, running_is_weighted s, weighted_most s o, mul-le-mul_left 255 (mul-le-mul h (suc-le-suc h))),
)

-- THE bound: of 510 octets neither sum exceeds 32 bits, so that both may be summed plainly
pub sums_fit : (s : List ℕ) → Octets s → length s ≤ 510 → (sum_of s ≤ 130050) × (sum_of (running_sums 0 s) ≤ 33227775)
sums_fit s o h = let m = sums_most s 510 o h in (m.0, omega arith)

-- 510 octets in halves of 255: both sums of the whole, from those of the halves, and that they fit
pub record FromHalves (s : List ℕ) (plain₁ running₁ plain₂ running₂ : ℕ) : Type 0 where
  pub plain : plain₁ + plain₂ ≡ sum_of s
  pub running : running₁ + 255 * plain₁ + running₂ ≡ sum_of (running_sums 0 s)
  pub plain_fits : plain₁ + plain₂ ≤ 130050
  pub running_fits : running₁ + 255 * plain₁ + running₂ ≤ 33227775

pub from_halves : (s : List ℕ) (plain₁ running₁ plain₂ running₂ : ℕ) → Octets s → length s ≡ 510
    → (plain₁ ≡ sum_of (take 255 s)) × (running₁ ≡ sum_of (running_sums 0 (take 255 s)))
    → (plain₂ ≡ sum_of (take 255 (drop 255 s))) × (running₂ ≡ sum_of (running_sums 0 (take 255 (drop 255 s))))
    → FromHalves s plain₁ running₁ plain₂ running₂
from_halves s plain₁ running₁ plain₂ running₂ o h a b =
    let n : length (drop 255 s) ≡ 255 = rw length-drop (omega arith) in
    let l : length (drop 255 s) ≤ 255 = omega arith in
    let j = rw (take-append-drop 255 s, n) at (sums_joined (take 255 s) (drop 255 s)) in
    let z = rw (take_all 255 (drop 255 s) l) at b in
    let f = sums_fit s o (omega arith) in
    let p : plain₁ + plain₂ ≡ sum_of s = omega (arith, a, z, j) in
    let r : running₁ + 255 * plain₁ + running₂ ≡ sum_of (running_sums 0 s) = omega (arith, a, z, j) in
    record { plain = p; running = r; plain_fits = omega (arith, f); running_fits = omega (arith, f) }
