-- A bitwise or of octets is at least each of them. Assumes nothing.
use mathlib.Core.Path.{◌≡◌}
use mathlib.Core.List.{List}
use mathlib.Core.Logic.{⊎_elim}
use Prim.Native.Nat.{ℕ, ◌+◌, ◌≤◌, ◌<◌}
use native.Mathlib.Nat.{eq-or-lt_of_le}
use native.Mathlib.Omega.{arith}
use lib.Bits.{bit_or, or_add_and, and_le_l, and_le_r}
use lib.ListN.{get_or}

-- no octet from a place up to i exceeds the number
abbrev pub Over : List ℕ → ℕ → ℕ → ℕ → Type 0
Over s from i bits = (k : ℕ) → from ≤ k → k < i → get_or s k 0 ≤ bits

-- one octet more
pub over_more : (s : List ℕ) (from i bits j : ℕ) → j ≡ i + 1 → Over s from i bits → Over s from j (bit_or bits (get_or s i 0))
over_more s from i bits j e low k l h =
    let x = get_or s i 0 in
    let q : k ≤ i = omega arith in
    ⊎_elim
    (λ e. rw e (omega (arith, or_add_and bits x, and_le_l bits x)))
    (λ m. omega (arith, low k l m, or_add_and bits x, and_le_r bits x))
    (eq-or-lt_of_le q)

-- the first octet
pub over_one : (s : List ℕ) (from : ℕ) → Over s from (from + 1) (get_or s from 0)
over_one s from k l h = let e : k ≡ from = omega arith in rw e (omega arith)
