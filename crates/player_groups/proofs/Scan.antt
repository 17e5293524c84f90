-- The numbers of a span that pass a test, scanned from the front: a turn of the loop that counts them, and of the one that looks for the k-th.
-- Assumes nothing.
use mathlib.Core.Path.{◌≡◌, ap}
use mathlib.Core.Bool.{Bool, true, false}
use mathlib.Core.List.{[], ◌∷◌}
use Prim.Native.Nat.{ℕ, suc, ◌+◌, ◌-◌, ◌<◌, ◌≤◌}
use native.Mathlib.Omega.{arith}
use lib.ListN.{length}
use Rattle.std.specs.Prelude.{Option, Some, None}
use Rattle.ground.specs.Lists.{span, those}
use Rattle.player_walk.specs.Steps.{at}

-- at the start all is left
pub all_left : (b : ℕ) → span 0 (b - 0) ≡ span 0 b
all_left b = let e : b - 0 ≡ b = omega arith in ap (span 0) e

module _ (test : ℕ → Bool) (b i : ℕ) where
  opened : i < b → span i (b - i) ≡ i ∷ span (i + 1) (b - (i + 1))
  opened h =
      let e : b - i ≡ suc (b - (i + 1)) = omega arith in
      let q : i + 1 ≡ suc i = omega arith in
      rw (e, q)

  shut : b ≤ i → span i (b - i) ≡ []
  shut h = let e : b - i ≡ 0 = omega arith in rw e

  module _ (n N : ℕ) (inv : n + length (those test (span i (b - i))) ≡ N) where
    pub counted : i < b → (m : ℕ) → test i ≡ true → m ≡ n + 1 → m + length (those test (span (i + 1) (b - (i + 1)))) ≡ N
    counted h m t e = let r = rw t at (rw (opened h) at inv) in omega arith

    pub passed : i < b → (m : ℕ) → test i ≡ false → m ≡ n → m + length (those test (span (i + 1) (b - (i + 1)))) ≡ N
    passed h m t e = let r = rw t at (rw (opened h) at inv) in omega arith

    pub count_ends : b ≤ i → n ≡ N
    count_ends h = let r = rw (shut h) at inv in omega arith

  module _ (k : ℕ) (N : Option ℕ) (inv : at (those test (span i (b - i))) k ≡ N) where
    pub found : i < b → test i ≡ true → k ≡ 0 → Some i ≡ N
    found h t e = rw e at (rw t at (rw (opened h) at inv))

    pub nearer : i < b → (m : ℕ) → test i ≡ true → (k ≡ 0 → ⊥) → m ≡ k - 1 → at (those test (span (i + 1) (b - (i + 1)))) m ≡ N
    nearer h m t n e = let q : k ≡ suc m = omega arith in rw q at (rw t at (rw (opened h) at inv))

    pub skipped : i < b → (m : ℕ) → test i ≡ false → m ≡ k → at (those test (span (i + 1) (b - (i + 1)))) m ≡ N
    skipped h m t e = rw e (rw t at (rw (opened h) at inv))

    pub search_ends : b ≤ i → None ≡ N
    search_ends h = rw (shut h) at inv
