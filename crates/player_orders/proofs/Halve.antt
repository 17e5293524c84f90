-- Halving the range of keys finds the key at a place. Assumes nothing.
use mathlib.Core.Path.{◌≡◌, sym, ◌∙◌}
use mathlib.Core.Logic.{⊎_elim}
use mathlib.Core.List.{List}
use Prim.Native.Nat.{ℕ, ◌+◌, ◌<◌, ◌≤◌}
use native.Mathlib.Nat.{eq-or-lt_of_le, lt_irrefl}
use native.Mathlib.Omega.{arith}
use lib.ListN.{length, get_or}
use Rattle.std.specs.Prelude.{None}
use Rattle.ground.specs.Limits.{most_tracks}
use Rattle.ground.specs.Lists.{span}
use Rattle.ground.proofs.Cases.{le_or}
use Rattle.player_walk.specs.Steps.{at}
use Rattle.player_walk.proofs.Walk.{at_none}
use Rattle.player_orders.specs.declared.By.{By}
use Rattle.player_orders.specs.Order.{ordered}
use Rattle.player_orders.specs.Keys.{key_of, below}
use Rattle.player_orders.proofs.Sorted.{rank_at, below_lt, below_le}
use Rattle.player_orders.proofs.Span.{is_sorted, how_many, in_list, at_place_lem, as_many, top}

-- the key at place k
pub goal : By → List ℕ → ℕ → ℕ → ℕ → ℕ
goal by tracks first count k = key_of by tracks (get_or (ordered by tracks first count) k 0)

module _ (by : By) (tracks : List ℕ) (first count : ℕ) (small : first + count ≤ most_tracks) (k : ℕ) where
  pub too_far : count ≤ k → None ≡ at (ordered by tracks first count) k
  too_far h = sym (at_none (ordered by tracks first count) k (omega (arith, how_many by tracks first count small)))

  module _ (words : (i : ℕ) → get_or tracks i 0 < 0x1_0000_0000) (h : k < count) where
    there : k < length (ordered by tracks first count)
    there = in_list by tracks first count small k h

    at_k : (first ≤ get_or (ordered by tracks first count) k 0) × (get_or (ordered by tracks first count) k 0 < first + count)
    at_k = at_place_lem by tracks first count small k h

    pub starts : goal by tracks first count k < 0xFFFF_FFFF_FFFF_FFFF
    unfolding goal
    starts = top by tracks first count small words (get_or (ordered by tracks first count) k 0) at_k.1

    pub up : (x n : ℕ) → n ≡ below (key_of by tracks) x (span first count) → n < k → x + 1 ≤ goal by tracks first count k
    unfolding goal
    up x n e q =
        let l = ordered by tracks first count in
        let f = key_of by tracks in
        let s = is_sorted by tracks first count small words in
        let m : n ≡ below f x l = e ∙ as_many by tracks first count small x in
        ⊎_elim
        (λ h. ⊎_elim
        (λ g. absurd (lt_irrefl k (omega (arith, m, rw g at (rank_at f l k s there)))))
        (λ g. absurd (lt_irrefl k (omega (arith, m, below_lt f x l k s there g))))
        (eq-or-lt_of_le h))
        (λ h. omega (arith, h))
        (le_or (f (get_or l k 0)) x)

    pub down : (x n : ℕ) → n ≡ below (key_of by tracks) x (span first count) → k < n → goal by tracks first count k < x
    unfolding goal
    down x n e q = ⊎_elim (λ r. absurd (lt_irrefl k (omega (arith, e ∙ as_many by tracks first count small x, below_le (key_of by tracks) x (ordered by tracks first count) k (is_sorted by tracks first count small words) there r)))) (λ r. r) (le_or x (goal by tracks first count k))
