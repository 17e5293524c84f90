-- `player_orders::nth_of_few`: none of the tracks before i has k before it, and one of all has.
use mathlib.Core.Path.{◌≡◌}
use Prim.Native.Nat.{ℕ, ◌≤◌, ◌<◌}
use Rattle.player_walk.specs.Steps.{place}
use Rattle.player_orders.specs.Order.{ordered}
use Rattle.player_orders.proofs.nth_of_few.Given as goal

abbrev pub invariant-loop-i : goal.invariant-loop-i
invariant-loop-i l =
    (t : ℕ) → l.first.0 ≤ t → t < l.i → place t (ordered l.by l.tracks l.first.0 l.count) ≡ l.k → ⊥
