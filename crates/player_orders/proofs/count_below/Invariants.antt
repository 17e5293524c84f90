-- `player_orders::count_below`: what is counted so far and the keys below x in the rest of the run are together those of the whole run.
use mathlib.Core.Path.{◌≡◌}
use Prim.Native.Nat.{◌≤◌, ◌+◌, ◌-◌}
use Rattle.ground.specs.Lists.{span}
use Rattle.player_orders.specs.Keys.{key_of, below}
use Rattle.player_orders.proofs.count_below.Given as goal

abbrev pub invariant-loop-i : goal.invariant-loop-i
invariant-loop-i l =
    (l.n ≤ l.i) × (l.n + below (key_of l.by l.tracks) l.x (span l.i (l.end - l.i)) ≡ below (key_of l.by l.tracks) l.x (span l.initial.i l.count))
