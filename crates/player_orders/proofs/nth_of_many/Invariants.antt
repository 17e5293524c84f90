-- `player_orders::nth_of_many`: the key at place k stays in the range, which is halved until as many keys as k are below its middle.
use Prim.Native.Nat.{◌≤◌, ◌<◌, ◌-◌}
use Rattle.player_orders.proofs.Halve.{goal}
use Rattle.player_orders.proofs.nth_of_many.Given as goal

abbrev pub invariant-loop-by : goal.invariant-loop-by
invariant-loop-by l = (l.hi ≤ 0xFFFF_FFFF_FFFF_FFFF) × (l.lo ≤ goal l.by l.tracks l.first.0 l.count l.k) × (goal l.by l.tracks l.first.0 l.count l.k < l.hi)

abbrev pub decreases-loop-by : goal.decreases-loop-by
decreases-loop-by l = l.hi - l.lo
