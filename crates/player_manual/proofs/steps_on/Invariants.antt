-- `player_manual::steps_on`: what is left of the walk, from where the loop stands, is the whole walk.
use mathlib.Core.Path.{◌≡◌}
use Prim.Native.Nat.{◌-◌, ◌<◌, ◌≤◌}
use Rattle.player_walk.specs.Places.{place_after}
use Rattle.player_manual.specs.Made.{more, steps}
use Rattle.player_manual.proofs.steps_on.Given as goal

abbrev pub invariant-loop-i : goal.invariant-loop-i
invariant-loop-i l =
    (l.at < l.len) × (0 < l.made) × (l.made ≤ l.allowed)
    × (more l.made (steps (place_after l.step l.repeat l.len) (l.allowed - l.made) (l.wanted - l.i) l.at) ≡ more 1 (steps (place_after l.step l.repeat l.len) (l.allowed - 1) l.wanted l.k))
