-- `player_steps::segments_on`: what is left of the walk, from where the loop stands, is the whole walk.
use mathlib.Core.Path.{◌≡◌}
use Prim.Native.Nat.{◌-◌, ◌<◌, ◌≤◌}
use Rattle.player_manual.specs.Made.{more, steps}
use Rattle.player_segments.specs.Segments.{near_position}
use Rattle.player_steps.specs.Stepping.{along_segments}
use Rattle.player_steps.proofs.segments_on.Given as goal

abbrev pub invariant-loop-i : goal.invariant-loop-i
invariant-loop-i l =
    (0 < l.made) × (l.made ≤ l.allowed)
    × (more l.made (steps (along_segments l.starts (near_position l.past) l.step) (l.allowed - l.made) (l.wanted - l.i) l.at.0) ≡ more 1 (steps (along_segments l.starts (near_position l.past) l.step) (l.allowed - 1) l.wanted l.initial.at.0))
