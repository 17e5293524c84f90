-- `player_groups::nth_sibling`: what is sought among the rest is what is sought among all.
use mathlib.Core.Path.{◌≡◌}
use Prim.Native.Nat.{◌-◌}
use Rattle.ground.specs.Lists.{span, those}
use Rattle.player_walk.specs.Steps.{at}
use Rattle.player_groups.specs.Family.{is_sibling}
use Rattle.player_groups.proofs.nth_sibling.Given as goal

abbrev pub invariant-loop-i : goal.invariant-loop-i
invariant-loop-i l = at (those (is_sibling l.groups l.g.0) (span l.i (l.i-end - l.i))) l.left ≡ at (those (is_sibling l.groups l.g.0) (span 0 l.i-end)) l.k
