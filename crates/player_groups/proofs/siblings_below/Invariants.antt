-- `player_groups::siblings_below`: what is counted and what is left to count make up all of them.
use mathlib.Core.Path.{◌≡◌}
use Prim.Native.Nat.{◌+◌, ◌-◌, ◌≤◌}
use lib.ListN.{length}
use Rattle.ground.specs.Lists.{span, those}
use Rattle.player_groups.specs.Family.{is_sibling}
use Rattle.player_groups.proofs.siblings_below.Given as goal

abbrev pub invariant-loop-i : goal.invariant-loop-i
invariant-loop-i l = (l.n ≤ l.i) × (l.n + length (those (is_sibling l.groups l.g.0) (span l.i (l.i-end - l.i))) ≡ length (those (is_sibling l.groups l.g.0) (span 0 l.i-end)))
