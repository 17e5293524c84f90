-- `catalogue_cue::by_fours`: each octet is one step.
use Prim.Native.Nat.{◌-◌}
use lib.ListN.{length}
use Rattle.catalogue_cue.specs.Scan.{is_it, Passes}
use Rattle.catalogue_cue.proofs.by_fours.Given as goal

abbrev pub invariant-loop-i : goal.invariant-loop-i
invariant-loop-i l = Passes (is_it l.x l.equal) l.s l.at l.i

abbrev pub decreases-loop-i : goal.decreases-loop-i
decreases-loop-i l = length l.s - l.i
