-- `office::frames`: each frame takes at least twelve octets of what is left.
use lib.ListN.{length}
use Rattle.office.proofs.frames.Given as goal

abbrev pub invariant-loop-left : goal.invariant-loop-left
invariant-loop-left l = Unit {0}

abbrev pub decreases-loop-left : goal.decreases-loop-left
decreases-loop-left l = length l.left
