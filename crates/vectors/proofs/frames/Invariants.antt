-- `vectors::frames`: each frame takes at least two octets of what is left.
use Rattle.std.proofs.Common.{length}
use Rattle.vectors.proofs.frames.Given as goal

abbrev pub invariant-loop-left : goal.invariant-loop-left
invariant-loop-left l = Unit {0}

abbrev pub decreases-loop-left : goal.decreases-loop-left
decreases-loop-left l = length l.left
