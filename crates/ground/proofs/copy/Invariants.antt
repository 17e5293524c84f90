-- `ground::copy`: the first i elements are written.
use mathlib.Core.Path.{◌≡◌}
use lib.ListN.{take}
use Rattle.ground.proofs.copy.Given as goal

abbrev pub invariant-loop-i : goal.invariant-loop-i
invariant-loop-i g l = take l.i l.to ≡ take l.i l.from
