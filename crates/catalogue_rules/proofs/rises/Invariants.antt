-- `catalogue_rules::rises`: after i turns, the rule of the first i pairs of neighbours.
use mathlib.Core.Path.{◌≡◌}
use Prim.Native.Nat.{◌+◌}
use lib.Dec.{ltb}
use lib.ListN.{get_or}
use Rattle.ground.specs.Lists.{all_below}
use Rattle.catalogue_rules.proofs.rises.Given as goal

abbrev pub invariant-loop-i : goal.invariant-loop-i
invariant-loop-i l = l.good ≡ all_below l.i (λ j. ltb (get_or l.starts j 0) (get_or l.starts (j + 1) 0))
