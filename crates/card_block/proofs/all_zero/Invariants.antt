-- `card_block::all_zero`: what was seen so far, and whether what is left is all zero, say whether the whole is.
use mathlib.Core.Path.{◌≡◌}
use mathlib.Core.Bool.{◌&&◌}
use lib.ListN.{drop}
use Rattle.card_block.specs.Block.{all_zero}
use Rattle.card_block.proofs.all_zero.Given as goal

abbrev pub invariant-loop-x : goal.invariant-loop-x
invariant-loop-x l = (l.good && all_zero (drop l.x-index l.s)) ≡ all_zero l.s
