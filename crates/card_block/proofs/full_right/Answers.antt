-- `card_block::full_right`: what `half_at` and `most_records` ensure are compared as the rule does.
use mathlib.Core.Bool.{◌||◌}
use lib.Dec.{eqb}
use Rattle.card_block.specs.Block.{full_rule}
use Rattle.card_block.proofs.full_right.Goals as goal

pub returns : goal.returns
unfolding full_rule
returns c =
    let last = c.args.last in
    λ k. last || eqb (c.half_at-count.ensures.0 k) (c.most_records-most.ensures k)
