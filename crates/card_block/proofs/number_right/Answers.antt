-- `card_block::number_right`: what `half_at` ensures is compared with the place.
use lib.Dec.{eqb}
use Rattle.card_block.specs.Block.{number_rule}
use Rattle.card_block.proofs.number_right.Goals as goal

pub returns : goal.returns
unfolding number_rule
returns c =
    λ k. eqb (c.half_at-written.ensures.0 k) c.args.number
