-- `card_block::count_right`: what `half_at` and `most_records` ensure are compared as the rule does.
use mathlib.Core.Bool.{◌&&◌}
use lib.Dec.{leb}
use Rattle.card_block.specs.Block.{count_rule}
use Rattle.card_block.proofs.count_right.Goals as goal

pub returns : goal.returns
unfolding count_rule
returns c =
    let n = c.half_at-count.ensures.0 in
    λ k. leb 1 (n k) && leb (n k) (c.most_records-most.ensures k)
