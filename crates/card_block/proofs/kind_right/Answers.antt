-- `card_block::kind_right`: the code compares as the rule does.
use mathlib.Core.Path.{refl}
use Rattle.card_block.specs.Block.{kind_rule}
use Rattle.card_block.proofs.kind_right.Goals as goal

pub returns : goal.returns
unfolding kind_rule
returns c =
    refl
