-- `card_block::padding_right`: what is asked is all zero is what stands behind the records.
use mathlib.Core.Path.{◌∙◌, ap}
use Prim.Native.Nat.{ℕ}
use Rattle.ground.specs.Lists.{part}
use Rattle.card_block.specs.Block.{all_zero, padding_rule}
use Rattle.card_block.proofs.padding_right.Goals as goal

pub returns : goal.returns
unfolding padding_rule
returns c =
    c.all_zero.ensures ∙ ap (λ (end : ℕ). all_zero (part c.args.b.now end 510)) c.records_end-end.ensures.0
