-- `card_block::check_right`: both octets are compared with what `sums` ensures.
use mathlib.Core.Bool.{◌&&◌}
use lib.Dec.{eqb}
use Rattle.card_block.specs.Block.{check_rule}
use Rattle.card_block.proofs.check_right.Goals as goal

pub returns : goal.returns
unfolding check_rule
returns c =
    let s = c.sums-s.ensures in
    λ k. eqb (c.wide_octet-plain.ensures.0 k) (s k).plain && eqb (c.wide_octet-running.ensures.0 k) (s k).running
