-- `card_fill::put_block`: all 512 octets are laid.
use native.Mathlib.Omega.{arith}
use Rattle.ground.proofs.Laying.{part_laid}
use Rattle.card_fill.proofs.put_block.Goals as goal

pub returns : goal.returns
returns c =
    part_laid _ _ _ _ c.args.b.now c.copy.ensures.after (omega arith)
