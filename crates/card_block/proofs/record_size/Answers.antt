-- `card_block::record_size`: in each arm the key says which case of `record_size` holds.
use mathlib.Core.Path.{refl, sym, ap}
use native.Mathlib.Omega.{arith}
use borrow.Author.Tests.{ne_eqb}
use Rattle.ground.proofs.Cases.{past}
use Rattle.card_block.specs.Block.{record_size}
use Rattle.card_block.proofs.record_size.Goals as goal

pub returns-in-1 : goal.returns-in-1
unfolding record_size
returns-in-1 c =
    sym (ap record_size c.in-1.is)

pub returns-in-2 : goal.returns-in-2
unfolding record_size
returns-in-2 c =
    sym (ap record_size c.in-2.is)

pub returns-in-3 : goal.returns-in-3
unfolding record_size
returns-in-3 c =
    sym (ap record_size c.in-3.is)

pub returns-in_default : goal.returns-in_default
unfolding record_size
returns-in_default c =
    past 12 (ne_eqb c.args.kind 1 (λ e. omega (arith, e))) (past 24 (ne_eqb c.args.kind 2 (λ e. omega (arith, e))) (past 4 (ne_eqb c.args.kind 3 (λ e. omega (arith, e))) refl))
