-- `card_block::most_records`: in each arm the key says which case of `most_records` holds.
use mathlib.Core.Path.{refl, sym, ap}
use native.Mathlib.Omega.{arith}
use borrow.Author.Tests.{ne_eqb}
use Rattle.ground.proofs.Cases.{past}
use Rattle.card_block.specs.Block.{most_records}
use Rattle.card_block.proofs.most_records.Goals as goal

pub returns-in-1 : goal.returns-in-1
unfolding most_records
returns-in-1 c =
    sym (ap most_records c.in-1.is)

pub returns-in-2 : goal.returns-in-2
unfolding most_records
returns-in-2 c =
    sym (ap most_records c.in-2.is)

pub returns-in-3 : goal.returns-in-3
unfolding most_records
returns-in-3 c =
    sym (ap most_records c.in-3.is)

pub returns-in_default : goal.returns-in_default
unfolding most_records
returns-in_default c =
    past 42 (ne_eqb c.args.kind 1 (λ e. omega (arith, e))) (past 21 (ne_eqb c.args.kind 2 (λ e. omega (arith, e))) (past 126 (ne_eqb c.args.kind 3 (λ e. omega (arith, e))) refl))
