-- `desk_exchange::number_of`: behind the opcode, in a write of five octets.
use mathlib.Core.Path.{refl}
use borrow.Author.Tests.{eq-eqb, ne_eqb}
use Rattle.ground.proofs.Cases.{past, here}
use Rattle.desk_exchange.specs.Write.{number_of}
use Rattle.desk_exchange.proofs.number_of.Goals as goal

pub returns-then-value-eq5 : goal.returns-then-value-eq5
unfolding number_of
returns-then-value-eq5 c =
    here _ (eq-eqb _ _ c.if-value-eq5.true) c.word_at.ensures

pub returns : goal.returns
unfolding number_of
returns c =
    past _ (ne_eqb _ _ c.if-value-eq5.false) refl
