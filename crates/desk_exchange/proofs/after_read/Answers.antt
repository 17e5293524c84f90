-- `desk_exchange::after_read`: kept in mind at 0.
use mathlib.Core.Path.{refl}
use borrow.Author.Tests.{eq-eqb, ne_eqb}
use Rattle.ground.proofs.Cases.{past, here}
use Rattle.desk_exchange.proofs.after_read.Goals as goal

pub returns-then-offset-eq0 : goal.returns-then-offset-eq0
returns-then-offset-eq0 c =
    here _ (eq-eqb _ _ c.if-offset-eq0.true) c.mark_read.ensures

pub returns : goal.returns
returns c =
    past _ (ne_eqb _ _ c.if-offset-eq0.false) refl
