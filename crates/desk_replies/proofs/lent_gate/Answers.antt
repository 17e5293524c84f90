-- `desk_replies::lent_gate`: 200, 224, 205, the first that applies.
use mathlib.Core.Path.{refl}
use mathlib.Core.List.{[], ◌∷◌}
use Rattle.ground.specs.Refusals.{row, refused}
use Rattle.ground.proofs.Cases.{past, here}
use Rattle.ground.proofs.Passed.{passed_on}
use Rattle.catalogue_titles.specs.Lent.{lent, fit_rows, lent_said}
use Rattle.desk_replies.proofs.Gates.{stays_shut, says_behind}
use Rattle.desk_replies.proofs.lent_gate.Goals as goal

pub returns-in_err-check : goal.returns-in_err-check
unfolding lent_said
returns-in_err-check c =
    let a = c.args in
    passed_on _ _ _ c.from_residual.ensures.1
    (stays_shut (fit_rows (lent a.loan.now)) c.in_err-check.ensures refl
    (row 205 a.small ∷ []))

pub returns-then-small : goal.returns-then-small
unfolding lent_said
returns-then-small c =
    let a = c.args in
    says_behind (fit_rows (lent a.loan.now)) c.in_ok-check.ensures refl
    (row 205 a.small ∷ [])
    (here _ c.if-small.true c.from.ensures)

pub returns : goal.returns
unfolding lent_said
returns c =
    let a = c.args in
    says_behind (fit_rows (lent a.loan.now)) c.in_ok-check.ensures refl
    (row 205 a.small ∷ [])
    (past (refused 205) c.if-small.false refl)
