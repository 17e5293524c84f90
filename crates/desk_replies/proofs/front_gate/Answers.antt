-- `desk_replies::front_gate`: 200, 224 and 205 first; what the state check says where neither applies.
use mathlib.Core.Path.{refl, sym, ap, ◌∙◌}
use mathlib.Core.Bool.{not}
use mathlib.Core.List.{[], ◌∷◌}
use Rattle.ground.specs.Refusals.{refused}
use Rattle.ground.proofs.Cases.{past, here}
use Rattle.ground.proofs.Passed.{passed_on}
use Rattle.catalogue_titles.specs.Lent.{lent}
use Rattle.mcs_state.specs.Codec.{desk_of}
use Rattle.desk_replies.specs.Replies.{state_row, state_right, lent_rows}
use Rattle.desk_replies.proofs.Gates.{stays_shut, says_behind}
use Rattle.desk_replies.proofs.front_gate.Goals as goal

pub returns-in_err-lent_gate : goal.returns-in_err-lent_gate
returns-in_err-lent_gate c =
    let a = c.args in
    passed_on _ _ _ c.from_residual.ensures.1
    (stays_shut (lent_rows (lent a.loan.now) a.small) c.in_err-lent_gate.ensures refl
    (state_row (state_right (lent a.loan.now) (desk_of a.state.now)) ∷ []))

pub returns-then-not-desk_right : goal.returns-then-not-desk_right
returns-then-not-desk_right c =
    let a = c.args in
    says_behind (lent_rows (lent a.loan.now) a.small) c.in_ok-lent_gate.ensures refl
    (state_row (state_right (lent a.loan.now) (desk_of a.state.now)) ∷ [])
    (here _ (ap not (sym c.desk_right.ensures ∙ c.if-not-desk_right.true)) c.from.ensures)

pub returns : goal.returns
returns c =
    let a = c.args in
    says_behind (lent_rows (lent a.loan.now) a.small) c.in_ok-lent_gate.ensures refl
    (state_row (state_right (lent a.loan.now) (desk_of a.state.now)) ∷ [])
    (past (refused 201) (ap not (sym c.desk_right.ensures ∙ c.if-not-desk_right.false)) refl)
