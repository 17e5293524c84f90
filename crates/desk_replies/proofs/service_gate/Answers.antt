-- `desk_replies::service_gate`: 200, 201, 219, the first that applies.
use mathlib.Core.Path.{refl}
use mathlib.Core.Bool.{false}
use mathlib.Core.List.{[], ◌∷◌}
use borrow.Author.Tests.{le-leb, lt-leb}
use Rattle.ground.specs.Refusals.{refused}
use Rattle.ground.proofs.Cases.{past, here}
use Rattle.ground.proofs.Passed.{passed_on}
use Rattle.catalogue_titles.specs.Lent.{lent}
use Rattle.mcs_state.specs.Codec.{desk_of}
use Rattle.desk_replies.specs.Replies.{fronted, service_row}
use Rattle.desk_replies.proofs.Gates.{stays_shut, says_behind}
use Rattle.desk_replies.proofs.service_gate.Goals as goal

pub returns-in_err-front_gate : goal.returns-in_err-front_gate
returns-in_err-front_gate c =
    let a = c.args in
    passed_on _ _ _ c.from_residual.ensures.1
    (stays_shut (fronted (lent a.loan.now) false (desk_of a.state.now)) c.in_err-front_gate.ensures refl
    (service_row a.service ∷ []))

pub returns-then-service-ge-SERVICES : goal.returns-then-service-ge-SERVICES
returns-then-service-ge-SERVICES c =
    let a = c.args in
    says_behind (fronted (lent a.loan.now) false (desk_of a.state.now)) c.in_ok-front_gate.ensures refl
    (service_row a.service ∷ [])
    (here _ (le-leb _ _ c.if-service-ge-SERVICES.true) c.from.ensures)

pub returns : goal.returns
returns c =
    let a = c.args in
    says_behind (fronted (lent a.loan.now) false (desk_of a.state.now)) c.in_ok-front_gate.ensures refl
    (service_row a.service ∷ [])
    (past (refused 219) (lt-leb _ _ c.if-service-ge-SERVICES.false) refl)
