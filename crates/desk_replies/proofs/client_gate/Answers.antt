-- `desk_replies::client_gate`: 200, 205, 201, 202, the first that applies.
use mathlib.Core.Path.{refl}
use mathlib.Core.List.{[], ◌∷◌}
use borrow.Author.Tests.{le-leb, lt-leb}
use Rattle.ground.specs.Refusals.{refused}
use Rattle.ground.proofs.Cases.{past, here}
use Rattle.ground.proofs.Passed.{passed_on}
use Rattle.catalogue_titles.specs.Lent.{lent}
use Rattle.mcs_state.specs.Codec.{desk_of}
use Rattle.desk_replies.specs.Replies.{fronted, client_row}
use Rattle.desk_replies.proofs.Gates.{stays_shut, says_behind}
use Rattle.desk_replies.proofs.client_gate.Goals as goal

pub returns-in_err-front_gate : goal.returns-in_err-front_gate
returns-in_err-front_gate c =
    let a = c.args in
    passed_on _ _ _ c.from_residual.ensures.1
    (stays_shut (fronted (lent a.loan.now) a.small (desk_of a.state.now)) c.in_err-front_gate.ensures refl
    (client_row a.who ∷ []))

pub returns-then-who-ge-CLIENTS : goal.returns-then-who-ge-CLIENTS
returns-then-who-ge-CLIENTS c =
    let a = c.args in
    says_behind (fronted (lent a.loan.now) a.small (desk_of a.state.now)) c.in_ok-front_gate.ensures refl
    (client_row a.who ∷ [])
    (here _ (le-leb _ _ c.if-who-ge-CLIENTS.true) c.from.ensures)

pub returns : goal.returns
returns c =
    let a = c.args in
    says_behind (fronted (lent a.loan.now) a.small (desk_of a.state.now)) c.in_ok-front_gate.ensures refl
    (client_row a.who ∷ [])
    (past (refused 202) (lt-leb _ _ c.if-who-ge-CLIENTS.false) refl)
