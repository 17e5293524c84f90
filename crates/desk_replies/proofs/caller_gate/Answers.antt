-- `desk_replies::caller_gate`: the rows of a client, and then 219, 203, the first that applies.
use mathlib.Core.Path.{refl, sym, ap, ◌∙◌}
use mathlib.Core.Bool.{not}
use mathlib.Core.List.{[], ◌∷◌, ◌++◌}
use borrow.Author.Tests.{le-leb, lt-leb, leb-false}
use Rattle.ground.specs.Refusals.{refused}
use Rattle.ground.proofs.Cases.{past, here}
use Rattle.ground.proofs.Passed.{passed_on}
use Rattle.catalogue_titles.specs.Lent.{lent}
use Rattle.desk_client.specs.declared.Link.{Link}
use Rattle.mcs_state.specs.Codec.{desk_of}
use Rattle.desk_replies.specs.Replies.{fronted, service_row, client_row, connected_row, link_of}
use Rattle.desk_replies.proofs.Gates.{none, stays_shut, says_behind}
use Rattle.desk_replies.proofs.caller_gate.Goals as goal

pub returns-in_err-client_gate : goal.returns-in_err-client_gate
returns-in_err-client_gate c =
    let a = c.args in
    passed_on _ _ _ c.from_residual.ensures.1
    (stays_shut (fronted (lent a.loan.now) a.small (desk_of a.state.now) ++ (client_row a.who ∷ [])) c.in_err-client_gate.ensures refl
    (service_row a.service ∷ connected_row (link_of (desk_of a.state.now) a.who).connected ∷ []))

pub returns-then-service-ge-SERVICES : goal.returns-then-service-ge-SERVICES
returns-then-service-ge-SERVICES c =
    let a = c.args in
    says_behind (fronted (lent a.loan.now) a.small (desk_of a.state.now) ++ (client_row a.who ∷ [])) c.in_ok-client_gate.ensures refl
    (service_row a.service ∷ connected_row (link_of (desk_of a.state.now) a.who).connected ∷ [])
    (here _ (le-leb _ _ c.if-service-ge-SERVICES.true) c.from.ensures)

pub link_at-l-requires-clause-who_lt_client_count : goal.link_at-l-requires-clause-who_lt_client_count
link_at-l-requires-clause-who_lt_client_count c =
    let a = c.args in
    leb-false _ _ (none (fronted (lent a.loan.now) a.small (desk_of a.state.now) ++ (client_row a.who ∷ [])) c.in_ok-client_gate.ensures refl).1.1.1.1.0

pub returns-then-not-l : goal.returns-then-not-l
returns-then-not-l c =
    let a = c.args in
    says_behind (fronted (lent a.loan.now) a.small (desk_of a.state.now) ++ (client_row a.who ∷ [])) c.in_ok-client_gate.ensures refl
    (service_row a.service ∷ connected_row (link_of (desk_of a.state.now) a.who).connected ∷ [])
    (past (refused 219) (lt-leb _ _ c.if-service-ge-SERVICES.false) (here _ (sym (ap (λ (l : Link). not l.connected) c.link_at-l.ensures) ∙ c.if-not-l.true) c.from-then-not-l.ensures))

pub returns : goal.returns
returns c =
    let a = c.args in
    says_behind (fronted (lent a.loan.now) a.small (desk_of a.state.now) ++ (client_row a.who ∷ [])) c.in_ok-client_gate.ensures refl
    (service_row a.service ∷ connected_row (link_of (desk_of a.state.now) a.who).connected ∷ [])
    (past (refused 219) (lt-leb _ _ c.if-service-ge-SERVICES.false) (past (refused 203) (sym (ap (λ (l : Link). not l.connected) c.link_at-l.ensures) ∙ c.if-not-l.false) refl))
