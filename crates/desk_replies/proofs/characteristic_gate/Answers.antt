-- `desk_replies::characteristic_gate`: the rows of a client, and then 0x01, the number of the call's own row, 0x0F, the first that applies.
use mathlib.Core.Path.{refl, sym, ap, ◌∙◌}
use mathlib.Core.Bool.{not}
use mathlib.Core.List.{◌++◌}
use borrow.Author.Tests.{leb-false}
use Rattle.ground.specs.Refusals.{refused}
use Rattle.ground.proofs.Cases.{past, here}
use Rattle.catalogue_titles.specs.Lent.{lent}
use Rattle.desk_client.specs.declared.Link.{Link}
use Rattle.mcs_state.specs.Codec.{desk_of}
use Rattle.desk_replies.specs.Replies.{fronted, of_caller, of_characteristic, link_of}
use Rattle.desk_replies.proofs.Gates.{none, stays_shut, says_behind}
use Rattle.desk_replies.proofs.characteristic_gate.Goals as goal

pub returns-in-Err : goal.returns-in-Err
returns-in-Err g c number =
    let a = c.args in
    stays_shut (fronted (lent a.loan.now) a.small (desk_of a.state.now) ++ of_caller a.who a.service (link_of (desk_of a.state.now) a.who).connected) c.in-Err.ensures refl
    (of_characteristic (link_of (desk_of a.state.now) a.who).encrypted a.characteristic (number a.own) a.allowed)

pub returns-then-not-is_characteristic : goal.returns-then-not-is_characteristic
returns-then-not-is_characteristic g c number =
    let a = c.args in
    says_behind (fronted (lent a.loan.now) a.small (desk_of a.state.now) ++ of_caller a.who a.service (link_of (desk_of a.state.now) a.who).connected) c.in_default.ensures refl
    (of_characteristic (link_of (desk_of a.state.now) a.who).encrypted a.characteristic (number a.own) a.allowed)
    (here _ (sym (ap not c.is_characteristic.ensures) ∙ ap not c.if-not-is_characteristic.true) c.from.ensures)

pub returns-then-not-allowed : goal.returns-then-not-allowed
returns-then-not-allowed g c number =
    let a = c.args in
    says_behind (fronted (lent a.loan.now) a.small (desk_of a.state.now) ++ of_caller a.who a.service (link_of (desk_of a.state.now) a.who).connected) c.in_default.ensures refl
    (of_characteristic (link_of (desk_of a.state.now) a.who).encrypted a.characteristic (number a.own) a.allowed)
    (past (refused 0x01) (sym (ap not c.is_characteristic.ensures) ∙ ap not c.if-not-is_characteristic.false) (here _ (ap not c.if-not-allowed.true) refl))

pub link_at-l-requires-clause-who_lt_client_count : goal.link_at-l-requires-clause-who_lt_client_count
link_at-l-requires-clause-who_lt_client_count g c =
    let a = c.args in
    leb-false _ _ (none (fronted (lent a.loan.now) a.small (desk_of a.state.now) ++ of_caller a.who a.service (link_of (desk_of a.state.now) a.who).connected) c.in_default.ensures refl).1.1.1.1.0

pub returns-then-not-l : goal.returns-then-not-l
returns-then-not-l g c number =
    let a = c.args in
    says_behind (fronted (lent a.loan.now) a.small (desk_of a.state.now) ++ of_caller a.who a.service (link_of (desk_of a.state.now) a.who).connected) c.in_default.ensures refl
    (of_characteristic (link_of (desk_of a.state.now) a.who).encrypted a.characteristic (number a.own) a.allowed)
    (past (refused 0x01) (sym (ap not c.is_characteristic.ensures) ∙ ap not c.if-not-is_characteristic.false) (past (refused (number a.own)) (ap not c.if-not-allowed.false) (here _ (sym (ap (λ (l : Link). not l.encrypted) c.link_at-l.ensures) ∙ c.if-not-l.true) c.from-then-not-l.ensures)))

pub returns : goal.returns
returns g c number =
    let a = c.args in
    says_behind (fronted (lent a.loan.now) a.small (desk_of a.state.now) ++ of_caller a.who a.service (link_of (desk_of a.state.now) a.who).connected) c.in_default.ensures refl
    (of_characteristic (link_of (desk_of a.state.now) a.who).encrypted a.characteristic (number a.own) a.allowed)
    (past (refused 0x01) (sym (ap not c.is_characteristic.ensures) ∙ ap not c.if-not-is_characteristic.false) (past (refused (number a.own)) (ap not c.if-not-allowed.false) (past (refused 0x0F) (sym (ap (λ (l : Link). not l.encrypted) c.link_at-l.ensures) ∙ c.if-not-l.false) refl)))
