-- `desk_links::connect`: 200, 201, 202, 204, 206, then a connected record that no service owes anything.
use mathlib.Core.Path.{refl, sym, ap, ◌∙◌}
use mathlib.Core.Bool.{false, not}
use mathlib.Core.List.{List, [], ◌∷◌, ◌++◌}
use Prim.Native.Nat.{ℕ}
use borrow.Author.Rules.{rules}
use borrow.Author.Tests.{leb-false}
use Rattle.std.specs.Prelude.{Ok}
use Rattle.ground.specs.Refusals.{granted, Row, row, leaves, keeping}
use Rattle.ground.proofs.Cases.{past, here}
use Rattle.ground.proofs.Rows.{through}
use Rattle.catalogue_titles.specs.Lent.{Lent, lent}
use Rattle.desk_client.specs.declared.Link.{Link}
use Rattle.desk_client.specs.declared.Client.{Client}
use Rattle.desk_client.specs.Client.{mtu_right, blank_client}
use Rattle.desk_state.specs.declared.Desk.{Desk}
use Rattle.desk_state.specs.Desk.{with_client}
use Rattle.mcs_state.specs.Codec.{desk_of}
use Rattle.desk_replies.specs.declared.Reply.TheVariants.{Done}
use Rattle.desk_replies.specs.Replies.{fronted, client_row, link_of}
use Rattle.desk_replies.proofs.Gates.{none, gate_refuses, refused_so, accepted_so, plain_so}
use Rattle.desk_links.specs.Links.{connect_call}
use Rattle.desk_links.proofs.connect.Goals as goal

-- what is asked first
abbrev first : Lent → Desk → ℕ → List Row
first k d who = fronted k false d ++ (client_row who ∷ [])

pub returns-in_err-client_gate : goal.returns-in_err-client_gate
unfolding connect_call
returns-in_err-client_gate c =
    let a = c.args in
    gate_refuses (first (lent a.loan.now) (desk_of a.state.now) a.who)
    (row 204 (link_of (desk_of a.state.now) a.who).connected ∷ row 206 (not (mtu_right a.mtu)) ∷ []) a.state.now _ _ _ c.from_residual.ensures.1 c.in_err-client_gate.ensures

pub link_at-old-requires-clause-who_lt_client_count : goal.link_at-old-requires-clause-who_lt_client_count
link_at-old-requires-clause-who_lt_client_count c =
    let a = c.args in
    leb-false _ _ (none (first (lent a.loan.now) (desk_of a.state.now) a.who) c.in_ok-client_gate.ensures refl).1.1.1.1.0

pub returns-then-old : goal.returns-then-old
unfolding connect_call
returns-then-old c =
    let a = c.args in
    let d = desk_of a.state.now in
    refused_so _ a.state.now _ (through (keeping d) (first (lent a.loan.now) (desk_of a.state.now) a.who) (none (first (lent a.loan.now) (desk_of a.state.now) a.who) c.in_ok-client_gate.ensures refl) (here _ (sym (ap (λ (l : Link). l.connected) c.link_at-old.ensures) ∙ c.if-old.true) (ap (keeping d) c.from.ensures))) refl

pub returns-then-not-mtu_right : goal.returns-then-not-mtu_right
unfolding connect_call
returns-then-not-mtu_right c =
    let a = c.args in
    let d = desk_of a.state.now in
    refused_so _ a.state.now _
    (through (keeping d) (first (lent a.loan.now) (desk_of a.state.now) a.who) (none (first (lent a.loan.now) (desk_of a.state.now) a.who) c.in_ok-client_gate.ensures refl)
    (past _ (sym (ap (λ (l : Link). l.connected) c.link_at-old.ensures) ∙ c.if-old.false) (here _ (sym (ap not c.mtu_right.ensures) ∙ ap not c.if-not-mtu_right.true) (ap (keeping d) c.from-then-not-mtu_right.ensures))))
    refl

pub put_client-requires-clause-plain : goal.put_client-requires-clause-plain
put_client-requires-clause-plain c =
    let a = c.args in
    plain_so (lent a.loan.now) false a.state.now (client_row a.who ∷ []) (none (first (lent a.loan.now) (desk_of a.state.now) a.who) c.in_ok-client_gate.ensures refl) (search rules) c.are_octets.ensures

pub put_client-requires-clause-who_lt_client_count : goal.put_client-requires-clause-who_lt_client_count
put_client-requires-clause-who_lt_client_count c =
    let a = c.args in
    leb-false _ _ (none (first (lent a.loan.now) (desk_of a.state.now) a.who) c.in_ok-client_gate.ensures refl).1.1.1.1.0

pub returns : goal.returns
unfolding connect_call
returns c =
    let a = c.args in
    let d = desk_of a.state.now in
    accepted_so _ a.state.now (Ok Done) _ _
    (through (keeping d) (first (lent a.loan.now) (desk_of a.state.now) a.who) (none (first (lent a.loan.now) (desk_of a.state.now) a.who) c.in_ok-client_gate.ensures refl)
    (past _ (sym (ap (λ (l : Link). l.connected) c.link_at-old.ensures) ∙ c.if-old.false)
    (past _ (sym (ap not c.mtu_right.ensures) ∙ ap not c.if-not-mtu_right.false)
    (ap (λ (r : Client). leaves (granted []) (with_client a.who r d)) (c.blank_client-fresh.ensures ∙ ap blank_client c.connected_link-link.ensures)))))
    refl c.put_client.ensures
