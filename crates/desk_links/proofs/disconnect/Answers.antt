-- `desk_links::disconnect`: 200, 201, 202, 203, then the record of start.
use mathlib.Core.Path.{refl, sym, ap, ◌∙◌}
use mathlib.Core.Bool.{false, not}
use mathlib.Core.List.{List, [], ◌∷◌, ◌++◌}
use Prim.Native.Nat.{ℕ}
use borrow.Author.Rules.{rules}
use borrow.Author.Tests.{leb-false}
use Rattle.std.specs.Prelude.{Ok}
use Rattle.ground.specs.Refusals.{granted, Row, leaves, keeping}
use Rattle.ground.proofs.Cases.{past, here}
use Rattle.ground.proofs.Rows.{through}
use Rattle.catalogue_titles.specs.Lent.{Lent, lent}
use Rattle.desk_client.specs.declared.Link.{Link}
use Rattle.desk_client.specs.declared.Client.{Client}
use Rattle.desk_client.specs.Client.{blank_client}
use Rattle.desk_state.specs.declared.Desk.{Desk}
use Rattle.desk_state.specs.Desk.{with_client}
use Rattle.mcs_state.specs.Codec.{desk_of}
use Rattle.desk_replies.specs.declared.Reply.TheVariants.{Done}
use Rattle.desk_replies.specs.Replies.{fronted, client_row, connected_row, link_of}
use Rattle.desk_replies.proofs.Gates.{none, gate_refuses, refused_so, accepted_so, plain_so}
use Rattle.desk_links.specs.Links.{disconnect_call}
use Rattle.desk_links.proofs.disconnect.Goals as goal

-- what is asked first
abbrev first : Lent → Desk → ℕ → List Row
first k d who = fronted k false d ++ (client_row who ∷ [])

pub returns-in_err-client_gate : goal.returns-in_err-client_gate
unfolding disconnect_call
returns-in_err-client_gate c =
    let a = c.args in
    gate_refuses (first (lent a.loan.now) (desk_of a.state.now) a.who)
    (connected_row (link_of (desk_of a.state.now) a.who).connected ∷ []) a.state.now _ _ _ c.from_residual.ensures.1 c.in_err-client_gate.ensures

pub link_at-old-requires-clause-who_lt_client_count : goal.link_at-old-requires-clause-who_lt_client_count
link_at-old-requires-clause-who_lt_client_count c =
    let a = c.args in
    leb-false _ _ (none (first (lent a.loan.now) (desk_of a.state.now) a.who) c.in_ok-client_gate.ensures refl).1.1.1.1.0

pub returns-then-not-old : goal.returns-then-not-old
unfolding disconnect_call
returns-then-not-old c =
    let a = c.args in
    let d = desk_of a.state.now in
    refused_so _ a.state.now _ (through (keeping d) (first (lent a.loan.now) (desk_of a.state.now) a.who) (none (first (lent a.loan.now) (desk_of a.state.now) a.who) c.in_ok-client_gate.ensures refl) (here _ (sym (ap (λ (l : Link). not l.connected) c.link_at-old.ensures) ∙ c.if-not-old.true) (ap (keeping d) c.from.ensures))) refl

pub put_client-requires-clause-plain : goal.put_client-requires-clause-plain
put_client-requires-clause-plain c =
    let a = c.args in
    plain_so (lent a.loan.now) false a.state.now (client_row a.who ∷ []) (none (first (lent a.loan.now) (desk_of a.state.now) a.who) c.in_ok-client_gate.ensures refl) (search rules) c.are_octets.ensures

pub put_client-requires-clause-who_lt_client_count : goal.put_client-requires-clause-who_lt_client_count
put_client-requires-clause-who_lt_client_count c =
    let a = c.args in
    leb-false _ _ (none (first (lent a.loan.now) (desk_of a.state.now) a.who) c.in_ok-client_gate.ensures refl).1.1.1.1.0

pub returns : goal.returns
unfolding disconnect_call
returns c =
    let a = c.args in
    let d = desk_of a.state.now in
    accepted_so _ a.state.now (Ok Done) _ _
    (through (keeping d) (first (lent a.loan.now) (desk_of a.state.now) a.who) (none (first (lent a.loan.now) (desk_of a.state.now) a.who) c.in_ok-client_gate.ensures refl)
    (past _ (sym (ap (λ (l : Link). not l.connected) c.link_at-old.ensures) ∙ c.if-not-old.false)
    (ap (λ (r : Client). leaves (granted []) (with_client a.who r d)) (c.blank_client-fresh.ensures ∙ ap blank_client c.fresh_link-link.ensures))))
    refl c.put_client.ensures
