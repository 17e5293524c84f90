-- `desk_console::becoming`: every client of the service is told.
use mathlib.Core.Path.{refl, sym, ap, ◌∙◌, subst}
use mathlib.Core.List.{[]}
use borrow.Author.Rules.{rules}
use Rattle.std.specs.Prelude.{Ok}
use Rattle.ground.specs.Refusals.{granted, leaves}
use Rattle.catalogue_titles.specs.Lent.{lent}
use Rattle.player_moves.specs.Moves.{Sits}
use Rattle.player_values.specs.Values.{source_of}
use Rattle.desk_state.specs.declared.Service.{Service}
use Rattle.desk_state.specs.Desk.{with_service}
use Rattle.mcs_state.specs.Codec.{desk_of}
use Rattle.desk_notices.specs.Owed.{settled}
use Rattle.desk_replies.specs.declared.Reply.TheVariants.{Done}
use Rattle.desk_replies.proofs.Gates.{accepted_so}
use Rattle.desk_console.proofs.Sitting as sitting
use Rattle.desk_console.proofs.becoming.Goals as goal

pub service_at-s-requires-clause-service_lt_service_count : goal.service_at-s-requires-clause-service_lt_service_count
service_at-s-requires-clause-service_lt_service_count c =
    let a = c.args in
    sitting.there (lent a.loan.now) a.state.now a.service c.requires.passed

pub settle-told-requires-clause-sits : goal.settle-told-requires-clause-sits
settle-told-requires-clause-sits c =
    let a = c.args in
    subst (λ (v : Service). Sits a.loan.now.groups.now a.loan.now.tracks.now v.player) (sym c.service_at-s.ensures)
    (sitting.sits (lent a.loan.now) a.state.now a.service c.requires.passed _ (sitting.stands (lent a.loan.now) a.state.now a.service c.requires.passed))

pub settle-told-requires-clause-sits_2 : goal.settle-told-requires-clause-sits_2
settle-told-requires-clause-sits_2 c =
    let a = c.args in
    sitting.sits (lent a.loan.now) a.state.now a.service c.requires.passed a.q c.requires.stands

pub put_service-requires-clause-plain : goal.put_service-requires-clause-plain
put_service-requires-clause-plain c =
    let a = c.args in
    sitting.plain (lent a.loan.now) a.state.now a.service c.requires.passed (search rules) c.are_octets.ensures

pub put_service-requires-clause-service_lt_service_count : goal.put_service-requires-clause-service_lt_service_count
put_service-requires-clause-service_lt_service_count c =
    let a = c.args in
    sitting.there (lent a.loan.now) a.state.now a.service c.requires.passed

pub returns : goal.returns
returns c =
    let a = c.args in
    accepted_so _ a.state.now (Ok Done) _ _
    (ap (λ (x : Service). leaves (granted []) (with_service a.service x (desk_of a.state.now)))
    (c.settle-told.ensures ∙ (λ i. settled (source_of (lent a.loan.now)) (c.no_writer-cause.ensures i) a.q (c.service_at-s.ensures i))))
    refl c.put_service.ensures
