-- `desk_exchange::control`: what the opcode comes to is settled, and then its result is noted.
use mathlib.Core.Path.{sym, ap, subst, ◌∙◌}
use Rattle.catalogue_titles.specs.Lent.{lent, catalogue_of}
use Rattle.catalogue_titles.proofs.Laws.{fit_right}
use Rattle.player_moves.specs.declared.Controlled.{Controlled}
use Rattle.player_moves.specs.Moves.{Sits}
use Rattle.player_moves.specs.Control.{controlled}
use Rattle.player_moves.proofs.Ready.{shaped}
use Rattle.player_moves.proofs.Kept.{kept_controlled}
use Rattle.player_values.specs.Values.{source_of}
use Rattle.player_values.proofs.Fits.{player_sits}
use Rattle.desk_client.specs.Duties.{resulted}
use Rattle.desk_state.specs.declared.Service.{Service}
use Rattle.desk_state.specs.Desk.{account_in, with_account}
use Rattle.desk_notices.specs.Owed.{settled}
use Rattle.desk_exchange.specs.Write.{control_written}
use Rattle.desk_exchange.proofs.control.Goals as goal

pub control-done-requires-clause-shaped : goal.control-done-requires-clause-shaped
control-done-requires-clause-shaped c =
    shaped (catalogue_of (lent c.args.loan.now)) (fit_right (lent c.args.loan.now) c.requires.fit)

pub settle-t-requires-clause-sits : goal.settle-t-requires-clause-sits
settle-t-requires-clause-sits c =
    let a = c.args in
    player_sits (catalogue_of (lent a.loan.now)) (fit_right (lent a.loan.now) c.requires.fit) a.s.player c.requires.player_value

pub settle-t-requires-clause-sits_2 : goal.settle-t-requires-clause-sits_2
settle-t-requires-clause-sits_2 c =
    let a = c.args in
    subst (λ (done : Controlled). Sits a.loan.now.groups.now a.loan.now.tracks.now done.player) (sym c.control-done.ensures)
    (player_sits (catalogue_of (lent a.loan.now)) (fit_right (lent a.loan.now) c.requires.fit) _
    (kept_controlled a.loan.now.groups.now a.loan.now.tracks.now a.loan.now.segments.now (shaped (catalogue_of (lent a.loan.now)) (fit_right (lent a.loan.now) c.requires.fit)) a.s.player c.requires.player_value
    c.octet_or_zero-opcode.result c.number_of-number.result))

pub returns : goal.returns
unfolding control_written
returns c =
    let opcode = c.octet_or_zero-opcode.ensures in
    let done = c.control-done.ensures ∙ (λ k. controlled c.args.loan.now.groups.now c.args.loan.now.tracks.now c.args.loan.now.segments.now (opcode k) (c.number_of-number.ensures k) c.args.s.player) in
    let told = c.settle-t.ensures ∙ (λ k. settled (source_of (lent c.args.loan.now)) (c.by_writer-cause.ensures k) (done k).player c.args.s) in
    let note = c.note_result-next.ensures ∙ (λ k. resulted (opcode k) (done k).result ((c.account_in-a.ensures ∙ ap (λ (t : Service). account_in t c.args.who) told) k)) in
    c.with_account.ensures ∙ (λ k. with_account c.args.who (note k) (told k))
