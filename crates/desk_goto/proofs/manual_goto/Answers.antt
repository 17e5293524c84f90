-- `desk_goto::manual_goto`: its rows, and then the manual's Goto of the service's player.
use mathlib.Core.Path.{refl, ap, ◌∙◌}
use mathlib.Core.List.{[]}
use Rattle.std.proofs.lemmas.Result.{err_from_is_err_and}
use Rattle.ground.specs.declared.Refusal.{Refusal}
use Rattle.ground.specs.Refusals.{granted, refusal_of, leaves, keeping}
use Rattle.ground.proofs.Rows.{NoneApplies, through}
use Rattle.catalogue_titles.specs.Lent.{lent}
use Rattle.player_check.specs.Standing.{player_rule}
use Rattle.player_goto.specs.declared.Gone.{Gone}
use Rattle.player_goto.specs.Goto.{gone}
use Rattle.mcs_state.specs.Codec.{desk_of}
use Rattle.desk_replies.specs.Replies.{on_service}
use Rattle.desk_replies.proofs.Gates.{refuses, none}
use Rattle.desk_goto.specs.Manual.{arrival_of, no_arrival, manual_call, shown_by}
use Rattle.desk_goto.proofs.Standing.{there, shaped_now, player_now}
use Rattle.desk_goto.proofs.manual_goto.Goals as goal
use Rattle.desk_goto.proofs.manual_goto.Goals.{In_ok-service_gate}

-- the gate let the call through
module _ (c : In_ok-service_gate) where
  passed : NoneApplies (on_service (lent c.args.loan.now) (desk_of c.args.state.now) c.args.service)
  passed = none (on_service (lent c.args.loan.now) (desk_of c.args.state.now) c.args.service) c.in_ok-service_gate.ensures refl

pub returns-in_err-service_gate : goal.returns-in_err-service_gate
unfolding manual_call
returns-in_err-service_gate c =
    let a = c.args in
    let p = err_from_is_err_and c.from_residual.result c.from_residual.ensures.1 in
    ap shown_by p.1 ∙ ap (λ (r : Refusal). keeping no_arrival (refusal_of r)) p.2
    ∙ refuses (on_service (lent a.loan.now) (desk_of a.state.now) a.service) c.in_err-service_gate.ensures refl (keeping no_arrival) [] _

pub player_at-p-requires-clause-service_lt_service_count : goal.player_at-p-requires-clause-service_lt_service_count
player_at-p-requires-clause-service_lt_service_count c =
    let a = c.args in
    there (lent a.loan.now) (desk_of a.state.now) a.service (passed (goal.at.player_at-p-requires-clause-service_lt_service_count c).In_ok-service_gate)

pub goto_by_steps-gone-requires-clause-shaped : goal.goto_by_steps-gone-requires-clause-shaped
goto_by_steps-gone-requires-clause-shaped c =
    let a = c.args in
    shaped_now (lent a.loan.now) (desk_of a.state.now) a.service (passed (goal.at.goto_by_steps-gone-requires-clause-shaped c).In_ok-service_gate)

pub goto_by_steps-gone-requires-clause-p_value : goal.goto_by_steps-gone-requires-clause-p_value
goto_by_steps-gone-requires-clause-p_value c =
    let a = c.args in
    ap (player_rule a.loan.now.groups.now a.loan.now.tracks.now) c.player_at-p.ensures
    ∙ player_now (lent a.loan.now) (desk_of a.state.now) a.service (passed (goal.at.goto_by_steps-gone-requires-clause-p_value c).In_ok-service_gate)

pub returns : goal.returns
unfolding manual_call
returns c =
    let a = c.args in
    let d = desk_of a.state.now in
    let k = lent a.loan.now in
    through (keeping no_arrival) (on_service k d a.service) (passed (goal.at.returns c).In_ok-service_gate)
    (ap (λ (x : Gone). leaves (granted []) (arrival_of x))
    (c.goto_by_steps-gone.ensures ∙ ap (gone k.groups k.tracks k.segments a.opcode a.n a.allowed) c.player_at-p.ensures))
