-- `desk_console::deactivate`: 200, 224, 201, 219, then no track.
use mathlib.Core.Path.{ap, ◌∙◌}
use mathlib.Core.Bool.{false}
use mathlib.Core.List.{[]}
use Rattle.catalogue_titles.specs.Lent.{lent}
use Rattle.player_check.specs.Standing.{player_rule}
use Rattle.player_state.specs.Player.{deactivated}
use Rattle.player_moves.proofs.Kept.{kept_deactivated}
use Rattle.mcs_state.specs.Codec.{desk_of}
use Rattle.desk_replies.specs.Replies.{on_service}
use Rattle.desk_replies.proofs.Gates.{gate_refuses}
use Rattle.desk_console.specs.Console.{player_of, becoming, deactivate_call}
use Rattle.desk_console.proofs.Sitting as sitting
use Rattle.desk_console.proofs.deactivate.Goals as goal

pub returns-in_err-service_gate : goal.returns-in_err-service_gate
unfolding deactivate_call
returns-in_err-service_gate c =
    let a = c.args in
    gate_refuses (on_service (lent a.loan.now) (desk_of a.state.now) a.service) ([]) a.state.now _ _ _ c.from_residual.ensures.1 c.in_err-service_gate.ensures

pub player_at-p-requires-clause-service_lt_service_count : goal.player_at-p-requires-clause-service_lt_service_count
player_at-p-requires-clause-service_lt_service_count c =
    let a = c.args in
    sitting.there (lent a.loan.now) a.state.now a.service c.in_ok-service_gate.ensures

pub becoming-requires-clause-stands : goal.becoming-requires-clause-stands
becoming-requires-clause-stands c =
    let a = c.args in
    let k = lent a.loan.now in
    ap (player_rule k.groups k.tracks) (c.deactivate-q.ensures ∙ ap deactivated c.player_at-p.ensures)
    ∙ kept_deactivated k.groups k.tracks (player_of (desk_of a.state.now) a.service) (sitting.stands k a.state.now a.service c.in_ok-service_gate.ensures)

pub returns : goal.returns
unfolding deactivate_call
returns c =
    let a = c.args in
    sitting.told_so (lent a.loan.now) a.state.now a.service c.in_ok-service_gate.ensures
    (ap (becoming (lent a.loan.now) (desk_of a.state.now) a.service false) (c.deactivate-q.ensures ∙ ap deactivated c.player_at-p.ensures)) c.becoming.ensures
