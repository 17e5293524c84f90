-- `desk_console::activate`: 200, 224, 201, 219, 208, then the group's first track.
use mathlib.Core.Path.{refl, sym, ap, ◌∙◌}
use mathlib.Core.Bool.{false, not}
use mathlib.Core.List.{[], ◌∷◌}
use Rattle.ground.specs.Refusals.{keeping}
use Rattle.ground.proofs.Cases.{past, here}
use Rattle.catalogue_titles.specs.Lent.{lent}
use Rattle.player_check.specs.Standing.{player_rule, group_row}
use Rattle.player_check.proofs.Laws.{group_there, group_used}
use Rattle.player_moves.specs.Clock.{activated}
use Rattle.player_moves.proofs.Ready.{run_of}
use Rattle.player_moves.proofs.Kept.{kept_activated}
use Rattle.mcs_state.specs.Codec.{desk_of}
use Rattle.desk_replies.specs.Replies.{on_service}
use Rattle.desk_replies.proofs.Gates.{gate_refuses, refused_so}
use Rattle.desk_console.specs.Console.{player_of, becoming, activate_call}
use Rattle.desk_console.proofs.Sitting as sitting
use Rattle.desk_console.proofs.activate.Goals as goal

pub returns-in_err-service_gate : goal.returns-in_err-service_gate
unfolding activate_call
returns-in_err-service_gate c =
    let a = c.args in
    gate_refuses (on_service (lent a.loan.now) (desk_of a.state.now) a.service) (group_row a.loan.now.groups.now a.group.0 ∷ []) a.state.now _ _ _ c.from_residual.ensures.1 c.in_err-service_gate.ensures

pub returns-then-not-group_right : goal.returns-then-not-group_right
unfolding activate_call
returns-then-not-group_right c =
    let a = c.args in
    refused_so _ a.state.now _
    (sitting.behind (lent a.loan.now) a.state.now a.service c.in_ok-service_gate.ensures
    (here _ (sym (ap not c.group_right.ensures) ∙ ap not c.if-not-group_right.true) (ap (keeping (desk_of a.state.now)) c.from.ensures)))
    refl

pub player_at-p-requires-clause-service_lt_service_count : goal.player_at-p-requires-clause-service_lt_service_count
player_at-p-requires-clause-service_lt_service_count c =
    let a = c.args in
    sitting.there (lent a.loan.now) a.state.now a.service c.in_ok-service_gate.ensures

pub activate-q-requires : goal.activate-q-requires
activate-q-requires c =
    let a = c.args in
    run_of _ _ _ (sitting.shaped (lent a.loan.now) a.state.now a.service c.in_ok-service_gate.ensures) _
    (group_there a.loan.now.groups.now a.group.0 (sym c.group_right.ensures ∙ c.if-not-group_right.false))

pub becoming-requires-clause-stands : goal.becoming-requires-clause-stands
becoming-requires-clause-stands c =
    let a = c.args in
    let k = lent a.loan.now in
    let may = sym c.group_right.ensures ∙ c.if-not-group_right.false in
    ap (player_rule k.groups k.tracks) (c.activate-q.ensures ∙ ap (activated k.groups k.tracks a.group.0) c.player_at-p.ensures)
    ∙ kept_activated k.groups k.tracks k.segments (sitting.shaped k a.state.now a.service c.in_ok-service_gate.ensures) (player_of (desk_of a.state.now) a.service)
    (sitting.stands k a.state.now a.service c.in_ok-service_gate.ensures) a.group.0 (group_there k.groups a.group.0 may) (group_used k.groups a.group.0 may)

pub returns : goal.returns
unfolding activate_call
returns c =
    let a = c.args in
    let k = lent a.loan.now in
    sitting.told_so k a.state.now a.service c.in_ok-service_gate.ensures
    (past _ (sym (ap not c.group_right.ensures) ∙ ap not c.if-not-group_right.false)
    (ap (becoming k (desk_of a.state.now) a.service false) (c.activate-q.ensures ∙ ap (activated k.groups k.tracks a.group.0) c.player_at-p.ensures)))
    c.becoming.ensures
