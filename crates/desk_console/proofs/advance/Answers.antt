-- `desk_console::advance`: 200, 224, 201, 219, then a step of time.
use mathlib.Core.Path.{ap, ◌∙◌}
use mathlib.Core.List.{[]}
use Rattle.catalogue_titles.specs.Lent.{lent}
use Rattle.player_check.specs.Standing.{player_rule}
use Rattle.player_moves.specs.Clock.{advanced}
use Rattle.player_moves.proofs.Kept.{kept_advanced}
use Rattle.mcs_state.specs.Codec.{desk_of}
use Rattle.desk_replies.specs.Replies.{on_service}
use Rattle.desk_replies.proofs.Gates.{gate_refuses}
use Rattle.desk_console.specs.Console.{player_of, becoming, quiet_advance, advance_call}
use Rattle.desk_console.proofs.Sitting as sitting
use Rattle.desk_console.proofs.advance.Goals as goal

pub returns-in_err-service_gate : goal.returns-in_err-service_gate
unfolding advance_call
returns-in_err-service_gate c =
    let a = c.args in
    gate_refuses (on_service (lent a.loan.now) (desk_of a.state.now) a.service) ([]) a.state.now _ _ _ c.from_residual.ensures.1 c.in_err-service_gate.ensures

pub player_at-p-requires-clause-service_lt_service_count : goal.player_at-p-requires-clause-service_lt_service_count
player_at-p-requires-clause-service_lt_service_count c =
    let a = c.args in
    sitting.there (lent a.loan.now) a.state.now a.service c.in_ok-service_gate.ensures

pub advance-q-requires : goal.advance-q-requires
advance-q-requires c =
    let a = c.args in
    let k = lent a.loan.now in
    sitting.sits k a.state.now a.service c.in_ok-service_gate.ensures _
    (ap (player_rule k.groups k.tracks) c.player_at-p.ensures ∙ sitting.stands k a.state.now a.service c.in_ok-service_gate.ensures)

pub becoming-requires-clause-stands : goal.becoming-requires-clause-stands
becoming-requires-clause-stands c =
    let a = c.args in
    let k = lent a.loan.now in
    ap (player_rule k.groups k.tracks) (c.advance-q.ensures ∙ ap (advanced k.groups k.tracks a.step) c.player_at-p.ensures)
    ∙ kept_advanced k.groups k.tracks k.segments (sitting.shaped k a.state.now a.service c.in_ok-service_gate.ensures) (player_of (desk_of a.state.now) a.service)
    (sitting.stands k a.state.now a.service c.in_ok-service_gate.ensures) a.step

pub returns : goal.returns
unfolding advance_call
returns c =
    let a = c.args in
    let k = lent a.loan.now in
    let quiet = c.is_quiet-quiet.ensures ∙ ap (quiet_advance k.tracks a.step) c.player_at-p.ensures in
    let next = c.advance-q.ensures ∙ ap (advanced k.groups k.tracks a.step) c.player_at-p.ensures in
    sitting.told_so k a.state.now a.service c.in_ok-service_gate.ensures (λ i. becoming k (desk_of a.state.now) a.service (quiet i) (next i)) c.becoming.ensures
