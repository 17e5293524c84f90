-- `desk_console::set_name`: 200, 224, 201, 219, 207, then another name.
use mathlib.Core.Path.{refl, ap, ◌∙◌}
use mathlib.Core.Bool.{false}
use mathlib.Core.List.{[], ◌∷◌}
use borrow.Author.Tests.{not-false}
use Rattle.ground.specs.Refusals.{Said, keeping}
use Rattle.ground.proofs.Passed.{turned_into}
use Rattle.ground.proofs.Cases.{past}
use Rattle.catalogue_titles.specs.Lent.{lent}
use Rattle.player_check.specs.Standing.{player_rule, name_row}
use Rattle.player_check.proofs.Laws.{text_short}
use Rattle.player_state.specs.Player.{renamed}
use Rattle.player_moves.proofs.Kept.{kept_renamed}
use Rattle.mcs_state.specs.Codec.{desk_of}
use Rattle.desk_replies.specs.Replies.{values_of, on_service}
use Rattle.desk_replies.proofs.Gates.{refuses, none, gate_refuses, refused_so}
use Rattle.desk_console.specs.Console.{player_of, becoming, name_call}
use Rattle.desk_console.proofs.Sitting as sitting
use Rattle.desk_console.proofs.set_name.Goals as goal

pub returns-in_err-service_gate : goal.returns-in_err-service_gate
unfolding name_call
returns-in_err-service_gate c =
    let a = c.args in
    gate_refuses (on_service (lent a.loan.now) (desk_of a.state.now) a.service) (name_row a.name.now ∷ []) a.state.now _ _ _ c.from_residual.ensures.1 c.in_err-service_gate.ensures

pub returns-in_err-check_name : goal.returns-in_err-check_name
unfolding name_call
returns-in_err-check_name c =
    let a = c.args in
    let said = turned_into values_of _ _ c.from_residual-in_err-check_name.ensures.1 in
    refused_so _ a.state.now _
    (ap (keeping (desk_of a.state.now)) said
    ∙ sitting.behind (lent a.loan.now) a.state.now a.service c.in_ok-service_gate.ensures (refuses (name_row a.name.now ∷ []) c.in_err-check_name.ensures refl (keeping (desk_of a.state.now)) [] _))
    (ap (λ (s : Said). s.is_granted) said)

pub player_at-p-requires-clause-service_lt_service_count : goal.player_at-p-requires-clause-service_lt_service_count
player_at-p-requires-clause-service_lt_service_count c =
    let a = c.args in
    sitting.there (lent a.loan.now) a.state.now a.service c.in_ok-service_gate.ensures

pub set_name-q-requires : goal.set_name-q-requires
set_name-q-requires c =
    text_short _ (not-false _ (none (name_row c.args.name.now ∷ []) c.in_ok-check_name.ensures refl).0)

pub becoming-requires-clause-stands : goal.becoming-requires-clause-stands
becoming-requires-clause-stands c =
    let a = c.args in
    let k = lent a.loan.now in
    ap (player_rule k.groups k.tracks) (c.set_name-q.ensures ∙ ap (renamed a.name.now) c.player_at-p.ensures)
    ∙ kept_renamed k.groups k.tracks (player_of (desk_of a.state.now) a.service) (sitting.stands k a.state.now a.service c.in_ok-service_gate.ensures)
    a.name.now (not-false _ (none (name_row a.name.now ∷ []) c.in_ok-check_name.ensures refl).0)

pub returns : goal.returns
unfolding name_call
returns c =
    let a = c.args in
    sitting.told_so (lent a.loan.now) a.state.now a.service c.in_ok-service_gate.ensures
    (past _ (none (name_row a.name.now ∷ []) c.in_ok-check_name.ensures refl).0
    (ap (becoming (lent a.loan.now) (desk_of a.state.now) a.service false) (c.set_name-q.ensures ∙ ap (renamed a.name.now) c.player_at-p.ensures)))
    c.becoming.ensures
