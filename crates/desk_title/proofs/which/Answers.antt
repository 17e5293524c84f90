-- `desk_title::which`: its rows, and then where the title of the service's player stands.
use mathlib.Core.Path.{refl, ap, ◌∙◌}
use mathlib.Core.List.{[]}
use borrow.Author.Tests.{leb-false}
use Rattle.std.proofs.lemmas.Result.{err_from_is_err_and}
use Rattle.ground.specs.declared.Refusal.{Refusal}
use Rattle.ground.specs.Refusals.{granted, refusal_of, leaves, keeping}
use Rattle.ground.proofs.Rows.{NoneApplies, through}
use Rattle.catalogue_titles.specs.Titles.{front}
use Rattle.catalogue_titles.specs.Lent.{lent}
use Rattle.player_values.specs.Values.{title_part}
use Rattle.mcs_state.specs.Codec.{desk_of}
use Rattle.desk_replies.specs.Replies.{on_service}
use Rattle.desk_replies.proofs.Gates.{refuses, none}
use Rattle.desk_title.specs.Title.{title_call, titled_by}
use Rattle.desk_title.proofs.which.Goals as goal
use Rattle.desk_title.proofs.which.Goals.{In_ok-service_gate}

-- the gate let the call through
module _ (c : In_ok-service_gate) where
  passed : NoneApplies (on_service (lent c.args.loan.now) (desk_of c.args.state.now) c.args.service)
  passed = none (on_service (lent c.args.loan.now) (desk_of c.args.state.now) c.args.service) c.in_ok-service_gate.ensures refl

pub returns-in_err-service_gate : goal.returns-in_err-service_gate
unfolding title_call
returns-in_err-service_gate c =
    let a = c.args in
    let p = err_from_is_err_and c.from_residual.result c.from_residual.ensures.1 in
    ap titled_by p.1 ∙ ap (λ (r : Refusal). keeping front (refusal_of r)) p.2
    ∙ refuses (on_service (lent a.loan.now) (desk_of a.state.now) a.service) c.in_err-service_gate.ensures refl (keeping front) [] _

pub player_at-p-requires-clause-service_lt_service_count : goal.player_at-p-requires-clause-service_lt_service_count
player_at-p-requires-clause-service_lt_service_count c =
    leb-false _ _ (passed (goal.at.player_at-p-requires-clause-service_lt_service_count c).In_ok-service_gate).1.1.1.1.0

pub returns : goal.returns
unfolding title_call
returns c =
    let a = c.args in
    through (keeping front) (on_service (lent a.loan.now) (desk_of a.state.now) a.service) (passed (goal.at.returns c).In_ok-service_gate)
    (ap (leaves (granted [])) (c.title_part.ensures ∙ ap (title_part a.loan.now.tracks.now a.loan.now.renames.now) c.player_at-p.ensures))
