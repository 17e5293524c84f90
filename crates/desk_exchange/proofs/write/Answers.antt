-- `desk_exchange::write`: its rows, then what it does.
use mathlib.Core.Path.{refl, ap, ◌∙◌}
use mathlib.Core.Bool.{false}
use mathlib.Core.List.{List, [], ◌++◌}
use Prim.Native.Nat.{ℕ, ◌<◌}
use borrow.Author.Rules.{rules}
use borrow.Author.Tests.{leb-false, not-false}
use Rattle.std.specs.Prelude.{Ok}
use Rattle.ground.specs.Refusals.{granted, leaves, keeping, Row}
use Rattle.ground.proofs.Rows.{NoneApplies, through}
use Rattle.catalogue_titles.specs.Lent.{Lent, lent}
use Rattle.player_check.specs.Standing.{player_rule}
use Rattle.desk_slots.specs.Slots.{service_count}
use Rattle.desk_state.specs.declared.Service.{Service}
use Rattle.desk_state.specs.declared.Desk.{Desk}
use Rattle.desk_state.specs.Desk.{with_service}
use Rattle.mcs_state.specs.Codec.{desk_of}
use Rattle.desk_replies.specs.declared.Reply.TheVariants.{Done}
use Rattle.desk_replies.specs.Replies.{fronted}
use Rattle.desk_replies.proofs.Gates.{none, fit, player, gate_refuses, accepted_so, plain_so}
use Rattle.desk_exchange.specs.Write.{allowed, writer_rows, written, write_call}
use Rattle.desk_exchange.proofs.write.Goals as goal
use Rattle.desk_exchange.proofs.write.Goals.{After-service_at-s}

-- what is asked
abbrev asked : Lent → Desk → ℕ → ℕ → ℕ → List ℕ → List Row
asked k d who service characteristic value = fronted k false d ++ writer_rows k d who service characteristic value

pub returns-in_err-write_gate : goal.returns-in_err-write_gate
unfolding write_call
returns-in_err-write_gate c =
    let a = c.args in
    gate_refuses (asked (lent a.loan.now) (desk_of a.state.now) a.who a.service a.characteristic a.value.now) [] a.state.now _ _ _ c.from_residual.ensures.1 c.in_err-write_gate.ensures

pub service_at-s-requires-clause-service_lt_service_count : goal.service_at-s-requires-clause-service_lt_service_count
service_at-s-requires-clause-service_lt_service_count c =
    let a = c.args in
    leb-false _ _ (none (asked (lent a.loan.now) (desk_of a.state.now) a.who a.service a.characteristic a.value.now) c.in_ok-write_gate.ensures refl).1.1.1.1.1.0

-- of a write that is not refused, whose service is looked up
module _ (c : After-service_at-s) where
  passed : NoneApplies (asked (lent c.args.loan.now) (desk_of c.args.state.now) c.args.who c.args.service c.args.characteristic c.args.value.now)
  passed =
      let a = c.args in
      none (asked (lent a.loan.now) (desk_of a.state.now) a.who a.service a.characteristic a.value.now) c.in_ok-write_gate.ensures refl

  served : c.args.service < service_count
  served = leb-false _ _ passed.1.1.1.1.1.0

pub carry_out-written-requires-clause-fit : goal.carry_out-written-requires-clause-fit
carry_out-written-requires-clause-fit c =
    let a = c.args in
    fit (lent a.loan.now) false (desk_of a.state.now) (writer_rows (lent a.loan.now) (desk_of a.state.now) a.who a.service a.characteristic a.value.now)
    (passed (goal.at.carry_out-written-requires-clause-fit c).After-service_at-s)

pub carry_out-written-requires-clause-player_value : goal.carry_out-written-requires-clause-player_value
carry_out-written-requires-clause-player_value c =
    let a = c.args in
    let e = (goal.at.carry_out-written-requires-clause-player_value c).After-service_at-s in
    ap (λ (t : Service). player_rule a.loan.now.groups.now a.loan.now.tracks.now t.player) c.service_at-s.ensures
    ∙ player (lent a.loan.now) false (desk_of a.state.now) (writer_rows (lent a.loan.now) (desk_of a.state.now) a.who a.service a.characteristic a.value.now) (passed e) a.service (served e)

pub carry_out-written-requires-clause-who_lt_client_count : goal.carry_out-written-requires-clause-who_lt_client_count
carry_out-written-requires-clause-who_lt_client_count c = leb-false _ _ (passed (goal.at.carry_out-written-requires-clause-who_lt_client_count c).After-service_at-s).1.1.1.1.0

pub carry_out-written-requires-clause-value_value : goal.carry_out-written-requires-clause-value_value
carry_out-written-requires-clause-value_value c = not-false _ (passed (goal.at.carry_out-written-requires-clause-value_value c).After-service_at-s).1.1.1.1.1.1.1.1.1.1.0

pub carry_out-written-requires-clause-value_value_2 : goal.carry_out-written-requires-clause-value_value_2
carry_out-written-requires-clause-value_value_2 c =
    ap (λ (t : Service). allowed c.args.loan.now.groups.now t.player c.args.characteristic c.args.value.now) c.service_at-s.ensures
    ∙ not-false _ (passed (goal.at.carry_out-written-requires-clause-value_value_2 c).After-service_at-s).1.1.1.1.1.1.1.1.1.1.1.0

pub put_service-requires-clause-plain : goal.put_service-requires-clause-plain
put_service-requires-clause-plain c =
    let a = c.args in
    plain_so (lent a.loan.now) false a.state.now (writer_rows (lent a.loan.now) (desk_of a.state.now) a.who a.service a.characteristic a.value.now)
    (passed (goal.at.put_service-requires-clause-plain c).After-service_at-s) (search rules) c.are_octets.ensures

pub put_service-requires-clause-service_lt_service_count : goal.put_service-requires-clause-service_lt_service_count
put_service-requires-clause-service_lt_service_count c = served (goal.at.put_service-requires-clause-service_lt_service_count c).After-service_at-s

pub returns : goal.returns
unfolding write_call
returns c =
    let a = c.args in
    let d = desk_of a.state.now in
    let told = c.carry_out-written.ensures ∙ ap (λ (t : Service). written (lent a.loan.now) t a.who a.characteristic a.value.now) c.service_at-s.ensures in
    accepted_so _ a.state.now (Ok Done) _ _
    (through (keeping d) (asked (lent a.loan.now) d a.who a.service a.characteristic a.value.now) (passed (goal.at.returns c).After-service_at-s)
    (ap (λ (t : Service). leaves (granted []) (with_service a.service t d)) told))
    refl c.put_service.ensures
