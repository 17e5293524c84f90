-- `desk_exchange::write_gate`: the rows of a write, the first that applies.
use mathlib.Core.Path.{◌≡◌, refl, sym, ap, ◌∙◌}
use mathlib.Core.Bool.{Bool, true, false, not, ◌&&◌}
use mathlib.Core.List.{List, [], ◌∷◌, ◌++◌}
use Prim.Native.Nat.{ℕ, ◌<◌}
use borrow.Author.Tests.{leb-false}
use lib.Dec.{eqb, leb}
use Rattle.ground.specs.Refusals.{Said, number_of, refused, Row, row, said_by}
use Rattle.ground.proofs.Cases.{past, here}
use Rattle.ground.proofs.Passed.{turned_into}
use Rattle.ground.proofs.Rows.{NoneApplies, beyond}
use Rattle.catalogue_titles.specs.Lent.{Lent, lent, catalogue_of}
use Rattle.catalogue_titles.proofs.Laws.{fit_right}
use Rattle.catalogue_check.proofs.Laws.{few_groups}
use Rattle.desk_slots.specs.Slots.{service_count}
use Rattle.desk_slots.specs.Characteristics.{writables, is_in}
use Rattle.desk_client.specs.declared.Account.{Account}
use Rattle.desk_client.specs.Client.{most_results}
use Rattle.player_state.specs.declared.Player.{Player}
use Rattle.desk_state.specs.declared.Desk.{Desk}
use Rattle.desk_state.specs.Desk.{service_at}
use Rattle.mcs_state.specs.Codec.{desk_of}
use Rattle.desk_replies.specs.Replies.{fronted, of_caller, of_characteristic, link_of, account_of}
use Rattle.desk_replies.proofs.Gates.{none, stays_shut, says_behind, fit}
use Rattle.desk_exchange.specs.Write.{length_right, allowed}
use Rattle.desk_exchange.proofs.write_gate.Goals as goal
use Rattle.desk_exchange.proofs.write_gate.Goals.{Else-not-length_right, Else-not-is_allowed}

-- what is asked of the caller and the characteristic
abbrev asked_of : Desk → ℕ → ℕ → ℕ → Bool → List Row
asked_of d who service characteristic writable =
    of_caller who service (link_of d who).connected ++ of_characteristic (link_of d who).encrypted characteristic 0x03 writable

abbrev asked : Lent → Desk → ℕ → ℕ → ℕ → List Row
asked k d who service characteristic = fronted k false d ++ asked_of d who service characteristic (is_in writables characteristic)

-- and behind that
abbrev behind : Lent → Desk → ℕ → ℕ → ℕ → List ℕ → List Row
behind k d who service characteristic value =
    row 0x0D (not (length_right characteristic value)) ∷ row 0x13 (not (allowed k.groups (service_at d service).player characteristic value))
    ∷ row 0x11 (eqb characteristic 18 && leb most_results (account_of d who service).waiting) ∷ []

-- the gate asks the first, by what the code found of the characteristic
asked_so : (k : Lent) (d : Desk) (who service characteristic : ℕ) {writable : Bool} {said : Said} → writable ≡ is_in writables characteristic
    → said ≡ said_by (fronted k false d ++ asked_of d who service characteristic writable) → said ≡ said_by (asked k d who service characteristic)
asked_so k d who service characteristic e known = known ∙ ap (λ (x : Bool). said_by (fronted k false d ++ asked_of d who service characteristic x)) e

pub returns-in_err-characteristic_gate : goal.returns-in_err-characteristic_gate
returns-in_err-characteristic_gate c =
    let a = c.args in
    turned_into _ _ _ c.from_residual.ensures.1
    ∙ stays_shut (asked (lent a.loan.now) (desk_of a.state.now) a.who a.service a.characteristic)
    (asked_so (lent a.loan.now) (desk_of a.state.now) a.who a.service a.characteristic c.may_write.ensures (c.in_err-characteristic_gate.ensures number_of)) refl
    (behind (lent a.loan.now) (desk_of a.state.now) a.who a.service a.characteristic a.value.now)

pub returns-then-not-length_right : goal.returns-then-not-length_right
returns-then-not-length_right c =
    let a = c.args in
    says_behind (asked (lent a.loan.now) (desk_of a.state.now) a.who a.service a.characteristic)
    (asked_so (lent a.loan.now) (desk_of a.state.now) a.who a.service a.characteristic c.may_write.ensures (c.in_ok-characteristic_gate.ensures number_of)) refl
    (behind (lent a.loan.now) (desk_of a.state.now) a.who a.service a.characteristic a.value.now)
    (here _ (ap not (sym c.length_right.ensures ∙ c.if-not-length_right.true)) c.from.ensures)

-- no row that is asked first applies, and the length is right
module _ (c : Else-not-length_right) where
  passed : NoneApplies (asked (lent c.args.loan.now) (desk_of c.args.state.now) c.args.who c.args.service c.args.characteristic)
  passed =
      let a = c.args in
      none (asked (lent a.loan.now) (desk_of a.state.now) a.who a.service a.characteristic)
      (asked_so (lent a.loan.now) (desk_of a.state.now) a.who a.service a.characteristic c.may_write.ensures (c.in_ok-characteristic_gate.ensures number_of)) refl

  served : c.args.service < service_count
  served = leb-false _ _ passed.1.1.1.1.1.0

  long : length_right c.args.characteristic c.args.value.now ≡ true
  long = sym c.length_right.ensures ∙ c.if-not-length_right.false

pub player_at-p-requires-clause-service_lt_service_count : goal.player_at-p-requires-clause-service_lt_service_count
player_at-p-requires-clause-service_lt_service_count c = served c

pub is_allowed-requires-clause-value_value : goal.is_allowed-requires-clause-value_value
is_allowed-requires-clause-value_value c = long (goal.at.is_allowed-requires-clause-value_value c).Else-not-length_right

pub is_allowed-requires-clause-groups_bound : goal.is_allowed-requires-clause-groups_bound
is_allowed-requires-clause-groups_bound c =
    let a = c.args in
    let e = (goal.at.is_allowed-requires-clause-groups_bound c).Else-not-length_right in
    few_groups (catalogue_of (lent a.loan.now))
    (fit_right (lent a.loan.now) (fit (lent a.loan.now) false (desk_of a.state.now) (asked_of (desk_of a.state.now) a.who a.service a.characteristic (is_in writables a.characteristic)) (passed e)))

pub returns-then-not-is_allowed : goal.returns-then-not-is_allowed
returns-then-not-is_allowed c =
    let a = c.args in
    let e = (goal.at.returns-then-not-is_allowed c).Else-not-length_right in
    let known = c.is_allowed.ensures ∙ ap (λ (p : Player). allowed a.loan.now.groups.now p a.characteristic a.value.now) c.player_at-p.ensures in
    beyond (asked (lent a.loan.now) (desk_of a.state.now) a.who a.service a.characteristic)
    (behind (lent a.loan.now) (desk_of a.state.now) a.who a.service a.characteristic a.value.now) (passed e)
    (past (refused 0x0D) (ap not (long e)) (here _ (ap not (sym known ∙ c.if-not-is_allowed.true)) c.from-then-not-is_allowed.ensures))

pub account_at-a-requires-clause-service_lt_service_count : goal.account_at-a-requires-clause-service_lt_service_count
account_at-a-requires-clause-service_lt_service_count c = served (goal.at.account_at-a-requires-clause-service_lt_service_count c).Else-not-length_right

pub account_at-a-requires-clause-who_lt_client_count : goal.account_at-a-requires-clause-who_lt_client_count
account_at-a-requires-clause-who_lt_client_count c = leb-false _ _ (passed (goal.at.account_at-a-requires-clause-who_lt_client_count c).Else-not-length_right).1.1.1.1.0

-- the value is allowed
may : (c : Else-not-is_allowed) → allowed c.args.loan.now.groups.now (service_at (desk_of c.args.state.now) c.args.service).player c.args.characteristic c.args.value.now ≡ true
may c = sym (c.is_allowed.ensures ∙ ap (λ (p : Player). allowed c.args.loan.now.groups.now p c.args.characteristic c.args.value.now) c.player_at-p.ensures) ∙ c.if-not-is_allowed.false

pub returns-then-characteristic-a : goal.returns-then-characteristic-a
returns-then-characteristic-a c =
    let a = c.args in
    let at = goal.at.returns-then-characteristic-a c in
    let many = ap (λ (r : Account). eqb a.characteristic 18 && leb most_results r.waiting) c.account_at-a.ensures in
    beyond (asked (lent a.loan.now) (desk_of a.state.now) a.who a.service a.characteristic)
    (behind (lent a.loan.now) (desk_of a.state.now) a.who a.service a.characteristic a.value.now) (passed at.Else-not-length_right)
    (past (refused 0x0D) (ap not (long at.Else-not-length_right)) (past (refused 0x13) (ap not (may at.Else-not-is_allowed))
    (here _ (sym many ∙ c.if-characteristic-a.true) c.from-then-characteristic-a.ensures)))

pub returns : goal.returns
returns c =
    let a = c.args in
    let at = goal.at.returns c in
    let many = ap (λ (r : Account). eqb a.characteristic 18 && leb most_results r.waiting) c.account_at-a.ensures in
    beyond (asked (lent a.loan.now) (desk_of a.state.now) a.who a.service a.characteristic)
    (behind (lent a.loan.now) (desk_of a.state.now) a.who a.service a.characteristic a.value.now) (passed at.Else-not-length_right)
    (past (refused 0x0D) (ap not (long at.Else-not-length_right)) (past (refused 0x13) (ap not (may at.Else-not-is_allowed))
    (past (refused 0x11) (sym many ∙ c.if-characteristic-a.false) refl)))
