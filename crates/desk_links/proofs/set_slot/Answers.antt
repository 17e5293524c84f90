-- `desk_links::set_slot`: 200, 201, 202, 219, 203, 0x01, 209, 0x0F, then the caller's account with the service with or without the slot.
use mathlib.Core.Path.{◌≡◌, refl, ap, ◌∙◌}
use mathlib.Core.Bool.{Bool, false}
use mathlib.Core.List.{List, [], ◌++◌}
use Prim.Native.Nat.{ℕ}
use lib.Dec.{ltb}
use borrow.Author.Rules.{rules}
use borrow.Author.Tests.{leb-false, ltb-true, not-false}
use Rattle.std.specs.Prelude.{Ok}
use Rattle.ground.specs.Cases.{pick}
use Rattle.ground.specs.Refusals.{Said, number_of, granted, Row, said_by, leaves, keeping}
use Rattle.ground.proofs.Passed.{turned_into}
use Rattle.ground.proofs.Rows.{through}
use Rattle.catalogue_titles.specs.Lent.{Lent, lent}
use Rattle.desk_slots.specs.Slots.{slot_count, has_slot}
use Rattle.desk_client.specs.declared.Account.{Account}
use Rattle.desk_client.specs.Duties.{joined, dropped}
use Rattle.desk_state.specs.declared.Desk.{Desk}
use Rattle.desk_state.specs.Desk.{service_at, with_account, with_service}
use Rattle.mcs_state.specs.Codec.{desk_of}
use Rattle.desk_replies.specs.declared.Reply.TheVariants.{Done}
use Rattle.desk_replies.specs.Replies.{values_of, fronted, of_caller, of_characteristic, link_of}
use Rattle.desk_replies.proofs.Gates.{none, gate_shuts, accepted_so, plain_so}
use Rattle.desk_links.specs.Links.{slot_call, slot_rows}
use Rattle.desk_links.proofs.set_slot.Goals as goal

-- what is asked
abbrev asked : Lent → Desk → ℕ → ℕ → ℕ → List Row
asked k d who service characteristic =
    fronted k false d ++ slot_rows who service (link_of d who).connected (link_of d who).encrypted characteristic

-- the gate asks it, of the slot that the code looked up
asked_by : (k : Lent) (d : Desk) (who service characteristic slot : ℕ) {said : Said} → ltb slot slot_count ≡ has_slot characteristic
    → said ≡ said_by (fronted k false d ++ (of_caller who service (link_of d who).connected ++ of_characteristic (link_of d who).encrypted characteristic 209 (ltb slot slot_count)))
    → said ≡ said_by (asked k d who service characteristic)
asked_by k d who service characteristic slot e known =
    let l = link_of d who in
    known ∙ ap (λ (x : Bool). said_by (fronted k false d ++ (of_caller who service l.connected ++ of_characteristic l.encrypted characteristic 209 x))) e

pub returns-in_err-characteristic_gate : goal.returns-in_err-characteristic_gate
unfolding slot_call
returns-in_err-characteristic_gate c =
    let a = c.args in
    gate_shuts (asked (lent a.loan.now) (desk_of a.state.now) a.who a.service a.characteristic) [] a.state.now _ _ (turned_into values_of _ _ c.from_residual.ensures.1) refl
    (asked_by (lent a.loan.now) (desk_of a.state.now) a.who a.service a.characteristic c.slot_of-s.result (ap (λ (x : ℕ). ltb x slot_count) c.slot_of-s.ensures.1) (c.in_err-characteristic_gate.ensures number_of))

pub account_at-a-requires-clause-service_lt_service_count : goal.account_at-a-requires-clause-service_lt_service_count
account_at-a-requires-clause-service_lt_service_count c =
    let a = c.args in
    leb-false _ _ (none (asked (lent a.loan.now) (desk_of a.state.now) a.who a.service a.characteristic) (asked_by (lent a.loan.now) (desk_of a.state.now) a.who a.service a.characteristic c.slot_of-s.result (ap (λ (x : ℕ). ltb x slot_count) c.slot_of-s.ensures.1) (c.in_ok-characteristic_gate.ensures number_of)) refl).1.1.1.1.1.0

pub account_at-a-requires-clause-who_lt_client_count : goal.account_at-a-requires-clause-who_lt_client_count
account_at-a-requires-clause-who_lt_client_count c =
    let a = c.args in
    leb-false _ _ (none (asked (lent a.loan.now) (desk_of a.state.now) a.who a.service a.characteristic) (asked_by (lent a.loan.now) (desk_of a.state.now) a.who a.service a.characteristic c.slot_of-s.result (ap (λ (x : ℕ). ltb x slot_count) c.slot_of-s.ensures.1) (c.in_ok-characteristic_gate.ensures number_of)) refl).1.1.1.1.0

pub with_slot-next-requires : goal.with_slot-next-requires
with_slot-next-requires c =
    let a = c.args in
    ltb-true _ _ (ap (λ (x : ℕ). ltb x slot_count) c.slot_of-s.ensures.1 ∙ not-false _ (none (asked (lent a.loan.now) (desk_of a.state.now) a.who a.service a.characteristic) (asked_by (lent a.loan.now) (desk_of a.state.now) a.who a.service a.characteristic c.slot_of-s.result (ap (λ (x : ℕ). ltb x slot_count) c.slot_of-s.ensures.1) (c.in_ok-characteristic_gate.ensures number_of)) refl).1.1.1.1.1.1.1.1.0)

pub put_account-requires-clause-plain : goal.put_account-requires-clause-plain
put_account-requires-clause-plain c =
    let a = c.args in
    plain_so (lent a.loan.now) false a.state.now (slot_rows a.who a.service (link_of (desk_of a.state.now) a.who).connected (link_of (desk_of a.state.now) a.who).encrypted a.characteristic) (none (asked (lent a.loan.now) (desk_of a.state.now) a.who a.service a.characteristic) (asked_by (lent a.loan.now) (desk_of a.state.now) a.who a.service a.characteristic c.slot_of-s.result (ap (λ (x : ℕ). ltb x slot_count) c.slot_of-s.ensures.1) (c.in_ok-characteristic_gate.ensures number_of)) refl) (search rules) c.are_octets.ensures

pub put_account-requires-clause-service_lt_service_count : goal.put_account-requires-clause-service_lt_service_count
put_account-requires-clause-service_lt_service_count c =
    let a = c.args in
    leb-false _ _ (none (asked (lent a.loan.now) (desk_of a.state.now) a.who a.service a.characteristic) (asked_by (lent a.loan.now) (desk_of a.state.now) a.who a.service a.characteristic c.slot_of-s.result (ap (λ (x : ℕ). ltb x slot_count) c.slot_of-s.ensures.1) (c.in_ok-characteristic_gate.ensures number_of)) refl).1.1.1.1.1.0

pub put_account-requires-clause-who_lt_client_count : goal.put_account-requires-clause-who_lt_client_count
put_account-requires-clause-who_lt_client_count c =
    let a = c.args in
    leb-false _ _ (none (asked (lent a.loan.now) (desk_of a.state.now) a.who a.service a.characteristic) (asked_by (lent a.loan.now) (desk_of a.state.now) a.who a.service a.characteristic c.slot_of-s.result (ap (λ (x : ℕ). ltb x slot_count) c.slot_of-s.ensures.1) (c.in_ok-characteristic_gate.ensures number_of)) refl).1.1.1.1.0

pub returns : goal.returns
unfolding slot_call
returns c =
    let a = c.args in
    let d = desk_of a.state.now in
    let next = c.with_slot-next.ensures ∙ (λ k. pick a.on joined dropped (c.slot_of-s.ensures.1 k) (c.account_at-a.ensures k)) in
    accepted_so _ a.state.now (Ok Done) _ _
    (through (keeping d) (asked (lent a.loan.now) (desk_of a.state.now) a.who a.service a.characteristic) (none (asked (lent a.loan.now) (desk_of a.state.now) a.who a.service a.characteristic) (asked_by (lent a.loan.now) (desk_of a.state.now) a.who a.service a.characteristic c.slot_of-s.result (ap (λ (x : ℕ). ltb x slot_count) c.slot_of-s.ensures.1) (c.in_ok-characteristic_gate.ensures number_of)) refl)
    (ap (λ (x : Account). leaves (granted []) (with_service a.service (with_account a.who x (service_at d a.service)) d)) next))
    refl c.put_account.ensures
