-- `desk_exchange::read_gate`: the rows of a read, the first that applies.
use mathlib.Core.Path.{◌≡◌, refl, sym, ap, ◌∙◌}
use mathlib.Core.Bool.{Bool, true, false, not, ◌&&◌}
use mathlib.Core.List.{List, [], ◌∷◌, ◌++◌}
use Prim.Native.Nat.{ℕ, ◌<◌}
use native.Mathlib.Omega.{arith}
use borrow.Author.Rules.{rules}
use borrow.Author.Tests.{leb-false, lt-ltb, le-ltb, not-false}
use lib.Dec.{ltb}
use lib.ListN.{length}
use Rattle.ground.specs.Cases.{has}
use Rattle.ground.specs.Limits.{least_output}
use Rattle.ground.specs.Refusals.{Said, number_of, refused, Row, row, said_by}
use Rattle.ground.proofs.Cases.{past, here}
use Rattle.ground.proofs.Passed.{turned_into}
use Rattle.ground.proofs.Rows.{NoneApplies, beyond}
use Rattle.catalogue_titles.specs.Lent.{Lent, lent, catalogue_of}
use Rattle.catalogue_titles.proofs.Laws.{fit_right}
use Rattle.catalogue_check.specs.Catalogue.{Right}
use Rattle.player_check.specs.Standing.{player_rule}
use Rattle.player_values.specs.Values.{source_of, value_of}
use Rattle.player_values.proofs.Fits.{player_sits, name_short}
use Rattle.desk_slots.specs.Slots.{service_count}
use Rattle.desk_slots.specs.Characteristics.{readables, is_in}
use Rattle.desk_slots.proofs.SetLaws.{in_below}
use Rattle.desk_client.specs.declared.Account.{Account}
use Rattle.player_state.specs.declared.Player.{Player}
use Rattle.desk_state.specs.declared.Desk.{Desk}
use Rattle.desk_state.specs.Desk.{service_at}
use Rattle.mcs_state.specs.Codec.{desk_of}
use Rattle.desk_replies.specs.Replies.{fronted, of_caller, of_characteristic, link_of, account_of}
use Rattle.desk_replies.proofs.Gates.{none, stays_shut, says_behind, fit, player}
use Rattle.desk_exchange.specs.Read.{value_now}
use Rattle.desk_exchange.proofs.read_gate.Goals as goal
use Rattle.desk_exchange.proofs.read_gate.Goals.{Else-offset-eq0, Else-not-has_bit, After-length_of-n}

-- what is asked of the caller and the characteristic
abbrev asked_of : Desk → ℕ → ℕ → ℕ → Bool → List Row
asked_of d who service characteristic readable =
    of_caller who service (link_of d who).connected ++ of_characteristic (link_of d who).encrypted characteristic 0x02 readable

abbrev asked : Lent → Bool → Desk → ℕ → ℕ → ℕ → List Row
asked k small d who service characteristic = fronted k small d ++ asked_of d who service characteristic (is_in readables characteristic)

-- and behind that
abbrev behind : Lent → Desk → ℕ → ℕ → ℕ → ℕ → List Row
behind k d who service characteristic offset =
    row 0x80 (ltb 0 offset && not (has (account_of d who service).fresh characteristic)) ∷ row 0x07 (ltb (length (value_now k d service characteristic)) offset) ∷ []

-- the gate asks the first, by what the code found of the characteristic
asked_so : (k : Lent) (small : Bool) (d : Desk) (who service characteristic : ℕ) {readable : Bool} {said : Said} → readable ≡ is_in readables characteristic
    → said ≡ said_by (fronted k small d ++ asked_of d who service characteristic readable) → said ≡ said_by (asked k small d who service characteristic)
asked_so k small d who service characteristic e known = known ∙ ap (λ (x : Bool). said_by (fronted k small d ++ asked_of d who service characteristic x)) e

pub returns-in_err-characteristic_gate : goal.returns-in_err-characteristic_gate
returns-in_err-characteristic_gate c =
    let a = c.args in
    turned_into _ _ _ c.from_residual.ensures.1
    ∙ stays_shut (asked (lent a.loan.now) (ltb a.room least_output) (desk_of a.state.now) a.who a.service a.characteristic)
    (asked_so (lent a.loan.now) (ltb a.room least_output) (desk_of a.state.now) a.who a.service a.characteristic c.may_read.ensures (c.in_err-characteristic_gate.ensures number_of)) refl
    (behind (lent a.loan.now) (desk_of a.state.now) a.who a.service a.characteristic a.offset)

pub returns-then-offset-eq0 : goal.returns-then-offset-eq0
returns-then-offset-eq0 c =
    let a = c.args in
    let fresh = has (account_of (desk_of a.state.now) a.who a.service).fresh a.characteristic in
    says_behind (asked (lent a.loan.now) (ltb a.room least_output) (desk_of a.state.now) a.who a.service a.characteristic)
    (asked_so (lent a.loan.now) (ltb a.room least_output) (desk_of a.state.now) a.who a.service a.characteristic c.may_read.ensures (c.in_ok-characteristic_gate.ensures number_of)) refl
    (behind (lent a.loan.now) (desk_of a.state.now) a.who a.service a.characteristic a.offset)
    (past (refused 0x80) (ap (λ (t : Bool). t && not fresh) (le-ltb 0 a.offset (omega (arith, c.if-offset-eq0.true))))
    (past (refused 0x07) (le-ltb (length (value_now (lent a.loan.now) (desk_of a.state.now) a.service a.characteristic)) a.offset (omega (arith, c.if-offset-eq0.true))) refl))

-- above 0 it is the mark that tells
marked : (offset : ℕ) (fresh : Bool) → 0 < offset → (ltb 0 offset && not fresh) ≡ not fresh
marked offset fresh h = ap (λ (t : Bool). t && not fresh) (lt-ltb 0 offset h)

-- of a read above 0, of which no row that is asked first applies
module _ (c : Else-offset-eq0) where
  passed : NoneApplies (asked (lent c.args.loan.now) (ltb c.args.room least_output) (desk_of c.args.state.now) c.args.who c.args.service c.args.characteristic)
  passed =
      let a = c.args in
      none (asked (lent a.loan.now) (ltb a.room least_output) (desk_of a.state.now) a.who a.service a.characteristic)
      (asked_so (lent a.loan.now) (ltb a.room least_output) (desk_of a.state.now) a.who a.service a.characteristic c.may_read.ensures (c.in_ok-characteristic_gate.ensures number_of)) refl

  served : c.args.service < service_count
  served = leb-false _ _ passed.1.1.1.1.1.0

  right : Right (catalogue_of (lent c.args.loan.now))
  right =
      let a = c.args in
      fit_right (lent a.loan.now) (fit (lent a.loan.now) (ltb a.room least_output) (desk_of a.state.now) (asked_of (desk_of a.state.now) a.who a.service a.characteristic (is_in readables a.characteristic)) passed)

  -- the player that is looked at
  stands : {p : Player} → p ≡ (service_at (desk_of c.args.state.now) c.args.service).player → player_rule c.args.loan.now.groups.now c.args.loan.now.tracks.now p ≡ true
  stands e =
      let a = c.args in
      ap (player_rule a.loan.now.groups.now a.loan.now.tracks.now) e ∙ player (lent a.loan.now) (ltb a.room least_output) (desk_of a.state.now) (asked_of (desk_of a.state.now) a.who a.service a.characteristic (is_in readables a.characteristic)) passed a.service served

pub account_at-a-requires-clause-service_lt_service_count : goal.account_at-a-requires-clause-service_lt_service_count
account_at-a-requires-clause-service_lt_service_count c = served c

pub account_at-a-requires-clause-who_lt_client_count : goal.account_at-a-requires-clause-who_lt_client_count
account_at-a-requires-clause-who_lt_client_count c = leb-false _ _ (passed c).1.1.1.1.0

pub has_bit-requires : goal.has_bit-requires
has_bit-requires c = in_below 32 readables refl _ (not-false _ (passed (goal.at.has_bit-requires c).Else-offset-eq0).1.1.1.1.1.1.1.1.0)

pub returns-then-not-has_bit : goal.returns-then-not-has_bit
returns-then-not-has_bit c =
    let a = c.args in
    let e = (goal.at.returns-then-not-has_bit c).Else-offset-eq0 in
    let known = c.has_bit.ensures ∙ ap (λ (r : Account). has r.fresh a.characteristic) c.account_at-a.ensures in
    beyond (asked (lent a.loan.now) (ltb a.room least_output) (desk_of a.state.now) a.who a.service a.characteristic)
    (behind (lent a.loan.now) (desk_of a.state.now) a.who a.service a.characteristic a.offset) (passed e)
    (here _ (marked a.offset _ (search rules) ∙ ap not (sym known ∙ c.if-not-has_bit.true)) c.from.ensures)

pub player_at-p-requires-clause-service_lt_service_count : goal.player_at-p-requires-clause-service_lt_service_count
player_at-p-requires-clause-service_lt_service_count c = served (goal.at.player_at-p-requires-clause-service_lt_service_count c).Else-offset-eq0

pub length_of-n-requires-clause-sits : goal.length_of-n-requires-clause-sits
length_of-n-requires-clause-sits c =
    let e = (goal.at.length_of-n-requires-clause-sits c).Else-offset-eq0 in
    player_sits (catalogue_of (lent c.args.loan.now)) (right e) c.player_at-p.result (stands e c.player_at-p.ensures)

pub length_of-n-requires-clause-len_le_most_title : goal.length_of-n-requires-clause-len_le_most_title
length_of-n-requires-clause-len_le_most_title c =
    let e = (goal.at.length_of-n-requires-clause-len_le_most_title c).Else-offset-eq0 in
    name_short (catalogue_of (lent c.args.loan.now)) (right e) c.player_at-p.result (stands e c.player_at-p.ensures)

-- 0x80 does not apply, and what the code found of the length
unmarked : (c : Else-not-has_bit) → (ltb 0 c.args.offset && not (has (account_of (desk_of c.args.state.now) c.args.who c.args.service).fresh c.args.characteristic)) ≡ false
unmarked c =
    let known = c.has_bit.ensures ∙ ap (λ (r : Account). has r.fresh c.args.characteristic) c.account_at-a.ensures in
    marked c.args.offset _ (search rules) ∙ ap not (sym known ∙ c.if-not-has_bit.false)

long : (c : After-length_of-n) → length (value_now (lent c.args.loan.now) (desk_of c.args.state.now) c.args.service c.args.characteristic) ≡ c.length_of-n.result
long c = sym (c.length_of-n.ensures ∙ ap (λ (p : Player). length (value_of (source_of (lent c.args.loan.now)) p c.args.characteristic)) c.player_at-p.ensures)

pub returns-then-n-wide_word : goal.returns-then-n-wide_word
returns-then-n-wide_word c =
    let a = c.args in
    let at = goal.at.returns-then-n-wide_word c in
    beyond (asked (lent a.loan.now) (ltb a.room least_output) (desk_of a.state.now) a.who a.service a.characteristic)
    (behind (lent a.loan.now) (desk_of a.state.now) a.who a.service a.characteristic a.offset) (passed at.Else-offset-eq0)
    (past (refused 0x80) (unmarked at.Else-not-has_bit)
    (here _ ((λ k. ltb (long at.After-length_of-n k) (sym c.wide_word.ensures.0 k)) ∙ lt-ltb _ _ c.if-n-wide_word.true) c.from-then-n-wide_word.ensures))

pub returns : goal.returns
returns c =
    let a = c.args in
    let at = goal.at.returns c in
    beyond (asked (lent a.loan.now) (ltb a.room least_output) (desk_of a.state.now) a.who a.service a.characteristic)
    (behind (lent a.loan.now) (desk_of a.state.now) a.who a.service a.characteristic a.offset) (passed at.Else-offset-eq0)
    (past (refused 0x80) (unmarked at.Else-not-has_bit)
    (past (refused 0x07) ((λ k. ltb (long at.After-length_of-n k) (sym c.wide_word.ensures.0 k)) ∙ le-ltb _ _ c.if-n-wide_word.false) refl))
