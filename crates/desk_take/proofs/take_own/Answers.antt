-- `desk_take::take_own`: 200, 224, 205, 201, then what the record owes.
use mathlib.Core.Path.{◌≡◌, refl, sym, ap, ◌∙◌}
use mathlib.Core.Bool.{not, ◌&&◌}
use mathlib.Core.List.{List, [], ◌∷◌}
use Prim.Native.Nat.{ℕ}
use native.Mathlib.Omega.{arith}
use borrow.Author.Tests.{eq-eqb, ne_eqb, ltb-false}
use lib.Dec.{ltb}
use lib.ListN.{length}
use Rattle.std.specs.Prelude.{Result}
use Rattle.std.proofs.lemmas.Result.{err_from_is_err_and}
use Rattle.ground.specs.Limits.{least_output}
use Rattle.ground.specs.Lists.{filled}
use Rattle.ground.specs.declared.Refusal.{Refusal}
use Rattle.ground.specs.Refusals.{granted, refusal_of, leaves, keeping, Row}
use Rattle.ground.proofs.Cases.{past, here, and_left, and_right}
use Rattle.ground.proofs.Rows.{NoneApplies, through}
use Rattle.catalogue_titles.specs.Lent.{Lent, lent}
use Rattle.desk_client.specs.Client.{client_rule}
use Rattle.desk_replies.specs.Replies.{said_of, lent_rows, state_row}
use Rattle.desk_replies.proofs.Gates.{refuses, none, none_fit, as_it_was}
use Rattle.desk_take.specs.declared.Own.{Own}
use Rattle.desk_take.specs.Serving.{players_rule, record_right, own_call, own_octets, answer_by, record_by}
use Rattle.desk_take.proofs.take_own.Goals as goal
use Rattle.desk_take.proofs.take_own.Goals.{In_ok-lent_gate, After-client_right-record}

-- the rows before the record's own
abbrev front : Lent → List ℕ → List Row
front k out = lent_rows k (ltb (length out) least_output)

-- none of them applies where the gate lets the take through
module _ (c : In_ok-lent_gate) where
  clear : NoneApplies (front (lent c.args.loan.now) c.args.out.now)
  clear = none (front (lent c.args.loan.now) c.args.out.now) c.in_ok-lent_gate.ensures refl

-- 201 asks of the players and of the record what the two tests ask
module _ (c : After-client_right-record) where
  both : (players_rule c.args.loan.now.groups.now c.args.loan.now.tracks.now c.args.players && client_rule c.args.c) ≡ (c.players_right-stand.result && c.client_right-record.result)
  both = λ i. sym c.players_right-stand.ensures i && sym c.client_right-record.ensures i

pub returns-in_err-lent_gate : goal.returns-in_err-lent_gate
unfolding own_call
returns-in_err-lent_gate c =
    let a = c.args in
    let k = lent a.loan.now in
    let p = err_from_is_err_and c.from_residual.result c.from_residual.ensures.1 in (
      ap (λ (r : Result Own Refusal). leaves (said_of (answer_by r)) (record_by a.c r)) p.1
          ∙ ap (λ (r : Refusal). keeping a.c (refusal_of r)) p.2
          ∙ refuses (front k a.out.now) c.in_err-lent_gate.ensures refl (keeping a.c) (state_row (record_right k a.players a.c) ∷ []) _,
      as_it_was (said_of (answer_by c.from_residual.result)) (ap (λ (r : Result Own Refusal). (said_of (answer_by r)).is_granted) p.1) (own_octets k a.players a.c) a.out.now,
    )

pub returns-then-not-stand-record : goal.returns-then-not-stand-record
unfolding own_call
returns-then-not-stand-record c =
    let at = goal.at.returns-then-not-stand-record c in
    let a = c.args in (
      through (keeping a.c) (front (lent a.loan.now) a.out.now) (clear at.In_ok-lent_gate)
          (here _ (ap not (both at.After-client_right-record ∙ c.if-not-stand-record.true)) (ap (keeping a.c) c.from.ensures)),
      refl,
    )

pub places_owed-owed-requires : goal.places_owed-owed-requires
places_owed-owed-requires c =
    and_right _ _ (both (goal.at.places_owed-owed-requires c).After-client_right-record ∙ c.if-not-stand-record.false)

pub returns-then-owed-eq0 : goal.returns-then-owed-eq0
unfolding own_call own_octets
returns-then-owed-eq0 c =
    let at = goal.at.returns-then-owed-eq0 c in
    let a = c.args in
    let nothing = eq-eqb _ _ (sym c.places_owed-owed.ensures.1 ∙ c.if-owed-eq0.true) in (
      through (keeping a.c) (front (lent a.loan.now) a.out.now) (clear at.In_ok-lent_gate)
          (past _ (ap not (both at.After-client_right-record ∙ c.if-not-stand-record.false)) (here _ nothing refl)),
      ap (λ (octets : List ℕ). filled octets a.out.now) (here _ nothing refl),
    )

pub hand_out-h-requires-clause-fit : goal.hand_out-h-requires-clause-fit
hand_out-h-requires-clause-fit c =
    let n = clear (goal.at.hand_out-h-requires-clause-fit c).In_ok-lent_gate in
    none_fit (lent c.args.loan.now) (n.0, (n.1.0, tt))

pub hand_out-h-requires-clause-players_value : goal.hand_out-h-requires-clause-players_value
hand_out-h-requires-clause-players_value c =
    and_left _ _ (both (goal.at.hand_out-h-requires-clause-players_value c).After-client_right-record ∙ c.if-not-stand-record.false)

pub hand_out-h-requires-clause-c_value : goal.hand_out-h-requires-clause-c_value
hand_out-h-requires-clause-c_value c =
    let at = goal.at.hand_out-h-requires-clause-c_value c in (
      and_right _ _ (both at.After-client_right-record ∙ c.if-not-stand-record.false),
      omega (arith, c.places_owed-owed.ensures.1, c.if-owed-eq0.false),
      ltb-false _ _ (clear at.In_ok-lent_gate).1.1.0,
    )

pub returns : goal.returns
unfolding own_call own_octets
returns c =
    let at = goal.at.returns c in
    let a = c.args in
    let h = c.hand_out-h in
    let owed = ne_eqb _ _ (λ z. c.if-owed-eq0.false (c.places_owed-owed.ensures.1 ∙ z)) in (
      through (keeping a.c) (front (lent a.loan.now) a.out.now) (clear at.In_ok-lent_gate)
          (past _ (ap not (both at.After-client_right-record ∙ c.if-not-stand-record.false))
          (past _ owed (λ i. leaves (granted (h.ensures.len_value.0 i)) (h.ensures.len_value.1 i)))),
      h.ensures.out_after ∙ ap (λ (octets : List ℕ). filled octets a.out.now) (past _ owed refl),
    )
