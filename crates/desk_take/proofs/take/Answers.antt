-- `desk_take::take`: 200, 224, 205, 201, then the next client that is owed something.
use mathlib.Core.Path.{◌≡◌, refl, sym, ap, ◌∙◌, subst}
use mathlib.Core.Bool.{Bool, true, false}
use mathlib.Core.List.{List, [], ◌∷◌}
use Prim.Native.Nat.{ℕ, ◌<◌, ◌≤◌}
use borrow.Author.Tests.{le-leb, lt-leb, ltb-false}
use lib.Dec.{ltb, leb}
use lib.ListN.{length}
use Rattle.std.specs.Prelude.{Result, Ok}
use Rattle.std.proofs.lemmas.Result.{err_from_is_err_and}
use Rattle.ground.specs.declared.Refusal.{Refusal}
use Rattle.ground.specs.Lists.{filled}
use Rattle.ground.proofs.Cases.{past, here}
use Rattle.catalogue_titles.specs.Lent.{Lent, lent}
use Rattle.desk_slots.specs.Slots.{client_count, owing}
use Rattle.desk_slots.specs.Round.{next}
use Rattle.ground.specs.Limits.{least_output}
use Rattle.ground.specs.Refusals.{granted, leaves, keeping, Row}
use Rattle.ground.proofs.Rows.{NoneApplies, through}
use Rattle.desk_client.specs.declared.Client.{Client}
use Rattle.desk_client.specs.Client.{client_rule}
use Rattle.desk_state.specs.declared.Desk.{Desk}
use Rattle.desk_state.specs.Desk.{client_at}
use Rattle.desk_state.proofs.Laws.{client_stands, turn_there}
use Rattle.mcs_state.specs.Codec.{desk_of}
use Rattle.mcs_state.specs.Stored.{Octets, Plain}
use Rattle.desk_replies.specs.declared.Reply.{Reply}
use Rattle.desk_replies.specs.declared.Reply.TheVariants.{Done, Served}
use Rattle.desk_replies.specs.Replies.{said_of, state_right, fronted}
use Rattle.desk_replies.proofs.Gates.{none, fit, stands, player, as_it_was, gate_refuses, accepted_so, plain_so}
use Rattle.desk_take.specs.Serving.{places_owed, handed_octets, handed_values, players_rule, after_serving}
use Rattle.desk_take.specs.Take.{AllRight, next_client, with_served, take_call, take_octets}
use Rattle.desk_take.proofs.Laws.{players_stand, owed_there}
use borrow.Author.Rules.{rules}
use Rattle.desk_take.proofs.take.Goals as goal
use Rattle.desk_take.proofs.take.Goals.{In_ok-front_gate, After-next_client-who, After-hand_out-h}

-- the rows before the take's own
abbrev small : List ℕ → Bool
small out = ltb (length out) least_output

abbrev rows : Lent → Desk → List ℕ → List Row
rows k d out = fronted k (small out) d

-- what is known where the gate lets the take through, so that none of them applies
module _ (c : In_ok-front_gate) where
  clear : NoneApplies (rows (lent c.args.loan.now) (desk_of c.args.state.now) c.args.out.now)
  clear = none (rows (lent c.args.loan.now) (desk_of c.args.state.now) c.args.out.now) c.in_ok-front_gate.ensures refl

  right : state_right (lent c.args.loan.now) (desk_of c.args.state.now) ≡ true
  right = stands (lent c.args.loan.now) (small c.args.out.now) (desk_of c.args.state.now) [] clear

  records_stand : AllRight (desk_of c.args.state.now)
  records_stand = client_stands c.args.loan.now.groups.now c.args.loan.now.tracks.now (desk_of c.args.state.now) right

  turn_stands : (desk_of c.args.state.now).turn < client_count
  turn_stands = turn_there c.args.loan.now.groups.now c.args.loan.now.tracks.now (desk_of c.args.state.now) right

  written : Octets c.args.state.now → Plain c.args.state.now
  written = plain_so (lent c.args.loan.now) (small c.args.out.now) c.args.state.now [] clear (search rules)

-- the next client that is owed something is the desk's
module _ (c : After-next_client-who) where
  whose : c.next_client-who.result ≡ next_client (desk_of c.args.state.now)
  unfolding next_client
  whose = c.next_client-who.ensures.1 ∙ (λ k. next client_count (owing (c.owed_sets-sets.ensures k)) (c.turn_of-turn.ensures k))

  nobody : client_count ≤ c.next_client-who.result → leb client_count (next_client (desk_of c.args.state.now)) ≡ true
  nobody h = sym (ap (leb client_count) whose) ∙ le-leb _ _ h

  somebody : c.next_client-who.result < client_count → leb client_count (next_client (desk_of c.args.state.now)) ≡ false
  somebody h = sym (ap (leb client_count) whose) ∙ lt-leb _ _ h

-- the client's own record is the desk's, and so is what is handed out
module _ (c : After-hand_out-h) (who : c.next_client-who.result ≡ next_client (desk_of c.args.state.now)) where
  own : c.client_at-c.result ≡ client_at (desk_of c.args.state.now) (next_client (desk_of c.args.state.now))
  own = c.client_at-c.ensures ∙ ap (client_at (desk_of c.args.state.now)) who

pub returns-in_err-front_gate-clause-answers : goal.returns-in_err-front_gate-clause-answers
unfolding take_call
returns-in_err-front_gate-clause-answers c =
    let a = c.args in
    gate_refuses (rows (lent a.loan.now) (desk_of a.state.now) a.out.now) [] a.state.now _ _ _ c.from_residual.ensures.1 c.in_err-front_gate.ensures

pub returns-in_err-front_gate-clause-out_after : goal.returns-in_err-front_gate-clause-out_after
returns-in_err-front_gate-clause-out_after c =
    let a = c.args in
    let p = err_from_is_err_and c.from_residual.result c.from_residual.ensures.1 in
    as_it_was (said_of c.from_residual.result) (ap (λ (r : Result Reply Refusal). (said_of r).is_granted) p.1) (take_octets (lent a.loan.now) (desk_of a.state.now)) a.out.now

pub owed_sets-sets-requires-clause-all_right : goal.owed_sets-sets-requires-clause-all_right
owed_sets-sets-requires-clause-all_right c =
    records_stand (goal.at.owed_sets-sets-requires-clause-all_right c).In_ok-front_gate

pub next_client-who-requires : goal.next_client-who-requires
next_client-who-requires c =
    subst (λ (turn : ℕ). turn < client_count) (sym c.turn_of-turn.ensures) (turn_stands (goal.at.next_client-who-requires c).In_ok-front_gate)

pub returns-then-who-ge-CLIENTS-clause-answers : goal.returns-then-who-ge-CLIENTS-clause-answers
unfolding take_call
returns-then-who-ge-CLIENTS-clause-answers c =
    let at = goal.at.returns-then-who-ge-CLIENTS-clause-answers c in
    let a = c.args in
    let d = desk_of a.state.now in
    let over = nobody at.After-next_client-who c.if-who-ge-CLIENTS.true in
    accepted_so _ a.state.now (Ok Done) d a.state.now
    (through (keeping d) (rows (lent a.loan.now) d a.out.now) (clear at.In_ok-front_gate) (here _ over refl)) refl
    (record { octets = sym (written at.In_ok-front_gate c.are_octets.ensures); state = refl })

pub returns-then-who-ge-CLIENTS-clause-out_after : goal.returns-then-who-ge-CLIENTS-clause-out_after
unfolding take_octets
returns-then-who-ge-CLIENTS-clause-out_after c =
    let over = nobody (goal.at.returns-then-who-ge-CLIENTS-clause-out_after c).After-next_client-who c.if-who-ge-CLIENTS.true in
    ap (λ (octets : List ℕ). filled octets c.args.out.now) (here _ over refl)

pub hand_out-h-requires-clause-fit : goal.hand_out-h-requires-clause-fit
hand_out-h-requires-clause-fit c =
    let a = c.args in
    fit (lent a.loan.now) (small a.out.now) (desk_of a.state.now) [] (clear (goal.at.hand_out-h-requires-clause-fit c).In_ok-front_gate)

pub hand_out-h-requires-clause-players_value : goal.hand_out-h-requires-clause-players_value
hand_out-h-requires-clause-players_value c =
    let a = c.args in
    let k = lent a.loan.now in
    let d = desk_of a.state.now in
    ap (players_rule k.groups k.tracks) c.players_of-players.ensures
    ∙ players_stand k.groups k.tracks d (player k (small a.out.now) d [] (clear (goal.at.hand_out-h-requires-clause-players_value c).In_ok-front_gate))

pub hand_out-h-requires-clause-c_value : goal.hand_out-h-requires-clause-c_value
hand_out-h-requires-clause-c_value c =
    let at = goal.at.hand_out-h-requires-clause-c_value c in
    let f = at.In_ok-front_gate in
    let there = c.if-who-ge-CLIENTS.false in
    let own = c.client_at-c.ensures in (
      ap client_rule own ∙ records_stand f c.next_client-who.result there,
      subst (λ (r : Client). 0 < places_owed r) (sym own) (owed_there (desk_of c.args.state.now) (turn_stands f) c.next_client-who.result (whose at.After-next_client-who) there),
      ltb-false _ _ (clear f).1.1.0,
    )

pub put_served-requires-clause-plain : goal.put_served-requires-clause-plain
put_served-requires-clause-plain c =
    written (goal.at.put_served-requires-clause-plain c).In_ok-front_gate c.are_octets.ensures

pub returns-clause-answers : goal.returns-clause-answers
unfolding take_call with_served
returns-clause-answers c =
    let at = goal.at.returns-clause-answers c in
    let a = c.args in
    let k = lent a.loan.now in
    let d = desk_of a.state.now in
    let who = whose at.After-next_client-who in
    let own = own at.After-hand_out-h who in
    let players = c.players_of-players.ensures in
    let h = c.hand_out-h in
    let values = h.ensures.len_value.0 ∙ (λ i. handed_values k (players i) (own i)) in
    let after = h.ensures.len_value.1 ∙ ap after_serving own in
    accepted_so _ a.state.now (Ok (Served c.next_client-who.result h.result.service h.result.characteristic h.result.len)) _ _
    (through (keeping d) (rows k d a.out.now) (clear at.In_ok-front_gate)
    (past _ (somebody at.After-next_client-who c.if-who-ge-CLIENTS.false) (λ i. leaves (granted (who i ∷ values i)) (with_served (who i) (after i) d))))
    refl c.put_served.ensures

pub returns-clause-out_after : goal.returns-clause-out_after
unfolding take_octets
returns-clause-out_after c =
    let at = goal.at.returns-clause-out_after c in
    let k = lent c.args.loan.now in
    let own = own at.After-hand_out-h (whose at.After-next_client-who) in
    let players = c.players_of-players.ensures in
    let octets : handed_octets k c.players_of-players.result c.client_at-c.result ≡ take_octets k (desk_of c.args.state.now) =
    (λ i. handed_octets k (players i) (own i)) ∙ past _ (somebody at.After-next_client-who c.if-who-ge-CLIENTS.false) refl in
    c.hand_out-h.ensures.out_after ∙ ap (λ (front : List ℕ). filled front c.args.out.now) octets
