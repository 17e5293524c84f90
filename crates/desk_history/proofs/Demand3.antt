-- Demand 3, sentence by sentence (SCOPE 21.3 to 21.9). A history is any list of calls with any arguments, accepted or refused (`Calls`). What it owes to whom
-- is said by the ledger, from the calls and the rules alone (`Ledger`). What the takes hand out is what the desk's contracts say (`History`). Assumes
-- nothing.
use mathlib.Core.Path.{◌≡◌, refl, sym, ap, ◌∙◌, subst}
use mathlib.Core.Bool.{Bool, true, false, not, ◌&&◌}
use mathlib.Core.Logic.{◌↔◌}
use mathlib.Core.Option.{none, some}
use mathlib.Core.List.{List, ◌∷◌, ◌++◌}
use Prim.Native.Nat.{ℕ, ◌*◌, ◌≤◌, ◌<◌}
use native.Mathlib.Omega.{arith}
use borrow.Author.Tests.{le-ltb, lt-leb}
use lib.Dec.{ltb, leb}
use lib.ListN.{length, take as firsts}
use Rattle.ground.specs.Cases.{pick, has}
use Rattle.ground.specs.Limits.{least_output}
use Rattle.ground.specs.Refusals.{row, accepted}
use Rattle.catalogue_titles.specs.Lent.{Lent, lent_rule}
use Rattle.player_clock.specs.Clock.{parts}
use Rattle.player_clock.proofs.Steps.{rest_below}
use Rattle.player_check.specs.Standing.{text_rule}
use Rattle.player_check.proofs.Laws.{rest_kept}
use Rattle.desk_slots.specs.Slots.{slot_count, service_count, place_count, client_count, place_of, service_of, slot_at}
use Rattle.desk_slots.proofs.NextLaws.{next_nearest}
use Rattle.desk_slots.proofs.PlaceLaws.{place_there}
use Rattle.desk_client.specs.Client.{control_slot}
use Rattle.desk_slots.specs.Characteristics.{every_one, readables, is_in}
use Rattle.player_values.specs.Values.{source_of, value_of}
use Rattle.desk_state.specs.Desk.{service_at}
use Rattle.desk_state.proofs.Laws.{player_stands}
use Rattle.desk_replies.specs.Replies.{state_right, of_caller, of_characteristic, account_of}
use Rattle.desk_console.specs.Console.{Beginning}
use Rattle.desk_exchange.specs.Read.{read_call}
use Rattle.desk_history.specs.Calls.{Call, take}
use Rattle.desk_history.specs.Ledger.{Ledger, owes, owed_at, owed_any, next_in}
use Rattle.desk_history.specs.Rounds.{Handout, count_for}
use Rattle.desk_history.specs.History.{octets_in, answer_in, handed_out, ledger_at, desk_at, onward, given, bound, Stays, written_in, handouts_to, shown, all_handed, OwnWrites}
use Rattle.desk_history.specs.Stored.{Agrees}
use Rattle.desk_history.specs.Reached.{one_track, plain, takes, reached_history}
use Rattle.desk_history.proofs.LedgerLaws.{serves, slot_near}
use Rattle.desk_history.proofs.Serving.{owes_to, owed_any_lem, owed_at_lem, results_backlog}
use Rattle.desk_history.proofs.Exchanges.{first_80, read_number}
use Rattle.desk_history.proofs.Agree.{ok, hands_at, given_is, in_range}
use Rattle.desk_history.proofs.InTime.{many_in_time}
use Rattle.desk_history.proofs.Reached.{Counted, counted, others, waiting, others_served, ledger_is, name_owed, name_wanted, stays_takes, one_track_right, no_name_right}
use Rattle.desk_history.proofs.Order.{in_order_lem, oldest_first, own_writes}

-- SCOPE 21.4: "112 is 4 clients times 28 places."
pub hundred_twelve : bound ≡ 112
hundred_twelve = refl

pub twenty_eight : place_count ≡ 28
twenty_eight = refl

-- and 112 is reached: in this history client 3 is owed the generic service's name and stays subscribed, 111 takes are answered, and none of them hands it
-- the name
pub hundred_twelve_reached : (owes (((ledger_at one_track plain plain reached_history).service 0).account 3) 0 ≡ true)
    × Stays one_track plain plain 3 0 0 reached_history (takes 111)
    × (length (given one_track plain plain reached_history (takes 111)) ≡ 111)
    × (count_for 3 (place_of 0 0) (given one_track plain plain reached_history (takes 111)) ≡ 0)
hundred_twelve_reached =
    let n = subst (Counted one_track 3 0 others) (sym ledger_is) (counted one_track 3 0 others waiting others_served) in
    let e = given_is one_track one_track_right plain plain no_name_right no_name_right reached_history (takes 111) in (
      ap (λ (L : Ledger). owes ((L.service 0).account 3) 0) ledger_is ∙ name_owed,
      stays_takes one_track plain plain 111 3 0 0 reached_history (ap (λ (L : Ledger). ((L.service 0).account 3).wants 0) ledger_is ∙ name_wanted),
      ap length e ∙ n.0,
      ap (count_for 3 0) e ∙ n.1,
    )

module _ (k : Lent) (right : lent_rule k ≡ true) (gen nam : Beginning) (gt : text_rule gen.name ≡ true) (nt : text_rule nam.name ≡ true) where
  abbrev ledger : List Call → Ledger
  ledger h = ledger_at k gen nam h

  -- client who is owed slot s by service v
  abbrev owed : ℕ → ℕ → ℕ → List Call → Bool
  owed who v s h = owes (((ledger h).service v).account who) s

  -- what is stored for each client, service and slot is what the calls and the rules say, after every history
  pub stored_agrees : (h : List Call) → Agrees (ledger h) (desk_at k gen nam h)
  stored_agrees h = (ok k right gen nam gt nt h).0

  -- every state that a history reaches passes 201, so no call of it is refused for its state
  pub stands_always : (h : List Call) → state_right k (desk_at k gen nam h) ≡ true
  stands_always h = (ok k right gen nam gt nt h).1

  -- SCOPE 13.3: "What is left over, 0 to 65,535, is the new rest."; whatever the history, of either service
  pub rest_always : (h : List Call) (v : ℕ) → v < service_count → (service_at (desk_at k gen nam h) v).player.place.rest < parts
  rest_always h v service =
      let d = desk_at k gen nam h in
      rest_below _ (rest_kept k.groups k.tracks (service_at d v).player (player_stands k.groups k.tracks d (stands_always h) v service))

  -- SCOPE 21.4: "While a client stays connected and subscribed, a value owed to it is handed out by the 112th answered take from when it fell due."
  pub value_by_the_112th : (who v s : ℕ) → who < client_count → v < service_count → s < slot_count → (h ks : List Call) → Stays k gen nam who v s h ks
      → owed who v s h ≡ true → bound ≤ length (given k gen nam h ks) → 1 ≤ count_for who (place_of v s) (firsts bound (given k gen nam h ks))
  value_by_the_112th who v s client service slot h ks stays due enough =
      many_in_time k right gen nam gt nt who v s client service slot h ks stays 1 (owes_to (((ledger h).service v).account who) s due) enough

  -- SCOPE 21.5: "Likewise its result at place k of its waiting results is handed out by the 112·k-th answered take, though the other clients write without
  -- pause." The first j results of a service that it is then handed are the j oldest that waited there, in their order.
  pub results_by_112_each : (who v : ℕ) → who < client_count → v < service_count → (h ks : List Call) → Stays k gen nam who v control_slot h ks
      → (j : ℕ) → j ≤ length (shown (((ledger h).service v).account who).waiting) → bound * j ≤ length (given k gen nam h ks)
      → (j ≤ count_for who (place_of v control_slot) (firsts (bound * j) (given k gen nam h ks)))
      × (firsts j (handouts_to who v control_slot (firsts (bound * j) (given k gen nam h ks))) ≡ firsts j (shown (((ledger h).service v).account who).waiting))
  results_by_112_each who v client service h ks stays j place enough =
      let timely = many_in_time k right gen nam gt nt who v control_slot client service (omega arith) h ks stays j (results_backlog (((ledger h).service v).account who) j place) enough in
      (timely, oldest_first k right gen nam gt nt who v client h ks stays j (bound * j) place timely)

  -- SCOPE 21.6: "Results come at most once each, in the order of that client's own writes."; those of each service in the order of its writes to it
  pub once_in_order : (who v : ℕ) → who < client_count → (h : List Call) → (places : List ℕ) × OwnWrites k gen nam who v h 0 places (all_handed k gen nam who v h)
  once_in_order who v client h = own_writes k right gen nam gt nt who v client h

  -- and exactly: while it stays subscribed, what waited and then what it wrote is what it was handed and then what still waits
  pub none_lost : (who v : ℕ) → who < client_count → (h ks : List Call) → Stays k gen nam who v control_slot h ks
      → shown (((ledger h).service v).account who).waiting ++ written_in k gen nam who v h ks
      ≡ handouts_to who v control_slot (given k gen nam h ks) ++ shown (((ledger (onward k gen nam h ks)).service v).account who).waiting
  none_lost who v client h ks stays = in_order_lem k right gen nam gt nt who v client h ks stays

  -- SCOPE 17.14, a rule over the history: the stored marks are the values of a service that the client read at 0 since connecting and that no call has changed
  -- since
  pub marks_agree : (h : List Call) (who v c : ℕ) → who < client_count → v < service_count → c < 32
      → has (account_of (desk_at k gen nam h) who v).fresh c ≡ (((ledger h).service v).account who).mind c
  marks_agree h who v c client service l = (((stored_agrees h).service v service).account who client).mind c l

  -- and from the calls alone: a read at an offset above 0 is refused by it exactly where nothing before it in the table refuses the read and the value is
  -- not in mind
  pub stale_read : (h : List Call) (who v c offset room : ℕ)
      → ((read_call k (desk_at k gen nam h) who v c offset room).said.number ≡ 0x80)
      ↔ ((accepted (row 205 (ltb room least_output) ∷ (of_caller who v ((ledger h).link who).on ++ of_characteristic ((ledger h).link who).safe c 0x02 (is_in readables c))) ≡ true)
      × (ltb 0 offset ≡ true) × ((((ledger h).service v).account who).mind c ≡ false))
  stale_read h who v c offset room =
      let e = read_number k right (ledger h) (desk_at k gen nam h) (ok k right gen nam gt nt h) who v c offset room in
      let f = first_80 (ltb room least_output) (leb client_count who) (leb service_count v) (not ((ledger h).link who).on) (not (is_in every_one c)) (not (is_in readables c)) (not ((ledger h).link who).safe) (ltb 0 offset) ((((ledger h).service v).account who).mind c) (ltb (length (value_of (source_of k) ((ledger h).service v).player c)) offset) in
      ((λ q. f.0 (sym e ∙ q)), (λ q. e ∙ f.1 q))

  -- SCOPE 21.7: "A value handed out is the present one, and nothing is handed out that is not owed." It is the value's first ATT_MTU − 3 octets, or the oldest
  -- result, of the service of the place.
  pub present_and_owed : (h : List Call) (c : Call) (a : Handout) → handed_out k c (desk_at k gen nam h) ≡ some a
      → (owed_at (ledger h) a.client a.place ≡ true)
      × (a.octets ≡ octets_in k ((ledger h).service (service_of a.place)) a.client ((ledger h).link a.client) (slot_at a.place))
  present_and_owed h c a e =
      let w = serves k c (ledger h) a (sym (hands_at k right gen nam gt nt c h) ∙ e) in
      subst
      (λ (b : Handout).
      (owed_at (ledger h) b.client b.place ≡ true)
      × (b.octets ≡ octets_in k ((ledger h).service (service_of b.place)) b.client ((ledger h).link b.client) (slot_at b.place))) (sym w.is)
      ((slot_near (ledger h) (in_range k right gen nam gt nt h) w.inside).holds, refl)

  -- SCOPE 21.8: "A take lent 128 octets or more is answered whenever anything is owed to any client."
  pub answered_if_owed : (h : List Call) (room who v s : ℕ) → 128 ≤ room → who < client_count → v < service_count → s < slot_count → owed who v s h ≡ true
      → handed_out k (take room) (desk_at k gen nam h) ≡ some (answer_in k (ledger h) (next_in (ledger h)))
  unfolding next_in
  answered_if_owed h room who v s lent client service slot due =
      let L = ledger h in
      let any = owed_any_lem L who (place_of v s) (place_there v s service slot) (owed_at_lem L who v s slot ∙ due) in
      let near = next_nearest client_count (owed_any L) L.turn (in_range k right gen nam gt nt h).0 who client any in
      hands_at k right gen nam gt nt (take room) h
      ∙ (λ i. pick (not (le-ltb room least_output lent i) && true) (pick (lt-leb client_count (next_in L) near.inside i) none (some (answer_in k L (next_in L)))) none)
