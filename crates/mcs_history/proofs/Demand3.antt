-- Demand 3 of the library that C links, sentence by sentence (SCOPE 21.3 to 21.10), of any calls, accepted or refused. What C hears is read off numbers, words
-- and outputs; what is owed, waits and is present is the ledger's. Assumes nothing.
use mathlib.Core.Path.{◌≡◌, refl, sym, ap, ◌∙◌, subst}
use mathlib.Core.Bool.{true, false}
use mathlib.Core.Option.{Option, none, some}
use mathlib.Core.List.{List, [], ◌∷◌, ◌++◌}
use Prim.Native.Nat.{ℕ, ◌*◌, ◌≤◌, ◌<◌}
use lib.ListN.{length, take as firsts}
use Rattle.ground.proofs.Cases.{clash}
use Rattle.ground.specs.Lists.{table_after}
use Rattle.catalogue_titles.specs.Lent.{Lent, lent_rule}
use Rattle.player_clock.specs.Clock.{parts}
use Rattle.player_check.specs.Standing.{text_rule}
use Rattle.desk_slots.specs.Slots.{slot_count, service_count, client_count, place_of, service_of, slot_at}
use Rattle.desk_client.specs.Client.{control_slot}
use Rattle.desk_state.specs.declared.Desk.{Desk}
use Rattle.desk_state.specs.Desk.{service_at}
use Rattle.desk_console.specs.Console.{Beginning}
use Rattle.desk_take.specs.Take.{take_call, take_octets}
use Rattle.desk_history.specs.Calls.{Call, set_name, activate, deactivate, advance, connect, disconnect, subscribe, unsubscribe, read, write, take, left}
use Rattle.desk_history.specs.Ledger.{Ledger, owes, owed_at, next_in}
use Rattle.desk_history.specs.Rounds.{Handout, prepend, count_for}
use Rattle.desk_history.specs.History.{octets_in, answer_in, handed_out, ledger_at, desk_at, onward, given, bound, Stays, written_in, handouts_to, shown, handed_by, all_handed, OwnWrites}
use Rattle.desk_history.specs.Apart.{To}
use Rattle.desk_history.proofs.Apart as apart
use Rattle.desk_history.proofs.Demand3 as desk
use Rattle.mcs_state.specs.Codec.{desk_of}
use Rattle.mcs_told.specs.Calls.{Leaves, words_after}
use Rattle.mcs_history.specs.Library.{Shown, is_take, heard, Made, other, taken, Run, started, then, heard_by, Onward, done, and}
use Rattle.mcs_history.proofs.Meaning.{began_right, made_means, means}
use Rattle.mcs_history.proofs.Hearing.{heard_is}

-- a call that is no take hands out nothing
silent : (k : Lent) (call : Call) (d : Desk) → is_take call ≡ false → none ≡ handed_out k call d
silent k (set_name v name) d e = refl
silent k (activate v g) d e = refl
silent k (deactivate v) d e = refl
silent k (advance v step) d e = refl
silent k (connect who mtu encrypted) d e = refl
silent k (disconnect who) d e = refl
silent k (subscribe who v c) d e = refl
silent k (unsubscribe who v c) d e = refl
silent k (read who v c offset room) d e = refl
silent k (write who v c value) d e = refl
silent k (take room) d e = clash (sym e)

module _ (k : Lent) (gen nam : Beginning) where
  -- what C hears of one call is what the desk of the history hands out
  pub hears_made : {h : List Call} {call : Call} {state state' : List ℕ} {o : Option Handout} → Run k gen nam h state → Made k call state state' o → o ≡ handed_out k call (desk_at k gen nam h)
  hears_made {h} run (other call t l) = silent k call (desk_at k gen nam h) t
  hears_made {h} run (taken {state} {out = out} {a = a} {b = b} {c = c} {e = e} t) =
      let m = means k gen nam run in
      (λ i. heard (t.leaves.told i) (t.words i) (t.output i))
      ∙ (λ i. heard (take_call k (m i) (length out)).said.number (words_after (take_call k (m i) (length out)).said (a ∷ b ∷ c ∷ e ∷ [])) (table_after (take_call k (m i) (length out)).said (take_octets k (m i)) out))
      ∙ heard_is k (began_right k gen nam run).0 gen nam h out a b c e

  heard_all : (who v : ℕ) {h : List Call} {state : List ℕ} (run : Run k gen nam h state) → heard_by who v run ≡ all_handed k gen nam who v h
  heard_all who v (started l) = refl
  heard_all who v (then {h = h} run m) = λ i. heard_all who v run i ++ handed_by (length h) (handouts_to who v control_slot (prepend (hears_made run m i) []))

  -- and all that it hears
  pub hears_given : {h ks : List Call} {state : List ℕ} {l : List Handout} → Run k gen nam h state → Onward k state ks l → l ≡ given k gen nam h ks
  hears_given run done = refl
  hears_given {h = h} run (and {call = call} m on) = λ i. prepend (hears_made run m i) (hears_given {h = call ∷ h} (then run m) on i)

  -- the number of every call is what its definition says after the history
  pub answers : {h : List Call} {state state' : List ℕ} {number : ℕ} (call : Call) → Run k gen nam h state → Leaves (left k call (desk_of state)) state number state'
      → number ≡ (left k call (desk_at k gen nam h)).said.number
  answers call run l = l.told ∙ (λ i. (left k call (means k gen nam run i)).said.number)

  -- the output of every read, and the word for its length, are those of the desk of the history
  pub shows : {h : List Call} {state out told out' told' : List ℕ} (who v characteristic offset : ℕ) → Run k gen nam h state
      → Shown k (desk_of state) who v characteristic offset out told out' told' → Shown k (desk_at k gen nam h) who v characteristic offset out told out' told'
  shows {out = out} {told = told} {out' = out'} {told' = told'} who v characteristic offset run p =
      subst (λ (d : Desk). Shown k d who v characteristic offset out told out' told') (means k gen nam run) p

  module _ {h : List Call} {state : List ℕ} (run : Run k gen nam h state) where
    pub right : lent_rule k ≡ true
    right = (began_right k gen nam run).0

    pub gt : text_rule gen.name ≡ true
    gt = (began_right k gen nam run).1

    pub nt : text_rule nam.name ≡ true
    nt = (began_right k gen nam run).2

    abbrev ledger : Ledger
    ledger = ledger_at k gen nam h

    -- SCOPE 13.3: "What is left over, 0 to 65,535, is the new rest."; in the octets that C keeps
    pub rest_always : (v : ℕ) → v < service_count → (service_at (desk_of state) v).player.place.rest < parts
    rest_always v service =
        subst (λ (d : Desk). (service_at d v).player.place.rest < parts) (sym (means k gen nam run)) (desk.rest_always k right gen nam gt nt h v service)

    module _ (who v : ℕ) (client : who < client_count) (service : v < service_count) {ks : List Call} {l : List Handout} (on : Onward k state ks l) where
      -- SCOPE 21.4: "While a client stays connected and subscribed, a value owed to it is handed out by the 112th answered take from when it fell due."
      pub value_by_the_112th : (s : ℕ) → s < slot_count → Stays k gen nam who v s h ks → owes ((ledger.service v).account who) s ≡ true → bound ≤ length l
          → 1 ≤ count_for who (place_of v s) (firsts bound l)
      value_by_the_112th s slot stays due enough =
          let e = hears_given run on in
          subst (λ (x : List Handout). 1 ≤ count_for who (place_of v s) (firsts bound x)) (sym e)
          (desk.value_by_the_112th k right gen nam gt nt who v s client service slot h ks stays due (subst (λ (x : List Handout). bound ≤ length x) e enough))

      -- SCOPE 21.5: "its result at place k of its waiting results is handed out by the 112·k-th answered take, though the other clients write without pause"
      pub results_by_112_each : Stays k gen nam who v control_slot h ks → (j : ℕ) → j ≤ length (shown ((ledger.service v).account who).waiting) → bound * j ≤ length l
          → (j ≤ count_for who (place_of v control_slot) (firsts (bound * j) l))
          × (firsts j (handouts_to who v control_slot (firsts (bound * j) l)) ≡ firsts j (shown ((ledger.service v).account who).waiting))
      results_by_112_each stays j place enough =
          let e = hears_given run on in
          subst
          (λ (x : List Handout). (j ≤ count_for who (place_of v control_slot) (firsts (bound * j) x)) × (firsts j (handouts_to who v control_slot (firsts (bound * j) x)) ≡ firsts j (shown ((ledger.service v).account who).waiting)))
          (sym e) (desk.results_by_112_each k right gen nam gt nt who v client service h ks stays j place (subst (λ (x : List Handout). bound * j ≤ length x) e enough))

      -- while it stays subscribed, what waited and then what it wrote to the service is what it hears and then what still waits
      pub none_lost : Stays k gen nam who v control_slot h ks
          → shown ((ledger.service v).account who).waiting ++ written_in k gen nam who v h ks
          ≡ handouts_to who v control_slot l ++ shown (((ledger_at k gen nam (onward k gen nam h ks)).service v).account who).waiting
      none_lost stays =
          desk.none_lost k right gen nam gt nt who v client h ks stays
          ∙ (λ i. handouts_to who v control_slot (sym (hears_given run on) i) ++ shown (((ledger_at k gen nam (onward k gen nam h ks)).service v).account who).waiting)

    -- SCOPE 21.6: "Results come at most once each, in the order of that client's own writes."; of each service
    pub once_in_order : (who v : ℕ) → who < client_count → (places : List ℕ) × OwnWrites k gen nam who v h 0 places (heard_by who v run)
    once_in_order who v client =
        let p = desk.once_in_order k right gen nam gt nt who v client h in
        (p.0, subst (OwnWrites k gen nam who v h 0 p.0) (sym (heard_all who v run)) p.1)

    -- SCOPE 21.7: "A value handed out is the present one, and nothing is handed out that is not owed."
    pub present_and_owed : {call : Call} {state' : List ℕ} {o : Option Handout} → Made k call state state' o → (a : Handout) → o ≡ some a
        → (owed_at ledger a.client a.place ≡ true)
        × (a.octets ≡ octets_in k (ledger.service (service_of a.place)) a.client (ledger.link a.client) (slot_at a.place))
    present_and_owed {call} m a e = desk.present_and_owed k right gen nam gt nt h call a (sym (hears_made run m) ∙ e)

    -- SCOPE 21.8: "A take lent 128 octets or more is answered whenever anything is owed to any client."
    pub answered_if_owed : {room : ℕ} {state' : List ℕ} {o : Option Handout} → Made k (take room) state state' o → 128 ≤ room → (who v s : ℕ) → who < client_count → v < service_count → s < slot_count
        → owes ((ledger.service v).account who) s ≡ true → o ≡ some (answer_in k ledger (next_in ledger))
    answered_if_owed {room} m lent who v s client service slot due = hears_made run m ∙ desk.answered_if_owed k right gen nam gt nt h room who v s lent client service slot due

  -- SCOPE 17.4: "A call to one service never alters the replies, the state or the owed values of the other." A call to a service leaves what the octets mean of
  -- every other service as it was.
  pub others_stay : {call : Call} {state state' : List ℕ} {o : Option Handout} {v : ℕ} → Made k call state state' o → To v call → (w : ℕ) → (w ≡ v → ⊥)
      → service_at (desk_of state') w ≡ service_at (desk_of state) w
  others_stay {state = state} m to w n = ap (λ (d : Desk). service_at d w) (made_means k gen nam m) ∙ apart.others_stay k to (desk_of state) w n
