-- A history (SCOPE 21.3): a list of calls after a start, with one catalogue and one set of office's titles throughout, where each call is given "the state that
-- the last one left". The ledger and the desk after it, and what its takes hand out.
-- Assumes nothing.
use Rattle.std.specs.Prelude.{◌≡◌, Bool, true, ◌&&◌, List, [], ◌∷◌, ◌++◌, map, ℕ, suc, ◌-◌, ◌*◌, ◌≤◌, ◌<◌, eqb, leb, length, take as firsts}
use Rattle.std.proofs.Math.Option.{Option, none, some}
use Rattle.ground.specs.Cases.{pick}
use Rattle.catalogue_titles.specs.Lent.{Lent}
use Rattle.player_values.specs.Values.{source_of, value_of}
use Rattle.desk_slots.specs.Slots.{place_count, client_count, slot_of, characteristic_of, place_of, service_of, slot_at}
use Rattle.desk_client.specs.declared.Entry.{Entry}
use Rattle.desk_client.specs.Client.{control_slot, is_control}
use Rattle.desk_state.specs.declared.Desk.{Desk}
use Rattle.desk_console.specs.Console.{Beginning, freshly, start_call}
use Rattle.desk_take.specs.Serving.{result_octets}
use Rattle.desk_take.specs.Take.{take_call, take_octets}
use Rattle.desk_history.specs.Calls.{Call, set_name, activate, deactivate, advance, connect, disconnect, subscribe, unsubscribe, read, write, take, left}
use Rattle.desk_history.specs.Ledger.{Line, Book, Ledger, opening, after, next_in, place_in, may_write, may_take, result_of}
use Rattle.desk_history.specs.Rounds.{Handout, is_for, prepend}

-- by the rules: "the present value, its first ATT_MTU − 3 octets" (SCOPE 19.4); of 18 the oldest result
abbrev pub oldest : List Entry → List ℕ
oldest [] = []
oldest (e ∷ l) = result_octets e

abbrev pub octets_in : Lent → Book → ℕ → Line → ℕ → List ℕ
octets_in k b who line s =
    firsts (line.mtu - 3) (pick (is_control s) (oldest (b.account who).waiting) (value_of (source_of k) b.player (characteristic_of s)))

abbrev pub answer_at : Lent → Ledger → ℕ → ℕ → Handout
answer_at k L who place =
    record { client = who; place = place; octets = octets_in k (L.service (service_of place)) who (L.link who) (slot_at place) }

abbrev pub answer_in : Lent → Ledger → ℕ → Handout
answer_in k L who = answer_at k L who (place_in L who)

-- a take of enough room hands out the next thing that is owed, if anything is; no other call hands out anything
abbrev pub due_out : Lent → Call → Ledger → Option Handout
due_out k (set_name v name) L = none
due_out k (activate v g) L = none
due_out k (deactivate v) L = none
due_out k (advance v step) L = none
due_out k (connect who mtu encrypted) L = none
due_out k (disconnect who) L = none
due_out k (subscribe who v c) L = none
due_out k (unsubscribe who v c) L = none
due_out k (read who v c offset room) L = none
due_out k (write who v c value) L = none
due_out k (take room) L = pick (may_take room) (pick (leb client_count (next_in L)) none (some (answer_in k L (next_in L)))) none

-- by the desk: what a take says, and the octets that it puts over the front of the output
abbrev pub spoken : List ℕ → List ℕ → Option Handout
spoken [] octets = none
spoken (a ∷ []) octets = none
spoken (a ∷ b ∷ []) octets = none
spoken (a ∷ b ∷ c ∷ []) octets = none
spoken (who ∷ v ∷ characteristic ∷ n ∷ []) octets =
    some (record { client = who; place = place_of v (slot_of characteristic); octets = octets })
spoken (a ∷ b ∷ c ∷ d ∷ e ∷ l) octets = none

abbrev pub handed_out : Lent → Call → Desk → Option Handout
handed_out k (set_name v name) d = none
handed_out k (activate v g) d = none
handed_out k (deactivate v) d = none
handed_out k (advance v step) d = none
handed_out k (connect who mtu encrypted) d = none
handed_out k (disconnect who) d = none
handed_out k (subscribe who v c) d = none
handed_out k (unsubscribe who v c) d = none
handed_out k (read who v c offset room) d = none
handed_out k (write who v c value) d = none
handed_out k (take room) d = spoken (take_call k d room).said.values (take_octets k d)

-- the result, for client c and service v, of an accepted control write by c to v, where c is subscribed to 18 there at the time (SCOPE 18.7)
abbrev pub result_by : Lent → ℕ → ℕ → Call → Ledger → List (List ℕ)
result_by k c v (set_name w name) L = []
result_by k c v (activate w g) L = []
result_by k c v (deactivate w) L = []
result_by k c v (advance w step) L = []
result_by k c v (connect who mtu encrypted) L = []
result_by k c v (disconnect who) L = []
result_by k c v (subscribe who w x) L = []
result_by k c v (unsubscribe who w x) L = []
result_by k c v (read who w x offset room) L = []
result_by k c v (write who w x value) L =
    pick (may_write k L who w x value)
    (pick (eqb c who && (eqb v w && (eqb x 18 && ((L.service v).account c).wants control_slot))) (result_octets (result_of k (L.service v) value) ∷ []) []) []
result_by k c v (take room) L = []

module _ (k : Lent) (generic named : Beginning) where
  -- newest call first
  abbrev pub ledger_at : List Call → Ledger
  ledger_at [] = opening (freshly generic) (freshly named)
  ledger_at (c ∷ h) = after k c (ledger_at h)

  abbrev pub desk_at : List Call → Desk
  desk_at [] = (start_call k generic named).state
  desk_at (c ∷ h) = (left k c (desk_at h)).state

  -- the history h and then the calls ks, first call first; what these hand out, first answer first
  abbrev pub onward : List Call → List Call → List Call
  onward h [] = h
  onward h (c ∷ ks) = onward (c ∷ h) ks

  abbrev pub given : List Call → List Call → List Handout
  given h [] = []
  given h (c ∷ ks) = prepend (handed_out k c (desk_at h)) (given (c ∷ h) ks)

  -- client who is subscribed to slot s of service v at h
  abbrev pub subscribed_at : ℕ → ℕ → ℕ → List Call → Bool
  subscribed_at who v s h = (((ledger_at h).service v).account who).wants s

  -- it is at h and after each of the calls ks; who is subscribed is connected
  abbrev pub Stays : ℕ → ℕ → ℕ → List Call → List Call → Type 0
  Stays who v s h [] = subscribed_at who v s h ≡ true
  Stays who v s h (c ∷ ks) = (subscribed_at who v s h ≡ true) × Stays who v s (c ∷ h) ks

  -- a call's place in a history is the number of calls before it: the result that the call at place p has for client who and service v
  abbrev pub result_at : ℕ → ℕ → List Call → ℕ → List (List ℕ)
  result_at who v [] p = []
  result_at who v (c ∷ h) p = pick (eqb p (length h)) (result_by k who v c (ledger_at h)) (result_at who v h p)

  -- the results that the calls ks have for client who and service v
  abbrev pub written_in : ℕ → ℕ → List Call → List Call → List (List ℕ)
  written_in who v h [] = []
  written_in who v h (c ∷ ks) = result_by k who v c (ledger_at h) ++ written_in who v (c ∷ h) ks

-- as many answered takes as there are places in the rounds of all clients, "4 clients times 28 places" (SCOPE 21.4)
abbrev pub bound : ℕ
bound = client_count * place_count

-- what these answers hand to client who at slot s of service v
abbrev pub handouts_to : ℕ → ℕ → ℕ → List Handout → List (List ℕ)
handouts_to who v s [] = []
handouts_to who v s (a ∷ l) = pick (is_for who (place_of v s) a) (a.octets ∷ handouts_to who v s l) (handouts_to who v s l)

-- results as they are handed out
abbrev pub shown : List Entry → List (List ℕ)
shown l = map result_octets l

-- what was handed out, and the place of the take that did it
pub record Handed : Type 0 where
  pub place : ℕ
  pub octets : List ℕ

abbrev pub handed_by : ℕ → List (List ℕ) → List Handed
handed_by place l = map (λ o. record { place = place; octets = o }) l

module _ (k : Lent) (generic named : Beginning) (who v : ℕ) where
  -- what client who was handed at 18 of service v, first first
  abbrev pub all_handed : List Call → List Handed
  all_handed [] = []
  all_handed (c ∷ h) = all_handed h ++ handed_by (length h) (handouts_to who v control_slot (prepend (handed_out k c (desk_at k generic named h)) []))

  -- ps are the places of the writes whose results these are: from n on and strictly rising, so that none is there twice; each before the take that handed
  -- its result out, and the octets are that write's opcode and result
  abbrev pub OwnWrites : List Call → ℕ → List ℕ → List Handed → Type 0
  OwnWrites h n [] [] = Unit {0}
  OwnWrites h n [] (a ∷ l) = ⊥
  OwnWrites h n (p ∷ ps) [] = ⊥
  OwnWrites h n (p ∷ ps) (a ∷ l) =
      (n ≤ p) × (p < a.place) × (result_at k generic named who v h p ≡ a.octets ∷ []) × OwnWrites h (suc p) ps l
