-- A history of the library's calls (SCOPE 21.3): after an accepted `mcs_start`, any calls on the state, each given the octets that the last one left, with one
-- catalogue and one set of office's titles throughout. What a call is said to do here is its contract.
-- Assumes nothing.
use Rattle.std.specs.Prelude.{◌≡◌, Bool, true, false, List, [], ◌∷◌, ◌++◌, ℕ, eqb, length, get_or, take as firsts}
use Rattle.std.proofs.Math.Option.{Option, none, some}
use Rattle.ground.specs.Cases.{pick}
use Rattle.ground.specs.Lists.{table_after}
use Rattle.catalogue_titles.specs.Lent.{Lent}
use Rattle.desk_slots.specs.Slots.{slot_of, place_of}
use Rattle.desk_client.specs.Client.{control_slot}
use Rattle.desk_console.specs.Console.{Beginning, start_call}
use Rattle.desk_state.specs.declared.Desk.{Desk}
use Rattle.desk_exchange.specs.Read.{read_call, read_octets}
use Rattle.desk_take.specs.Take.{take_call, take_octets}
use Rattle.desk_history.specs.Calls.{Call, set_name, activate, deactivate, advance, connect, disconnect, subscribe, unsubscribe, read, write, take, left}
use Rattle.desk_history.specs.Rounds.{Handout, prepend}
use Rattle.desk_history.specs.History.{subscribed_at, handouts_to, Handed, handed_by}
use Rattle.desk_quiet.specs.Known.{learnt_by}
use Rattle.mcs_state.specs.Codec.{desk_of}
use Rattle.mcs_told.specs.Calls.{Leaves, words_after}

-- what a read of this desk gives in the lent output and in the word for the length
pub record Shown (k : Lent) (d : Desk) (who v characteristic offset : ℕ) (out told out' told' : List ℕ) : Type 0 where
  pub output : out' ≡ table_after (read_call k d who v characteristic offset (length out)).said (read_octets k d who v characteristic offset) out
  pub word : told' ≡ words_after (read_call k d who v characteristic offset (length out)).said told

-- what `mcs_take` promises of the state's octets, of the lent output and of the four words for client, service, characteristic and length
pub record Taken (k : Lent) (state out served : List ℕ) (number : ℕ) (state' out' served' : List ℕ) : Type 0 where
  pub leaves : Leaves (take_call k (desk_of state) (length out)) state number state'
  pub output : out' ≡ table_after (take_call k (desk_of state) (length out)).said (take_octets k (desk_of state)) out
  pub words : served' ≡ words_after (take_call k (desk_of state) (length out)).said served

-- what C reads off a take: nothing where the number is not 0 or the characteristic is 0; else the client, the place of the service's slot, and so many octets
-- of the output
abbrev pub heard : ℕ → List ℕ → List ℕ → Option Handout
heard number served out =
    pick (eqb number 0)
    (pick (eqb (get_or served 2 0) 0) none
    (some (record { client = get_or served 0 0; place = place_of (get_or served 1 0) (slot_of (get_or served 2 0)); octets = firsts (get_or served 3 0) out })))
    none

-- a call of another function
abbrev pub is_take : Call → Bool
is_take (set_name v name) = false
is_take (activate v g) = false
is_take (deactivate v) = false
is_take (advance v step) = false
is_take (connect who mtu encrypted) = false
is_take (disconnect who) = false
is_take (subscribe who v c) = false
is_take (unsubscribe who v c) = false
is_take (read who v c offset room) = false
is_take (write who v c value) = false
is_take (take room) = true

-- a call of the library on the state's octets: the octets afterwards, and what C hears
pub data Made (k : Lent) : Call → List ℕ → List ℕ → Option Handout → Type 0 where
  other : {state state' : List ℕ} {number : ℕ} (call : Call) → is_take call ≡ false → Leaves (left k call (desk_of state)) state number state' → Made k call state state' none
  taken : {state state' out out' served' : List ℕ} {number a b c e : ℕ} → Taken k state out (a ∷ b ∷ c ∷ e ∷ []) number state' out' served'
      → Made k (take (length out)) state state' (heard number served' out')

module _ (k : Lent) (generic named : Beginning) where
  -- the calls, newest first, and the state's octets after them; start answered 0
  pub data Run : List Call → List ℕ → Type 0 where
    started : {old state : List ℕ} → Leaves (start_call k generic named) old 0 state → Run [] state
    then : {h : List Call} {call : Call} {state state' : List ℕ} {o : Option Handout} → Run h state → Made k call state state' o → Run (call ∷ h) state'

-- what client who heard at 18 of service v, first first, each with the place of its take
abbrev pub heard_by : {k : Lent} {generic named : Beginning} → ℕ → ℕ → {h : List Call} {state : List ℕ} → Run k generic named h state → List Handed
heard_by who v (started l) = []
heard_by who v (then {h = h} {o = o} run m) = heard_by who v run ++ handed_by (length h) (handouts_to who v control_slot (prepend o []))

-- the number that a call returned
abbrev pub answered_with : {k : Lent} {call : Call} {state state' : List ℕ} {o : Option Handout} → Made k call state state' o → ℕ
answered_with (other {number = number} call no-take l) = number
answered_with (taken {number = number} t) = number

-- what client who has learnt of slot s of service v since it subscribed, newest first: what it heard, and what it wrote itself by a call that returned 0
abbrev pub learnt_from : {k : Lent} {generic named : Beginning} → ℕ → ℕ → ℕ → {h : List Call} {state : List ℕ} → Run k generic named h state → List (List ℕ)
learnt_from who v s (started l) = []
learnt_from {k = k} {generic = generic} {named = named} who v s (then {h = h} {call = call} {o = o} run m) =
    pick (subscribed_at k generic named who v s h) (learnt_by who v s call (answered_with m) o ++ learnt_from who v s run) []

-- from these octets on: further calls, first call first, and all that C hears, first answer first
pub data Onward (k : Lent) : List ℕ → List Call → List Handout → Type 0 where
  done : {state : List ℕ} → Onward k state [] []
  and : {call : Call} {ks : List Call} {state state' : List ℕ} {o : Option Handout} {l : List Handout} → Made k call state state' o → Onward k state' ks l → Onward k state (call ∷ ks) (prepend o l)
