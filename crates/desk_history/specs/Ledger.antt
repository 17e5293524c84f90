-- What the rules say of the players and of each client after a call (SCOPE 17 to 20), from the history of calls alone (SCOPE 21.9). Nothing here knows how the
-- desk stores it: sets of slots are questions, results are a list.
-- Assumes nothing.
use Rattle.std.specs.Prelude.{Bool, true, false, not, ◌&&◌, ◌||◌, List, [], ◌∷◌, ◌++◌, ℕ, zero, suc, ◌-◌, eqb, leb, ltb, length}
use Rattle.ground.specs.Cases.{pick}
use Rattle.ground.specs.Limits.{least_output}
use Rattle.ground.specs.Refusals.{Row, row, accepted}
use Rattle.catalogue_titles.specs.Lent.{Lent, catalogue_of}
use Rattle.player_state.specs.declared.Player.{Player}
use Rattle.player_state.specs.Player.{renamed, deactivated}
use Rattle.player_moves.specs.declared.Controlled.{Controlled}
use Rattle.player_moves.specs.Control.{controlled}
use Rattle.player_moves.specs.Clock.{advanced, activated}
use Rattle.desk_slots.specs.Slots.{place_count, client_count, slot_of, characteristic_of, service_of, slot_at}
use Rattle.desk_slots.specs.Round.{next}
use Rattle.desk_client.specs.declared.Entry.{Entry}
use Rattle.desk_client.specs.Client.{control_slot, is_control}
use Rattle.desk_notices.specs.Changes.{changed, track_changed}
use Rattle.desk_notices.specs.declared.Cause.{Cause}
use Rattle.desk_notices.specs.Owed.{falls_due, spared, no_writer, by_writer}
use Rattle.desk_links.specs.Links.{connect_rows, disconnect_rows, slot_rows}
use Rattle.desk_console.specs.Console.{name_rows, activate_rows, service_rows, quiet_advance}
use Rattle.desk_exchange.specs.Read.{read_rows}
use Rattle.desk_exchange.specs.Write.{first_octet, allowed, write_rows, number_of, player_written}
use Rattle.player_values.specs.Values.{source_of, value_of}
use Rattle.desk_history.specs.Calls.{Call, set_name, activate, deactivate, advance, connect, disconnect, subscribe, unsubscribe, read, write, take}

-- of a client's link: whether it is connected, encrypted, its ATT_MTU, and the place of its round that was served last
pub record Line : Type 0 where
  pub on : Bool
  pub safe : Bool
  pub mtu : ℕ
  pub last : ℕ

-- of its account with a service: the slots that it is subscribed to, the values that are owed, the results that wait, oldest first, and the characteristics
-- whose values it has in mind, so that it may read on at an offset (SCOPE 17.14)
pub record Claims : Type 0 where
  pub wants : ℕ → Bool
  pub due : ℕ → Bool
  pub waiting : List Entry
  pub mind : ℕ → Bool

-- of a service: its player, and the accounts of its clients by number
pub record Book : Type 0 where
  pub player : Player
  pub account : ℕ → Claims

-- of the whole: the services and the clients' links by number, and the client that was served last
pub record Ledger : Type 0 where
  pub service : ℕ → Book
  pub link : ℕ → Line
  pub turn : ℕ

-- nothing asked for and nothing owed; a link, whose round begins at the lowest place; that of a client that is not connected
abbrev pub no_claims : Claims
no_claims = record { wants = λ s. false; due = λ s. false; waiting = []; mind = λ c. false }

abbrev pub line_of : Bool → Bool → ℕ → Line
line_of on safe mtu = record { on = on; safe = safe; mtu = mtu; last = place_count - 1 }

abbrev pub no_line : Line
no_line = line_of false false 23

-- SCOPE 17.6: "the round of the clients begins at client 0"
abbrev pub opening : Player → Player → Ledger
opening generic named =
    record {
      service = λ v. record { player = pick (eqb v 0) generic named; account = λ c. no_claims };
      link = λ c. no_line;
      turn = client_count - 1;
    }

-- one service becomes f of it; within a service, one client's account
abbrev pub in_service : ℕ → (Book → Book) → Ledger → Ledger
in_service v f L =
    record { service = λ w. pick (eqb w v) (f (L.service w)) (L.service w); link = L.link; turn = L.turn }

abbrev pub changing : ℕ → (Claims → Claims) → Book → Book
changing who f b = record { player = b.player; account = λ c. pick (eqb c who) (f (b.account c)) (b.account c) }

-- SCOPE 17.9: "Connect and disconnect act on both services"; a client's link becomes another, and no service owes it anything
abbrev pub relinking : ℕ → Line → Ledger → Ledger
relinking who line L =
    record {
      service = λ v. changing who (λ a. no_claims) (L.service v);
      link = λ c. pick (eqb c who) line (L.link c);
      turn = L.turn;
    }

-- SCOPE 18.1: "A slot is owed to a subscribed client when a call changes its value"; what was owed stays owed (SCOPE 18.6), and what changed is no
-- longer in mind
abbrev pub noticing : Lent → Player → Player → Cause → ℕ → Claims → Claims
noticing k p q cause who a =
    record {
      wants = a.wants;
      due = λ s.
          a.due s
          || (a.wants s
          && (falls_due (changed (source_of k) p q (characteristic_of s)) (track_changed p q) (characteristic_of s)
          && not (spared cause who (characteristic_of s))));
      waiting = a.waiting;
      mind = λ c. a.mind c && not (changed (source_of k) p q c);
    }

abbrev pub becoming : Lent → Cause → Player → Book → Book
becoming k cause q b = record { player = q; account = λ c. noticing k b.player q cause c (b.account c) }

-- subscribing (SCOPE 17.10), and unsubscribing, which "drops what the slot owes" (SCOPE 17.11)
abbrev pub joining : ℕ → Claims → Claims
joining s a = record { wants = λ t. a.wants t || eqb s t; due = a.due; waiting = a.waiting; mind = a.mind }

abbrev pub leaving : ℕ → Claims → Claims
leaving s a =
    record {
      wants = λ t. a.wants t && not (eqb s t);
      due = λ t. a.due t && not (eqb s t);
      waiting = pick (is_control s) [] a.waiting;
      mind = a.mind;
    }

-- an accepted read at 0 brings the value to mind (SCOPE 17.14)
abbrev pub reading : ℕ → ℕ → Claims → Claims
reading c offset a =
    record {
      wants = a.wants;
      due = a.due;
      waiting = a.waiting;
      mind = λ x. a.mind x || (eqb offset 0 && eqb c x);
    }

-- SCOPE 18.7: "There is one for each accepted control write by a client that is subscribed to 18 at the time."
abbrev pub resulting : Entry → Claims → Claims
resulting e a =
    record {
      wants = a.wants;
      due = a.due;
      waiting = pick (a.wants control_slot) (a.waiting ++ (e ∷ [])) a.waiting;
      mind = a.mind;
    }

-- the oldest goes
abbrev pub behind : {A : Type 0} → List A → List A
behind [] = []
behind (e ∷ l) = l

-- a slot is served; and the client's round goes on behind its place
abbrev pub serving : ℕ → Claims → Claims
serving s a =
    record {
      wants = a.wants;
      due = λ u. a.due u && not (eqb s u);
      waiting = pick (is_control s) (behind a.waiting) a.waiting;
      mind = a.mind;
    }

abbrev pub passing : ℕ → Line → Line
passing place l = record { on = l.on; safe = l.safe; mtu = l.mtu; last = place }

-- a slot is owed: "18 is owed while results wait" (SCOPE 18.7), and another when its value is
abbrev pub any_waits : {A : Type 0} → List A → Bool
any_waits [] = false
any_waits (e ∷ l) = true

abbrev pub owes : Claims → ℕ → Bool
owes a s = pick (is_control s) (any_waits a.waiting) (a.due s)

-- client who is owed something at a place: by that service, at that slot
abbrev pub owed_at : Ledger → ℕ → ℕ → Bool
owed_at L who place = owes ((L.service (service_of place)).account who) (slot_at place)

unfoldable pub any_below : ℕ → (ℕ → Bool) → Bool
any_below zero test = false
any_below (suc n) test = any_below n test || test n

unfoldable pub owed_any : Ledger → ℕ → Bool
owed_any L who = any_below place_count (owed_at L who)

-- SCOPE 19.2: "It starts after the client that was served last, goes round the four in number order, and serves the first that is owed something."
-- SCOPE 19.3: "Within that client it serves the first owed slot after the one that was served last, round the client's 28 places"
unfoldable pub next_in : Ledger → ℕ
next_in L = next client_count (owed_any L) L.turn

unfoldable pub place_in : Ledger → ℕ → ℕ
place_in L who = next place_count (owed_at L who) (L.link who).last

abbrev pub serving_at : Ledger → ℕ → ℕ → Ledger
serving_at L who place =
    record {
      service = λ v. pick (eqb v (service_of place)) (changing who (serving (slot_at place)) (L.service v)) (L.service v);
      link = λ c. pick (eqb c who) (passing place (L.link c)) (L.link c);
      turn = who;
    }

abbrev pub taking : Ledger → ℕ → Ledger
taking L who = pick (leb client_count who) L (serving_at L who (place_in L who))

-- which calls are accepted: by the same rows as the desk's, with what the ledger knows of the client
abbrev pub may_connect : Ledger → ℕ → ℕ → Bool
may_connect L who mtu = accepted (connect_rows who (L.link who).on mtu)

abbrev pub may_leave : Ledger → ℕ → Bool
may_leave L who = accepted (disconnect_rows who (L.link who).on)

abbrev pub may_join : Ledger → ℕ → ℕ → ℕ → Bool
may_join L who v c = accepted (slot_rows who v (L.link who).on (L.link who).safe c)

abbrev pub may_write : Lent → Ledger → ℕ → ℕ → ℕ → List ℕ → Bool
may_write k L who v c value =
    accepted (write_rows who v (L.link who).on (L.link who).safe (allowed k.groups (L.service v).player c value) (length ((L.service v).account who).waiting) c value)

-- 0x80 "where some call has changed the value since the client's last accepted read of it at 0, even if it changed back, and where there was no such read since
-- connecting" (SCOPE 17.14)
abbrev pub rows_of_read : Lent → Ledger → ℕ → ℕ → ℕ → ℕ → ℕ → List Row
rows_of_read k L who v c offset room =
    row 205 (ltb room least_output)
    ∷ read_rows who v (L.link who).on (L.link who).safe (((L.service v).account who).mind c) c offset (length (value_of (source_of k) (L.service v).player c))

abbrev pub may_read : Lent → Ledger → ℕ → ℕ → ℕ → ℕ → ℕ → Bool
may_read k L who v c offset room = accepted (rows_of_read k L who v c offset room)

abbrev pub may_take : ℕ → Bool
may_take room = accepted (row 205 (ltb room least_output) ∷ [])

-- a control write: the requested opcode and the result (SCOPE 18.7)
abbrev pub outcome : Lent → Book → List ℕ → Controlled
outcome k b value = controlled k.groups k.tracks k.segments (first_octet value) (number_of value) b.player

abbrev pub result_of : Lent → Book → List ℕ → Entry
result_of k b value = record { opcode = first_octet value; code = (outcome k b value).result }

abbrev pub control_writing : Lent → ℕ → List ℕ → Book → Book
control_writing k who value b =
    changing who (resulting (result_of k b value)) (becoming k (by_writer who 18) (outcome k b value).player b)

-- a write to the control point, and to any other characteristic that may be written (SCOPE 17.15)
abbrev pub writing : Lent → ℕ → ℕ → List ℕ → Book → Book
writing k who c value b =
    pick (eqb c 18) (control_writing k who value b) (becoming k (by_writer who c) (player_written (catalogue_of k) b.player c value) b)

-- a call that is refused "alters nothing" (SCOPE 20.1)
abbrev pub after : Lent → Call → Ledger → Ledger
after k (set_name v name) L =
    pick (accepted (name_rows v name)) (in_service v (λ b. becoming k (no_writer false) (renamed name b.player) b) L) L
after k (activate v g) L =
    pick (accepted (activate_rows k v g)) (in_service v (λ b. becoming k (no_writer false) (activated k.groups k.tracks g b.player) b) L) L
after k (deactivate v) L = pick (accepted (service_rows v)) (in_service v (λ b. becoming k (no_writer false) (deactivated b.player) b) L) L
after k (advance v step) L =
    pick (accepted (service_rows v))
    (in_service v (λ b. becoming k (no_writer (quiet_advance k.tracks step b.player)) (advanced k.groups k.tracks step b.player) b) L) L
after k (connect who mtu encrypted) L = pick (may_connect L who mtu) (relinking who (line_of true encrypted mtu) L) L
after k (disconnect who) L = pick (may_leave L who) (relinking who no_line L) L
after k (subscribe who v c) L = pick (may_join L who v c) (in_service v (changing who (joining (slot_of c))) L) L
after k (unsubscribe who v c) L = pick (may_join L who v c) (in_service v (changing who (leaving (slot_of c))) L) L
after k (read who v c offset room) L = pick (may_read k L who v c offset room) (in_service v (changing who (reading c offset)) L) L
after k (write who v c value) L = pick (may_write k L who v c value) (in_service v (writing k who c value) L) L
after k (take room) L = pick (may_take room) (taking L (next_in L)) L
