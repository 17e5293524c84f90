-- What falls due when a call has changed the player (SCOPE 18.1 to 18.5). These rules choose where the standard leaves notifications to the server (SCOPE 18.9).
-- Assumes nothing.
use Rattle.std.specs.Prelude.{Bool, false, not, ◌&&◌, ◌||◌, ℕ, eqb}
use Rattle.ground.specs.Cases.{has}
use Rattle.ground.specs.Lists.{map_from}
use Rattle.player_state.specs.declared.Player.{Player}
use Rattle.player_values.specs.Values.{Source}
use Rattle.desk_slots.specs.Slots.{slot_count, client_count, characteristic_of}
use Rattle.desk_slots.specs.Characteristics.{writer_knows, is_in, set_of}
use Rattle.desk_client.specs.declared.Account.{Account}
use Rattle.desk_client.specs.Duties.{noted}
use Rattle.desk_notices.specs.Changes.{changed, track_changed}
use Rattle.desk_state.specs.declared.Service.{Service}
use Rattle.desk_notices.specs.declared.Cause.{Cause}

-- SCOPE 18.1: "A slot is owed to a subscribed client when a call changes its value". SCOPE 18.2: "4 and 7 are owed whenever the track number changes"
abbrev pub falls_due : Bool → Bool → ℕ → Bool
falls_due altered track characteristic = altered || (track && (eqb characteristic 4 || eqb characteristic 7))

-- SCOPE 18.3: "7 is not owed for an advance in Playing that stays below D." SCOPE 18.4: "8, 11, 12, 14 and 15 are not owed to the client that wrote them."
-- SCOPE 18.5: "The writer of 7 is owed a change of it."
unfoldable pub spared : Cause → ℕ → ℕ → Bool
spared cause who characteristic =
    (cause.quiet && eqb characteristic 7)
    || (eqb who cause.writer && eqb characteristic cause.wrote && is_in writer_knows characteristic)

-- the slots that fall due to a client, when the call found the player p and left q
unfoldable pub due_to : Source → Player → Player → Cause → ℕ → ℕ
due_to from p q cause who =
    set_of slot_count (λ s.
    falls_due (changed from p q (characteristic_of s)) (track_changed p q) (characteristic_of s) && not (spared cause who (characteristic_of s)))

-- the same, by the word of the characteristics that changed
abbrev pub falls : ℕ → Bool → Cause → ℕ → ℕ → Bool
falls altered track cause who s =
    falls_due (has altered (characteristic_of s)) track (characteristic_of s) && not (spared cause who (characteristic_of s))

-- an account is told what changed
abbrev pub noticed : ℕ → Bool → Cause → ℕ → Account → Account
noticed altered track cause who a = noted (set_of slot_count (falls altered track cause who)) altered a

-- the characteristics whose values a call has changed, for the marks of what was read (SCOPE 17.14); nobody is spared these
unfoldable pub altered_of : Source → Player → Player → ℕ
altered_of from p q = set_of 32 (changed from p q)

-- a service after a call that leaves its player q: each account is noted
unfoldable pub settled : Source → Cause → Player → Service → Service
settled from cause q s =
    record {
      player = q;
      accounts = map_from (λ who a. noted (due_to from s.player q cause who) (altered_of from s.player q) a) 0 s.accounts;
    }

-- a call by no client
abbrev pub no_writer : Bool → Cause
no_writer quiet = record { quiet = quiet; writer = client_count; wrote = 0 }

-- a write by a client
abbrev pub by_writer : ℕ → ℕ → Cause
by_writer who characteristic = record { quiet = false; writer = who; wrote = characteristic }
