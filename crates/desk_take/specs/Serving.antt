-- What a client is handed next, from its own record (SCOPE 19.3 and 19.4).
-- Assumes nothing.
use Rattle.std.specs.Prelude.{◌≡◌, Bool, ◌&&◌, List, [], ◌∷◌, ◌++◌, map, ℕ, ◌-◌, eqb, ltb, length, take, get_or, Result, Ok, Err}
use Rattle.ground.specs.Cases.{pick, has}
use Rattle.ground.specs.Limits.{least_output}
use Rattle.ground.specs.Lists.{table_after, all_below, span}
use Rattle.ground.specs.Refusals.{granted, Left, leaves, keeping, Row, answered}
use Rattle.catalogue_titles.specs.Lent.{Lent}
use Rattle.desk_slots.specs.Slots.{service_count, place_count, characteristic_of, service_of, slot_at, places_of}
use Rattle.desk_slots.specs.Round.{next}
use Rattle.player_state.specs.declared.Player.{Player}
use Rattle.player_check.specs.Standing.{player_rule}
use Rattle.player_values.specs.Values.{source_of, value_of}
use Rattle.desk_client.specs.declared.Entry.{Entry}
use Rattle.desk_client.specs.declared.Account.{Account}
use Rattle.desk_client.specs.declared.Client.{Client}
use Rattle.desk_client.specs.Client.{is_control, blank_entry, account_with, client_rule}
use Rattle.desk_client.specs.Duties.{passed_on}
use Rattle.desk_state.specs.Desk.{no_player}
use Rattle.ground.specs.declared.Refusal.{Refusal}
use Rattle.desk_replies.specs.declared.Reply.{Reply}
use Rattle.desk_replies.specs.Replies.{said_of, lent_rows, state_row}
use Rattle.desk_take.specs.declared.Own.{Own}

-- SCOPE 19.7: "The owed slots of a client are one set of bits for each service"; these are one set of places, those at which the client is owed something
unfoldable pub places_owed : Client → ℕ
places_owed c = places_of (map (λ v. (account_with c v).owed) (span 0 service_count))

-- SCOPE 19.3: "the first owed slot after the one that was served last, round the client's 28 places"
abbrev pub next_place : Client → ℕ
next_place c = next place_count (has (places_owed c)) c.link.mark

-- SCOPE 18.7: "A result is the requested opcode and the result code."
abbrev pub result_octets : Entry → List ℕ
result_octets e = e.opcode ∷ e.code ∷ []

-- SCOPE 19.4: "the present value" of the service's player; "Of 18 it is the oldest result"
abbrev pub present_octets : Lent → Player → Account → ℕ → List ℕ
present_octets k p a s =
    pick (is_control s) (result_octets (get_or a.results 0 blank_entry)) (value_of (source_of k) p (characteristic_of s))

-- the players of the services, by number
abbrev pub player_at : List Player → ℕ → Player
player_at players v = get_or players v no_player

-- SCOPE 19.4: "its first ATT_MTU − 3 octets"
unfoldable pub handed_octets : Lent → List Player → Client → List ℕ
handed_octets k players c =
    take (c.link.mtu - 3)
    (present_octets k (player_at players (service_of (next_place c))) (account_with c (service_of (next_place c))) (slot_at (next_place c)))

-- a client that is served its next place: what is said of it, and its record afterwards
abbrev pub handed_values : Lent → List Player → Client → List ℕ
handed_values k players c =
    service_of (next_place c) ∷ characteristic_of (slot_at (next_place c)) ∷ length (handed_octets k players c) ∷ []

abbrev pub after_serving : Client → Client
after_serving c = passed_on (next_place c) c

-- a take of one's own record: 200, 224, 205, 201 of the players and of this record; where nothing is owed, "the answer says so and nothing changes"
-- (SCOPE 19.5)
unfoldable pub players_rule : List ℕ → List ℕ → List Player → Bool
players_rule groups tracks players = all_below service_count (λ v. player_rule groups tracks (player_at players v))

abbrev pub record_right : Lent → List Player → Client → Bool
record_right k players c = players_rule k.groups k.tracks players && client_rule c

abbrev pub own_rows : Lent → List Player → Client → ℕ → List Row
own_rows k players c room = lent_rows k (ltb room least_output) ++ (state_row (record_right k players c) ∷ [])

unfoldable pub own_call : Lent → List Player → Client → ℕ → Left Client
own_call k players c room =
    answered (keeping c) (own_rows k players c room)
    (pick (eqb (places_owed c) 0) (leaves (granted []) c) (leaves (granted (handed_values k players c)) (after_serving c)))

unfoldable pub own_octets : Lent → List Player → Client → List ℕ
own_octets k players c = pick (eqb (places_owed c) 0) [] (handed_octets k players c)

-- what the take answers, and the record afterwards, which is as it was where the take is refused
abbrev pub answer_by : Result Own Refusal → Result Reply Refusal
answer_by (Ok own) = Ok own.reply
answer_by (Err r) = Err r

abbrev pub record_by : Client → Result Own Refusal → Client
record_by c (Ok own) = own.client
record_by c (Err r) = c

-- its answer, the record and the output afterwards
abbrev pub OwnTake : Lent → List Player → Client → List ℕ → Result Reply Refusal → Client → List ℕ → Type 0
OwnTake k players c out answer c' out' =
    (leaves (said_of answer) c' ≡ own_call k players c (length out)) × (out' ≡ table_after (said_of answer) (own_octets k players c) out)
