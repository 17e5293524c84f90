-- Take. SCOPE 19.1: "It is a call to neither service."
-- Assumes nothing.
use Rattle.std.specs.Prelude.{◌≡◌, true, List, [], ◌∷◌, map, ℕ, ◌<◌, leb, ltb}
use Rattle.ground.specs.Cases.{pick}
use Rattle.ground.specs.Limits.{least_output}
use Rattle.ground.specs.Lists.{span}
use Rattle.ground.specs.Refusals.{granted, Left, leaves}
use Rattle.catalogue_titles.specs.Lent.{Lent}
use Rattle.desk_slots.specs.Slots.{service_count, client_count, owing}
use Rattle.desk_slots.specs.Round.{next}
use Rattle.player_state.specs.declared.Player.{Player}
use Rattle.desk_client.specs.declared.Client.{Client}
use Rattle.desk_client.specs.Client.{client_rule}
use Rattle.desk_state.specs.declared.Desk.{Desk}
use Rattle.desk_state.specs.Desk.{service_at, client_at, with_client}
use Rattle.desk_replies.specs.Replies.{asked}
use Rattle.desk_take.specs.Serving.{places_owed, handed_octets, handed_values, after_serving}

-- every client's record keeps what 201 asks of it (SCOPE 20.5)
abbrev pub AllRight : Desk → Type 0
AllRight d = (who : ℕ) → who < client_count → client_rule (client_at d who) ≡ true

-- the places at which each client is owed something
unfoldable pub owed_sets : Desk → List ℕ
owed_sets d = map (λ who. places_owed (client_at d who)) (span 0 client_count)

-- SCOPE 19.2: "It starts after the client that was served last, goes round the four in number order, and serves the first that is owed something.";
-- clientCount where none is
unfoldable pub next_client : Desk → ℕ
next_client d = next client_count (owing (owed_sets d)) d.turn

abbrev pub players_of : Desk → List Player
players_of d = map (λ v. (service_at d v).player) (span 0 service_count)

-- the state with another record of a client, who was served last
unfoldable pub with_served : ℕ → Client → Desk → Desk
with_served who c d = record { services = (with_client who c d).services; links = (with_client who c d).links; turn = who }

-- client who is served its next place; nobody where there is no such client
abbrev pub taken_by : Lent → Desk → ℕ → Left Desk
taken_by k d who =
    pick (leb client_count who) (leaves (granted []) d)
    (leaves (granted (who ∷ handed_values k (players_of d) (client_at d who))) (with_served who (after_serving (client_at d who)) d))

-- 200, 224, 205, 201. SCOPE 19.5: "Where nothing is owed to anybody, the answer says so and nothing changes."
unfoldable pub take_call : Lent → Desk → ℕ → Left Desk
take_call k d room = asked k (ltb room least_output) d [] (taken_by k d (next_client d))

unfoldable pub take_octets : Lent → Desk → List ℕ
take_octets k d = pick (leb client_count (next_client d)) [] (handed_octets k (players_of d) (client_at d (next_client d)))
