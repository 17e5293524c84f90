-- The manual's Goto of a service's player. SCOPE 15.1: "It alters nothing, and says where the player would be." What it comes to and the steps made are told
-- too.
-- Assumes nothing.
use Rattle.std.specs.Prelude.{List, [], ◌∷◌, ℕ, Result, Ok, Err}
use Rattle.ground.specs.Refusals.{granted, refusal_of, Left, leaves, keeping, answered}
use Rattle.ground.specs.declared.Refusal.{Refusal}
use Rattle.catalogue_titles.specs.Lent.{Lent}
use Rattle.player_state.specs.Player.{place_at}
use Rattle.player_goto.specs.declared.Gone.{Gone}
use Rattle.player_goto.specs.Goto.{gone}
use Rattle.desk_state.specs.declared.Desk.{Desk}
use Rattle.desk_state.specs.Desk.{service_at}
use Rattle.desk_replies.specs.Replies.{on_service}
use Rattle.desk_goto.specs.declared.Arrival.{Arrival}

abbrev pub arrival_of : Gone → Arrival
arrival_of g = record { outcome = g.outcome; steps = g.steps; place = g.player.place }

-- what stands beside a refusal
abbrev pub no_arrival : Arrival
no_arrival = record { outcome = 0; steps = 0; place = place_at 0 0 0 }

unfoldable pub manual_call : Lent → Desk → ℕ → ℕ → ℕ → ℕ → Left Arrival
manual_call k d service opcode n allowed =
    answered (keeping no_arrival) (on_service k d service)
    (leaves (granted []) (arrival_of (gone k.groups k.tracks k.segments opcode n allowed (service_at d service).player)))

-- what the call says, and the arrival beside it
abbrev pub shown_by : Result Arrival Refusal → Left Arrival
shown_by (Ok arrival) = leaves (granted []) arrival
shown_by (Err r) = leaves (refusal_of r) no_arrival

-- an arrival as words: the outcome and the steps; and the place
abbrev pub made_values : Arrival → List ℕ
made_values a = a.outcome ∷ a.steps ∷ []

abbrev pub place_values : Arrival → List ℕ
place_values a = a.place.group.0 ∷ a.place.track.0 ∷ a.place.position.0 ∷ a.place.rest ∷ []
