-- The title of a service's player, handed back and not copied. SCOPE 5.6: "It is a part of the office's text or of the card's text itself, and never a copy."
-- SCOPE 5.8: "A second call with the same inputs says which part it is"
-- Assumes nothing.
use Rattle.std.specs.Prelude.{[], ℕ, Result, Ok, Err}
use Rattle.ground.specs.Refusals.{granted, refusal_of, Left, leaves, keeping, answered}
use Rattle.ground.specs.declared.Refusal.{Refusal}
use Rattle.catalogue_titles.specs.declared.Part.{Part}
use Rattle.catalogue_titles.specs.Titles.{front}
use Rattle.catalogue_titles.specs.Lent.{Lent}
use Rattle.player_values.specs.Values.{title_part}
use Rattle.desk_state.specs.declared.Desk.{Desk}
use Rattle.desk_state.specs.Desk.{service_at}
use Rattle.desk_replies.specs.Replies.{on_service}

-- SCOPE 5.7: "While the player is Inactive, and where the call is refused, that part is the empty front of the card's text."
unfoldable pub title_call : Lent → Desk → ℕ → Left Part
title_call k d service =
    answered (keeping front) (on_service k d service) (leaves (granted []) (title_part k.tracks k.renames (service_at d service).player))

-- what the call says, and the part beside it
abbrev pub titled_by : Result Part Refusal → Left Part
titled_by (Ok part) = leaves (granted []) part
titled_by (Err r) = leaves (refusal_of r) front
