-- The player's state (SCOPE 8), its parts by what they mean, and for each part a function that changes it alone.
-- Assumes nothing.
use Rattle.std.specs.Prelude.{Bool, not, ◌&&◌, List, ℕ, ◌+◌, eqb, length, take, replicate}
use Rattle.ground.specs.Cases.{pick}
use Rattle.ground.specs.Limits.{most_title}
use Rattle.ground.specs.Lists.{filled}
use Rattle.player_state.specs.declared.Name.{Name}
use Rattle.player_state.specs.declared.Mode.{Mode}
use Rattle.player_state.specs.declared.Place.{Place}
use Rattle.player_state.specs.declared.Player.{Player}

-- SCOPE 8.1: "The media state is 0 Inactive, 1 Playing, 2 Paused or 3 Seeking."
abbrev pub inactive : ℕ
inactive = 0

abbrev pub playing : ℕ
playing = 1

abbrev pub paused : ℕ
paused = 2

abbrev pub seeking : ℕ
seeking = 3

-- SCOPE 8.2: "The player is Inactive exactly when there is no current track."
abbrev pub is_active : Player → Bool
is_active p = not (eqb p.mode.media inactive)

-- the player with another name, another mode (the media state, the order and the two speeds), or another place (the group, the track, the position, the rest)
abbrev pub with_name : Name → Player → Player
with_name n p = record { name = n; offer = p.offer; mode = p.mode; place = p.place; upcoming = p.upcoming }

abbrev pub with_mode : Mode → Player → Player
with_mode m p = record { name = p.name; offer = p.offer; mode = m; place = p.place; upcoming = p.upcoming }

abbrev pub with_place : Place → Player → Player
with_place l p = record { name = p.name; offer = p.offer; mode = p.mode; place = l; upcoming = p.upcoming }

-- The track that is named to come next (SCOPE 8.6, 14.4). It is kept as 0 where none is named, and else as one more than the number of the track.
abbrev pub with_upcoming : ℕ → Player → Player
with_upcoming n p = record { name = p.name; offer = p.offer; mode = p.mode; place = p.place; upcoming = n }

abbrev pub naming : ℕ → Player → Player
naming t p = with_upcoming (t + 1) p

abbrev pub unnamed : Player → Player
unnamed p = with_upcoming 0 p

-- a place, by its numbers, each of a type of its own (SCOPE 2.3), with the rest of the clock (SCOPE 8.6)
abbrev pub place_with : ℕ → ℕ → ℕ → ℕ → Place
place_with rest group track position =
    record { group = record { 0 = group }; track = record { 0 = track }; position = record { 0 = position }; rest = rest }

-- the clock has brought the player to a position in the current track, and leaves a rest there (SCOPE 13.3, 13.4)
abbrev pub clocked_to : ℕ → ℕ → Player → Player
clocked_to position rest p = with_place (place_with rest p.place.group.0 p.place.track.0 position) p

-- SCOPE 13.9: "The rest becomes 0 whenever anything but a clock step in Playing within a track sets the position": a place that is set so, in any track or in
-- the current one
abbrev pub place_at : ℕ → ℕ → ℕ → Place
place_at group track position = place_with 0 group track position

abbrev pub at_position : ℕ → Player → Player
at_position position p = clocked_to position 0 p

-- A stored name is an array of 128 octets and a length. The octets behind the length mean nothing (SCOPE 17.17), and they stay as they are.
abbrev pub named : List ℕ → List ℕ → Name
named name old = record { octets = filled name old; len = length name }

abbrev pub name_of : Player → List ℕ
name_of p = take p.name.len p.name.octets

-- SCOPE 8.7: "Start leaves a player Inactive, in order 3, at playback speed 0, with no named next track and a rest of 0. While Inactive the state holds 0 for
-- group, track and position."
unfoldable pub started_player : List ℕ → ℕ → ℕ → Player
started_player name mask ccid =
    record {
      name = named name (replicate most_title 0);
      offer = record { mask = mask; ccid = ccid };
      mode = record { media = inactive; order = 3; speed = 0; seeking = 0 };
      place = place_at 0 0 0;
      upcoming = 0;
    }

-- SCOPE 8.8: "Set name gives the player another name."
unfoldable pub renamed : List ℕ → Player → Player
renamed name p = with_name (named name p.name.octets) p

-- The player in a media state, with the seeking speed that goes with it (SCOPE 8.5). The place stays, and with it the rest of the clock (SCOPE 13.10).
abbrev pub in_mode : ℕ → ℕ → Player → Player
in_mode media speed p =
    with_mode (record { media = media; order = p.mode.order; speed = p.mode.speed; seeking = speed }) p

-- the player is on this track of this group
abbrev pub is_on : ℕ → ℕ → Player → Bool
is_on group track p = eqb p.place.group.0 group && eqb p.place.track.0 track

-- SCOPE 14.6: "A call that ends on another track or group than it began on drops the name". What lies between does not count: a call goes to its end in one
-- step here. Otherwise the name stays (SCOPE 14.7).
abbrev pub kept_on : ℕ → ℕ → Player → ℕ
kept_on group track p = pick (is_on group track p) p.upcoming 0

-- the player at a place, with no rest (SCOPE 13.9) and with the name that stays
abbrev pub at_place : ℕ → ℕ → ℕ → Player → Player
at_place group track position p = with_upcoming (kept_on group track p) (with_place (place_at group track position) p)

-- SCOPE 8.10: "Deactivate leaves the player Inactive. Order and playback speed are kept, and a named next track is dropped."
abbrev pub deactivated : Player → Player
deactivated p = unnamed (with_place (place_at 0 0 0) (in_mode inactive 0 p))

-- SCOPE 8.4: the order and the playback speed "may be written in every state, and are kept in every state". SCOPE 9.11: a written order "never moves the track
-- or the position".
abbrev pub with_order : ℕ → Player → Player
with_order order p =
    with_mode (record { media = p.mode.media; order = order; speed = p.mode.speed; seeking = p.mode.seeking }) p

abbrev pub with_speed : ℕ → Player → Player
with_speed speed p =
    with_mode (record { media = p.mode.media; order = p.mode.order; speed = speed; seeking = p.mode.seeking }) p
