-- The values of the player's characteristics (SCOPE 16). SCOPE 16.1: "Each has as its number the last part of its section number in the standard."
-- Assumes nothing.
use Rattle.std.specs.Prelude.{List, [], ◌∷◌, ℕ, ◌/◌, ◌%◌, ◌^◌, eqb, Option, Some, None}
use Rattle.ground.specs.Cases.{pick}
use Rattle.ground.specs.Words.{six_octets}
use Rattle.catalogue_tables.specs.Tables.{parent_of, duration_of, is_running, segments_in}
use Rattle.catalogue_tables.specs.Objects.{track_object, group_object, segments_object}
use Rattle.catalogue_titles.specs.declared.Part.{Part}
use Rattle.catalogue_titles.specs.Titles.{part_of, front, octets_at}
use Rattle.catalogue_titles.specs.Lent.{Lent}
use Rattle.player_state.specs.declared.Player.{Player}
use Rattle.player_state.specs.Player.{is_active, name_of}
use Rattle.player_moves.specs.Moves.{next_track}

-- what the values are taken from besides the player: the groups and the tracks of a catalogue, the text of its titles, and the office's titles
pub record Source : Type 0 where
  pub groups : List ℕ
  pub tracks : List ℕ
  pub text : List ℕ
  pub renames : List ℕ
  pub office : List ℕ

abbrev pub source : List ℕ → List ℕ → List ℕ → List ℕ → List ℕ → Source
source groups tracks text renames office = record { groups = groups; tracks = tracks; text = text; renames = renames; office = office }

abbrev pub source_of : Lent → Source
source_of k = source k.groups k.tracks k.text k.renames k.office

-- a word as four octets. SCOPE 2.1: "Numbers are little endian".
unfoldable pub word_octets : ℕ → List ℕ
word_octets w = w % 256 ∷ w / 256 % 256 ∷ w / 65536 % 256 ∷ w / 16777216 % 256 ∷ []

-- where the title stands (SCOPE 5.5). SCOPE 5.7: "While the player is Inactive", it is "the empty front of the card's text".
unfoldable pub title_part : List ℕ → List ℕ → Player → Part
title_part tracks renames p = pick (is_active p) (part_of tracks renames p.place.track.0) front

-- SCOPE 16.3: "5 is the title of the current track (5.5), and empty while Inactive."
unfoldable pub title_value : List ℕ → List ℕ → List ℕ → List ℕ → Player → List ℕ
title_value tracks text renames office p = octets_at (title_part tracks renames p) text office

-- SCOPE 16.4: "6 is the duration, and 7 the position. Both are −1 while Inactive"
abbrev pub minus_one : ℕ
minus_one = 0xFFFF_FFFF

abbrev pub or_minus_one : Player → ℕ → ℕ
or_minus_one p x = pick (is_active p) x minus_one

-- SCOPE 16.4: "6 is −1 while the recording is still running"
abbrev pub duration_read : List ℕ → ℕ → ℕ
duration_read tracks t = pick (is_running tracks t) minus_one (duration_of tracks t)

unfoldable pub duration_value : List ℕ → Player → List ℕ
duration_value tracks p = word_octets (or_minus_one p (duration_read tracks p.place.track.0))

unfoldable pub position_value : Player → List ℕ
position_value p = word_octets (or_minus_one p p.place.position.0)

-- The object numbers of 10 to 14, in this order; 0 where there is none. SCOPE 16.5: "All of 10 to 14 are none while Inactive."
abbrev pub or_none : Player → ℕ → ℕ
or_none p object = pick (is_active p) object 0

-- SCOPE 16.5: "10 is the number of the current track's segments object, and none where the track has no segments."
unfoldable pub segments_now : List ℕ → Player → ℕ
segments_now tracks p =
    or_none p (pick (eqb (segments_in tracks p.place.track.0) 0) 0 (segments_object p.place.track.0))

-- SCOPE 16.5: "11 is the current track's."
unfoldable pub track_now : Player → ℕ
track_now p = or_none p (track_object p.place.track.0)

-- SCOPE 16.6: "12 is the object number of the named next track, or else of the track that Next Track reaches in the order. It is none where there is none."
abbrev pub track_found : Option ℕ → ℕ
track_found (Some t) = track_object t
track_found None = 0

unfoldable pub next_now : List ℕ → List ℕ → Player → ℕ
next_now groups tracks p = or_none p (track_found (next_track groups tracks p))

-- SCOPE 16.5: "13 is that of the current group's parent, in group 0 that of group 0 itself."
unfoldable pub parent_now : List ℕ → Player → ℕ
parent_now groups p = or_none p (group_object (parent_of groups p.place.group.0))

-- SCOPE 16.5: "14 is the current group's."
unfoldable pub group_now : Player → ℕ
group_now p = or_none p (group_object p.place.group.0)

-- SCOPE 16.1: an object number has "6 octets or none"
unfoldable pub object_octets : ℕ → List ℕ
object_octets object = pick (eqb object 0) [] (six_octets object)

-- SCOPE 16.7: "19 is the mask with the bits from 21 up as 0."
unfoldable pub opcodes_value : Player → List ℕ
opcodes_value p = word_octets (p.offer.mask % 2 ^ 21)

-- The value of each characteristic (SCOPE 16.1, 16.3 to 16.7). SCOPE 16.7: "16 is 0x00FF." The value of 4 is empty, and so is that of 18, which has results,
-- and of every number that is no characteristic.
unfoldable pub value_of : Source → Player → ℕ → List ℕ
value_of from p c =
    pick (eqb c 1) (name_of p)
    (pick (eqb c 5) (title_value from.tracks from.text from.renames from.office p)
    (pick (eqb c 6) (duration_value from.tracks p)
    (pick (eqb c 7) (position_value p)
    (pick (eqb c 8) (p.mode.speed ∷ [])
    (pick (eqb c 9) (p.mode.seeking ∷ [])
    (pick (eqb c 10) (object_octets (segments_now from.tracks p))
    (pick (eqb c 11) (object_octets (track_now p))
    (pick (eqb c 12) (object_octets (next_now from.groups from.tracks p))
    (pick (eqb c 13) (object_octets (parent_now from.groups p))
    (pick (eqb c 14) (object_octets (group_now p))
    (pick (eqb c 15) (p.mode.order ∷ [])
    (pick (eqb c 16) (0xFF ∷ 0x00 ∷ [])
    (pick (eqb c 17) (p.mode.media ∷ [])
    (pick (eqb c 19) (opcodes_value p)
    (pick (eqb c 22) (p.offer.ccid ∷ [])
    [])))))))))))))))
