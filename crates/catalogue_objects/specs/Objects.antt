-- The objects of a catalogue as they are written, and what the calls that write them say (SCOPE 7.5).
-- Assumes nothing.
use Rattle.std.specs.Prelude.{Bool, ◌&&◌, not, List, [], ◌∷◌, ℕ, ltb, length}
use Rattle.ground.specs.Refusals.{Said, granted, Row, row, said_through}
use Rattle.catalogue_tables.specs.Tables.{Tables, group_count, track_count, segments_in}
use Rattle.catalogue_check.specs.Catalogue.{catalogue_row}
use Rattle.catalogue_objects.specs.Entries.{members_of, member_octets, labels_of, label_octets, all_octets}

-- the octets of a group's Group object (SCOPE 7.3), and of a track's Track Segments object (SCOPE 7.4)
unfoldable pub group_octets : List ℕ → ℕ → List ℕ
group_octets groups g = all_octets member_octets (members_of groups g)

unfoldable pub segments_octets : List ℕ → List ℕ → ℕ → List ℕ
segments_octets tracks segments t = all_octets label_octets (labels_of tracks segments t)

-- SCOPE 7.5: 0x13 "where the group or the track is absent, or the track has no segments"
abbrev pub has_group : Tables → ℕ → Bool
has_group k g = ltb g (group_count k.groups)

abbrev pub has_segments : Tables → ℕ → Bool
has_segments k t = ltb t (track_count k.tracks) && ltb 0 (segments_in k.tracks t)

-- SCOPE 7.5: "then with 223 where the object has more octets than there is room for"
abbrev pub write_rows : Bool → List ℕ → ℕ → List Row
write_rows there octets room = row 0x13 (not there) ∷ row 223 (ltb room (length octets)) ∷ []

-- SCOPE 7.5: 200, then 0x13, then 223. "The answer is how many octets were written".
unfoldable pub write_said : Tables → Bool → List ℕ → ℕ → Said
write_said k there octets room = said_through (catalogue_row k ∷ write_rows there octets room) (granted (length octets ∷ []))
