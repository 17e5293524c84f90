-- What objects are made of (SCOPE 7.2 to 7.4): the entries of a Group object (the standard, 4.4), here called members, and those of a Track Segments object
-- (the standard, 4.2), here called labels; and their octets. Numbers are little endian (SCOPE 2.1).
-- Assumes nothing.
use Rattle.std.specs.Prelude.{Bool, ◌&&◌, not, List, [], ◌∷◌, ◌++◌, map, ℕ, eqb, length}
use Rattle.ground.specs.Lists.{span, those}
use Rattle.ground.specs.Words.{six_octets, octets_of_word}
use Rattle.catalogue_tables.specs.Tables.{group_count, parent_of, first_track_of, tracks_in, starts_of}
use Rattle.catalogue_tables.specs.Objects.{track_object, group_object}

-- SCOPE 7.2: "a type, 1 for a group and 0 for a track, and the number of that object" (the standard, Table 4.3)
pub record Member : Type 0 where
  pub kind : ℕ
  pub object : ℕ

abbrev pub a_track : ℕ
a_track = 0

abbrev pub a_group : ℕ
a_group = 1

-- the entry of a track, and of a group
abbrev pub track_member : ℕ → Member
track_member t = record { kind = a_track; object = track_object t }

abbrev pub group_member : ℕ → Member
group_member g = record { kind = a_group; object = group_object g }

-- SCOPE 7.3: "A child group of a group is one that has it as its parent; group 0 is not its own child."
abbrev pub is_child : List ℕ → ℕ → ℕ → Bool
is_child groups g h = not (eqb h 0) && eqb (parent_of groups h) g

-- SCOPE 7.3: "each of its child groups, by number". "Child groups without tracks are listed too."
unfoldable pub children_of : List ℕ → ℕ → List ℕ
children_of groups g = those (is_child groups g) (span 0 (group_count groups))

-- SCOPE 7.3: "each of its tracks, by number"
unfoldable pub tracks_of : List ℕ → ℕ → List ℕ
tracks_of groups g = span (first_track_of groups g) (tracks_in groups g)

-- SCOPE 7.3: an entry for each child group "and then one for each of its tracks"
unfoldable pub members_of : List ℕ → ℕ → List Member
members_of groups g = map group_member (children_of groups g) ++ map track_member (tracks_of groups g)

-- an entry of a Track Segments object: a name, and the start of a segment
pub record Label : Type 0 where
  pub name : List ℕ
  pub position : ℕ

-- SCOPE 7.4: "Its entries are the track's segments in order: the length of a name, which is 0, no name, and the start in four octets."
abbrev pub nameless : ℕ → Label
nameless start = record { name = []; position = start }

unfoldable pub labels_of : List ℕ → List ℕ → ℕ → List Label
labels_of tracks segments t = map nameless (starts_of tracks segments t)

-- the octets of one entry (SCOPE 7.2, 7.4; the standard, Tables 4.2 and 4.1), and of all entries, one behind the other
unfoldable pub member_octets : Member → List ℕ
member_octets m = m.kind ∷ six_octets m.object

unfoldable pub label_octets : Label → List ℕ
label_octets l = length l.name ∷ (l.name ++ octets_of_word l.position)

unfoldable pub all_octets : {A : Type 0} → (A → List ℕ) → List A → List ℕ
all_octets octets [] = []
all_octets octets (x ∷ s) = octets x ++ all_octets octets s
