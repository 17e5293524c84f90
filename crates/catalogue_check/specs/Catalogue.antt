-- What the catalogue check says (SCOPE 4.14): that the catalogue is right, or 200 and where a title is wrong.
-- Assumes nothing.
use Rattle.std.specs.Prelude.{◌≡◌, Bool, ◌&&◌, not, List, [], ◌∷◌, ℕ, length}
use Rattle.ground.specs.Cases.{pick}
use Rattle.ground.specs.Refusals.{Said, granted, Row, row_with, said_by}
use Rattle.catalogue_tables.specs.Tables.{Tables, track_count}
use Rattle.catalogue_rules.specs.Rules.{sizes_rule, parents_rule, track_runs_rule, segment_runs_rule, durations_rule, starts_rule, titles_placed_rule, titles_text_rule, bad_title}

-- every rule of SCOPE 4.2 to 4.11: all but that titles are UTF-8
unfoldable pub plain_rule : Tables → Bool
plain_rule k =
    sizes_rule (length k.groups) (length k.tracks) (length k.segments) (length k.text)
    && parents_rule k.groups
    && track_runs_rule k.groups (track_count k.tracks)
    && segment_runs_rule k.tracks (length k.segments)
    && durations_rule k.tracks
    && starts_rule k.tracks k.segments
    && titles_placed_rule k.tracks (length k.text)

-- every rule, SCOPE 4.2 to 4.12
unfoldable pub catalogue_rule : Tables → Bool
catalogue_rule k = plain_rule k && titles_text_rule k.tracks k.text

-- SCOPE 4.14: "Where 4.12 alone is broken, 200 carries the lowest track whose title is not UTF-8, and the offset in that title (2.6). Every other 200 carries
-- nothing and comes before."
unfoldable pub catalogue_carries : Tables → List ℕ
catalogue_carries k = pick (plain_rule k) (bad_title k.tracks k.text) []

-- SCOPE 4.14: "A catalogue that breaks one of 4.2, 4.4 to 4.8 and 4.10 to 4.12 is refused with 200."
abbrev pub catalogue_row : Tables → Row
catalogue_row k = row_with 200 (catalogue_carries k) (not (catalogue_rule k))

-- what the check says
unfoldable pub check_said : Tables → Said
check_said k = said_by (catalogue_row k ∷ [])

-- The check passes. Every layer above relies on this and on no single rule. A catalogue without groups, tracks and segments passes too (SCOPE 4.15).
abbrev pub Right : Tables → Type 0
Right k = check_said k ≡ granted []
