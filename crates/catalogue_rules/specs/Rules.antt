-- The rules of a catalogue (SCOPE 4.2 to 4.12), a function for each; and which title is not UTF-8, and where (SCOPE 4.14). Sums here are of natural numbers,
-- and so cannot wrap (SCOPE 2.2).
-- Assumes nothing.
use Rattle.std.specs.Prelude.{Bool, ◌&&◌, ◌||◌, List, [], ◌∷◌, ℕ, zero, suc, ◌+◌, ◌-◌, ◌/◌, ◌%◌, ◌<◌, ◌≤◌, eqb, ltb, leb, length, get_or, Result, Ok, Err}
use Rattle.ground.specs.Cases.{pick}
use Rattle.ground.specs.Limits.{most_groups, most_tracks, most_segments, most_text, group_words, track_words, most_duration, most_title}
use Rattle.ground.specs.Lists.{all_below, sum_below}
use Rattle.text.specs.Utf8.{text_of, text_said, is_fine}
use Rattle.catalogue_tables.specs.Tables.{group_count, track_count, parent_of, first_track_of, tracks_in, duration_of, is_running, end_of, first_segment_of, segments_in, title_offset_of, title_length_of, starts_of, title_of}
use Rattle.catalogue_rules.specs.declared.BadTitle.{BadTitle}

-- SCOPE 4.4: "No table ends inside a record", and the limits of SCOPE 4.2; of tables of these lengths
unfoldable pub sizes_rule : ℕ → ℕ → ℕ → ℕ → Bool
sizes_rule groups tracks segments text =
    eqb (groups % group_words) 0
    && eqb (tracks % track_words) 0
    && leb (groups / group_words) most_groups
    && leb (tracks / track_words) most_tracks
    && leb segments most_segments
    && leb text most_text

-- SCOPE 4.5: "Group 0, if there is any group, is its own parent. Every other group's parent has a smaller number than the group itself."
abbrev pub parent_right : ℕ → ℕ → Bool
parent_right group parent = pick (eqb group 0) (eqb parent 0) (ltb parent group)

unfoldable pub parents_rule : List ℕ → Bool
parents_rule groups = all_below (group_count groups) (λ g. parent_right g (parent_of groups g))

-- n runs "follow each other from 0" and use up all, of which there are `total` (SCOPE 4.6, 4.7). Each run starts where those before it end, an empty one too.
unfoldable pub follow : ℕ → (ℕ → ℕ) → (ℕ → ℕ) → ℕ → Bool
follow n first count total = all_below n (λ i. eqb (first i) (sum_below i count)) && eqb (sum_below n count) total

-- SCOPE 4.6: "The runs of the groups follow each other from 0 in group order, and use up all tracks."
unfoldable pub track_runs_rule : List ℕ → ℕ → Bool
track_runs_rule groups tracks = follow (group_count groups) (first_track_of groups) (tracks_in groups) tracks

-- SCOPE 4.7: "The runs of the tracks follow each other from 0 in track order, and use up all segments."
unfoldable pub segment_runs_rule : List ℕ → ℕ → Bool
segment_runs_rule tracks segments = follow (track_count tracks) (first_segment_of tracks) (segments_in tracks) segments

-- SCOPE 4.8: "A duration is 0 to 8,640,000", or it is not yet known
unfoldable pub durations_rule : List ℕ → Bool
durations_rule tracks = all_below (track_count tracks) (λ t. leb (duration_of tracks t) most_duration || is_running tracks t)

-- SCOPE 4.10: "The starts of a track's segments begin at 0, rise strictly, and lie below D."
unfoldable pub begin_rule : List ℕ → Bool
begin_rule starts = eqb (get_or starts 0 0) 0

unfoldable pub rise_rule : List ℕ → Bool
rise_rule starts = all_below (length starts - 1) (λ i. ltb (get_or starts i 0) (get_or starts (i + 1) 0))

unfoldable pub below_rule : List ℕ → ℕ → Bool
below_rule starts end = all_below (length starts) (λ i. ltb (get_or starts i 0) end)

abbrev pub starts_right : List ℕ → ℕ → Bool
starts_right starts end = begin_rule starts && rise_rule starts && below_rule starts end

unfoldable pub starts_rule : List ℕ → List ℕ → Bool
starts_rule tracks segments =
    all_below (track_count tracks) (λ t. starts_right (starts_of tracks segments t) (end_of tracks t))

-- SCOPE 4.11: "A title lies in the text, an empty one too, and has at most 128 octets."
abbrev pub title_placed : ℕ → ℕ → ℕ → Bool
title_placed offset len text = leb (offset + len) text && leb len most_title

unfoldable pub titles_placed_rule : List ℕ → ℕ → Bool
titles_placed_rule tracks text =
    all_below (track_count tracks) (λ t. title_placed (title_offset_of tracks t) (title_length_of tracks t) text)

-- SCOPE 4.12: "A title is UTF-8."
unfoldable pub titles_text_rule : List ℕ → List ℕ → Bool
titles_text_rule tracks text = all_below (track_count tracks) (λ t. is_fine (text_of (title_of tracks text t)))

-- SCOPE 4.14: 200 "carries the lowest track whose title is not UTF-8, and the offset in that title". Looked for in n tracks, from the track t on.
unfoldable pub bad_title_from : List ℕ → List ℕ → ℕ → ℕ → List ℕ
bad_title_from tracks text zero t = []
bad_title_from tracks text (suc n) t =
    pick (text_said (title_of tracks text t)).is_granted (bad_title_from tracks text n (suc t)) (t ∷ (text_said (title_of tracks text t)).values)

abbrev pub bad_title : List ℕ → List ℕ → List ℕ
bad_title tracks text = bad_title_from tracks text (track_count tracks) 0

-- the values of each answer about the titles
abbrev pub titles_of : Result Unit BadTitle → List ℕ
titles_of (Ok u) = []
titles_of (Err title) = title.track ∷ title.offset ∷ []

-- each run of segments, and each title, lies within its table
abbrev pub RunsInside : List ℕ → ℕ → Type 0
RunsInside tracks segments = (t : ℕ) → t < track_count tracks → first_segment_of tracks t + segments_in tracks t ≤ segments

abbrev pub TitlesInside : List ℕ → ℕ → Type 0
TitlesInside tracks text = (t : ℕ) → t < track_count tracks → title_offset_of tracks t + title_length_of tracks t ≤ text
