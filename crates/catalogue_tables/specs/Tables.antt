-- The four lent tables, and what their records hold (SCOPE 4.1, 4.3, 4.8, 4.9, 4.13). A word behind the end of a table counts as 0.
-- Assumes nothing.
use Rattle.std.specs.Prelude.{Bool, List, ℕ, ◌+◌, ◌*◌, ◌/◌, eqb, length, get_or, take, drop}
use Rattle.ground.specs.Cases.{pick}
use Rattle.ground.specs.Limits.{group_words, track_words, most_duration}

-- SCOPE 4.1: "groups, tracks and segments are words, and the text is octets". Groups, tracks and segments are counted apart, each from 0 (SCOPE 2.3).
pub record Tables : Type 0 where
  pub groups : List ℕ
  pub tracks : List ℕ
  pub segments : List ℕ
  pub text : List ℕ

abbrev pub tables : List ℕ → List ℕ → List ℕ → List ℕ → Tables
tables groups tracks segments text = record { groups = groups; tracks = tracks; segments = segments; text = text }

-- a word of record i: the one in `column`, in a table whose records have `width` words
abbrev pub word_in : ℕ → List ℕ → ℕ → ℕ → ℕ
word_in width table i column = get_or table (i * width + column) 0

-- SCOPE 4.3: the words are, "of a group its parent, its first track, its track count"
abbrev pub group_count : List ℕ → ℕ
group_count groups = length groups / group_words

abbrev pub parent_of : List ℕ → ℕ → ℕ
parent_of groups g = word_in group_words groups g 0

abbrev pub first_track_of : List ℕ → ℕ → ℕ
first_track_of groups g = word_in group_words groups g 1

abbrev pub tracks_in : List ℕ → ℕ → ℕ
tracks_in groups g = word_in group_words groups g 2

-- SCOPE 4.3: "of a track its duration, age stamp, first segment, segment count, title offset, title length"
abbrev pub track_count : List ℕ → ℕ
track_count tracks = length tracks / track_words

abbrev pub duration_of : List ℕ → ℕ → ℕ
duration_of tracks t = word_in track_words tracks t 0

-- SCOPE 4.8: "the word 0xFFFFFFFF, which says that it is not yet known, since the recording is still running"
abbrev pub not_yet_known : ℕ
not_yet_known = 0xFFFF_FFFF

abbrev pub is_unknown : ℕ → Bool
is_unknown duration = eqb duration not_yet_known

abbrev pub is_running : List ℕ → ℕ → Bool
is_running tracks t = is_unknown (duration_of tracks t)

-- SCOPE 4.9: "D is where a track ends: its duration, or 8,640,000 while the recording is still running."
abbrev pub end_by : ℕ → ℕ
end_by duration = pick (is_unknown duration) most_duration duration

unfoldable pub end_of : List ℕ → ℕ → ℕ
end_of tracks t = end_by (duration_of tracks t)

-- SCOPE 4.13: "Age stamps are numbers from 0 up; a larger one is newer."
abbrev pub stamp_of : List ℕ → ℕ → ℕ
stamp_of tracks t = word_in track_words tracks t 1

-- the other words of a track
abbrev pub first_segment_of : List ℕ → ℕ → ℕ
first_segment_of tracks t = word_in track_words tracks t 2

abbrev pub segments_in : List ℕ → ℕ → ℕ
segments_in tracks t = word_in track_words tracks t 3

abbrev pub title_offset_of : List ℕ → ℕ → ℕ
title_offset_of tracks t = word_in track_words tracks t 4

abbrev pub title_length_of : List ℕ → ℕ → ℕ
title_length_of tracks t = word_in track_words tracks t 5

-- the starts of a track's segments, in order (SCOPE 4.3, 4.7)
unfoldable pub starts_of : List ℕ → List ℕ → ℕ → List ℕ
starts_of tracks segments t = take (segments_in tracks t) (drop (first_segment_of tracks t) segments)

-- the octets of the title that a track has on the card (SCOPE 4.11)
unfoldable pub title_of : List ℕ → List ℕ → ℕ → List ℕ
title_of tracks text t = take (title_length_of tracks t) (drop (title_offset_of tracks t) text)
