-- The limits of a catalogue (SCOPE 4.2, 4.3, 4.8, 4.11), the size of an entry of the office's titles (SCOPE 5.1), and the least output (SCOPE 17.16).
-- Assumes nothing.
use Rattle.std.specs.Prelude.{ℕ}

-- SCOPE 4.2: "There are at most 64 groups, 256 tracks, 1,024 segments and 32,768 octets of text."
abbrev pub most_groups : ℕ
most_groups = 64

abbrev pub most_tracks : ℕ
most_tracks = 256

abbrev pub most_segments : ℕ
most_segments = 1024

abbrev pub most_text : ℕ
most_text = 32768

-- how many words a record of a group and of a track has; a record of a segment has one (SCOPE 4.3)
abbrev pub group_words : ℕ
group_words = 3

abbrev pub track_words : ℕ
track_words = 6

-- how many words an entry of the office's titles has: "an offset and a length in that text" (SCOPE 5.1)
abbrev pub rename_words : ℕ
rename_words = 2

-- SCOPE 4.8: "A duration is 0 to 8,640,000, which is a day". It is in hundredths of a second (SCOPE 2.4).
abbrev pub most_duration : ℕ
most_duration = 8640000

-- a title has "at most 128 octets" (SCOPE 4.11), and so has a player's name (SCOPE 8.3)
abbrev pub most_title : ℕ
most_title = 128

-- SCOPE 17.16: "The lent output of a read or a take has at least 128 octets."
abbrev pub least_output : ℕ
least_output = 128
