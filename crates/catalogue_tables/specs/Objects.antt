-- The numbers of objects. SCOPE 7.1: "Track t is object 0x1000 + t, group g is object 0x2000 + g, and the segments of track t are object 0x3000 + t."
-- Assumes nothing.
use Rattle.std.specs.Prelude.{ℕ, ◌+◌}

-- where the numbers of each kind of object begin
abbrev pub track_objects : ℕ
track_objects = 0x1000

abbrev pub group_objects : ℕ
group_objects = 0x2000

abbrev pub segments_objects : ℕ
segments_objects = 0x3000

-- the object of a track, of a group, and of a track's segments
abbrev pub track_object : ℕ → ℕ
track_object t = track_objects + t

abbrev pub group_object : ℕ → ℕ
group_object g = group_objects + g

abbrev pub segments_object : ℕ → ℕ
segments_object t = segments_objects + t
