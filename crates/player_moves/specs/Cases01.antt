-- The sample catalogue (SCOPE 22.1) and the cases that are worked out by hand (SCOPE 22.2), as one list with what each case comes to.
-- Assumes nothing.
use Rattle.std.specs.Prelude.{◌≡◌, List, [], ◌∷◌, ℕ, ◌-◌}
use Rattle.player_state.specs.declared.Player.{Player}
use Rattle.player_state.specs.Player.{at_position, with_order, started_player}
use Rattle.player_state.specs.Modes.{activated_at}
use Rattle.player_moves.specs.Control.{controlled}
use Rattle.player_moves.specs.Clock.{positioned}
use Rattle.player_moves.specs.declared.Controlled.{Controlled}

-- SCOPE 22.1: "groups 0 (no tracks), 1 (tracks 0 to 2), 2 (no tracks) and 3 (track 3), all with parent 0"
abbrev pub sample_groups : List ℕ
sample_groups = 0 ∷ 0 ∷ 0 ∷ 0 ∷ 0 ∷ 3 ∷ 0 ∷ 3 ∷ 0 ∷ 0 ∷ 3 ∷ 1 ∷ []

-- the tracks of SCOPE 22.1, a line each: duration, age stamp, first segment, segment count, and an empty title
abbrev pub sample_tracks : List ℕ
sample_tracks =
    6000 ∷ 30 ∷ 0 ∷ 3 ∷ 0 ∷ 0
    ∷ 300 ∷ 10 ∷ 3 ∷ 0 ∷ 0 ∷ 0
    ∷ 0 ∷ 10 ∷ 3 ∷ 0 ∷ 0 ∷ 0
    ∷ 900 ∷ 5 ∷ 3 ∷ 0 ∷ 0 ∷ 0
    ∷ []

-- the segment starts of track 0 (SCOPE 22.1)
abbrev pub sample_segments : List ℕ
sample_segments = 0 ∷ 1500 ∷ 4000 ∷ []

-- the word of the number −n
abbrev pub minus : ℕ → ℕ
minus n = 0x1_0000_0000 - n

-- the opcodes of the cases
abbrev pub move_relative : ℕ
move_relative = 0x10

abbrev pub previous_segment : ℕ
previous_segment = 0x20

abbrev pub next_segment : ℕ
next_segment = 0x21

abbrev pub goto_segment : ℕ
goto_segment = 0x24

abbrev pub next_track : ℕ
next_track = 0x31

abbrev pub goto_track : ℕ
goto_track = 0x34

abbrev pub next_group : ℕ
next_group = 0x41

abbrev pub goto_group : ℕ
goto_group = 0x44

-- a mask that offers every opcode: bits 0 to 20 (SCOPE 9.1)
abbrev pub every_opcode : ℕ
every_opcode = 0x1F_FFFF

-- a player of the sample in group 1: in an order, at a track and a position
abbrev pub in_group1 : ℕ → ℕ → ℕ → Player
in_group1 order track position = at_position position (activated_at 1 track (with_order order (started_player [] every_opcode 0)))

-- the same in track 0, in order 3
abbrev pub in_track0 : ℕ → Player
in_track0 position = in_group1 3 0 position

-- what a call came to: its result, and the group, the track and the position afterwards
pub record Came : Type 0 where
  pub result : ℕ
  pub group : ℕ
  pub track : ℕ
  pub position : ℕ

abbrev pub came : ℕ → ℕ → ℕ → ℕ → Came
came result group track position = record { result = result; group = group; track = track; position = position }

-- a result, with where a player is
abbrev pub placed : ℕ → Player → Came
placed result p = came result p.place.group.0 p.place.track.0 p.place.position.0

abbrev pub outcome : Controlled → Came
outcome c = placed c.result c.player

-- a write to the control point: an opcode, and its number or 0
abbrev pub control : ℕ → ℕ → Player → Came
control opcode number p = outcome (controlled sample_groups sample_tracks sample_segments opcode number p)

-- a position write, which has no result: 0 stands there
abbrev pub write : ℕ → Player → Came
write number p = placed 0 (positioned sample_tracks number p)

-- a case: what was got, and what is wanted
pub record Case : Type 0 where
  pub got : Came
  pub want : Came

abbrev pub case : Came → Came → Case
case got want = record { got = got; want = want }

-- the cases of SCOPE 22.2, in the order of its table
abbrev pub cases : List Case
cases =
    -- track 0 at 1500, Previous Segment: 0
    case (control previous_segment 0 (in_track0 1500)) (came 1 1 0 0)
    -- track 0 at 1501, Previous Segment: 0
    ∷ case (control previous_segment 0 (in_track0 1501)) (came 1 1 0 0)
    -- track 0 at 1799, 1800 and 4299, Previous Segment: 0, 1500 and 1500
    ∷ case (control previous_segment 0 (in_track0 1799)) (came 1 1 0 0)
    ∷ case (control previous_segment 0 (in_track0 1800)) (came 1 1 0 1500)
    ∷ case (control previous_segment 0 (in_track0 4299)) (came 1 1 0 1500)
    -- track 0 at 4000, Next Segment: 6000
    ∷ case (control next_segment 0 (in_track0 4000)) (came 1 1 0 6000)
    -- track 0, Goto Segment 3: 4000
    ∷ case (control goto_segment 3 (in_track0 1500)) (came 1 1 0 4000)
    -- track 0, Goto Segment 4: 6000
    ∷ case (control goto_segment 4 (in_track0 1500)) (came 1 1 0 6000)
    -- track 0, Goto Segment −2: 1500
    ∷ case (control goto_segment (minus 2) (in_track0 4000)) (came 1 1 0 1500)
    -- track 0, Goto Segment −2147483648: 0
    ∷ case (control goto_segment (minus 2147483648) (in_track0 1500)) (came 1 1 0 0)
    -- track 0 at 1500, Move Relative 2147483647: 6000
    ∷ case (control move_relative 2147483647 (in_track0 1500)) (came 1 1 0 6000)
    -- track 0, position write −4000: 2000
    ∷ case (write (minus 4000) (in_track0 1500)) (came 0 1 0 2000)
    -- track 0, position write −1: 5999
    ∷ case (write (minus 1) (in_track0 1500)) (came 0 1 0 5999)
    -- group 1, track 2, order 3, Next Track: result 4
    ∷ case (control next_track 0 (in_group1 3 2 0)) (came 4 1 2 0)
    -- group 1, track 2, order 4, Next Track: track 0
    ∷ case (control next_track 0 (in_group1 4 2 0)) (came 1 1 0 0)
    -- group 1, track 2, order 5, Next Track: track 0
    ∷ case (control next_track 0 (in_group1 5 2 0)) (came 1 1 0 0)
    -- group 1, order 4, Goto Track −2147483648: track 1
    ∷ case (control goto_track (minus 2147483648) (in_group1 4 0 1500)) (came 1 1 1 0)
    -- group 1, Next Group: group 3, track 3
    ∷ case (control next_group 0 (in_group1 3 0 1500)) (came 1 3 3 0)
    -- group 1, Goto Group 3: result 4
    ∷ case (control goto_group 3 (in_group1 3 0 1500)) (came 4 1 0 1500)
    ∷ []

-- each case comes to what is wanted
abbrev pub AllHold : List Case → Type 0
AllHold [] = Unit
AllHold (c ∷ l) = (c.got ≡ c.want) × AllHold l
