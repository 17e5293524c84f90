-- The control point (SCOPE 9): "The first that applies is given, in the order 2, 3, 4, 1. After 2, 3 and 4 the player is as before." (SCOPE 9.4)
-- Assumes nothing.
use Rattle.std.specs.Prelude.{Bool, true, false, not, List, ℕ, eqb, Option, Some, None}
use Rattle.ground.specs.Cases.{pick}
use Rattle.player_walk.specs.Signed.{signed_word}
use Rattle.player_walk.specs.declared.Step.{Step}
use Rattle.player_walk.specs.declared.Step.TheVariants.{Previous, Next, First, Last, Goto}
use Rattle.player_opcodes.specs.Opcodes.{offered, action_of}
use Rattle.player_opcodes.specs.declared.Action.{Action}
use Rattle.player_opcodes.specs.declared.Action.TheVariants.{Play, Pause, Rewind, Forward, Stop, Relative, Segment, Track, Group, Unknown}
use Rattle.player_state.specs.declared.Player.{Player}
use Rattle.player_state.specs.Player.{paused, is_active, in_mode, with_upcoming, at_position}
use Rattle.player_state.specs.Modes.{played, paused_at, forwarded, rewound, moved_to}
use Rattle.player_state.specs.Positions.{held_sum}
use Rattle.player_moves.specs.Moves.{end_now, segment_after, track_after, next_track, group_after, entry_of}
use Rattle.player_moves.specs.declared.Controlled.{Controlled}

-- SCOPE 9.4: "1 success; 2 the opcode is unknown or not in the mask; 3 the player is Inactive; 4 the command cannot be completed"
abbrev pub success : Player → Controlled
success p = record { result = 1; player = p }

abbrev pub failed : ℕ → Player → Controlled
failed result p = record { result = result; player = p }

-- on from what was found; where nothing was, result 4 (SCOPE 10.6)
abbrev pub onward : Option ℕ → (ℕ → Controlled) → Player → Controlled
onward (Some x) f p = f x
onward None f p = failed 4 p

-- SCOPE 12.3: "A group move goes to the group's first track (11.4) at position 0"
abbrev pub entered : List ℕ → List ℕ → Player → ℕ → Controlled
entered groups tracks p g = onward (entry_of groups tracks p.mode.order g) (λ t. success (moved_to g t p)) p

-- Where a track move leads. SCOPE 11.8: "A next track that was named (14.4) is used by Next Track, and by no other track move." The others go
-- by the order alone.
abbrev pub track_reached : List ℕ → List ℕ → Step → Player → Option ℕ
track_reached groups tracks Next p = next_track groups tracks p
track_reached groups tracks Previous p = track_after groups tracks Previous p
track_reached groups tracks First p = track_after groups tracks First p
track_reached groups tracks Last p = track_after groups tracks Last p
track_reached groups tracks (Goto n) p = track_after groups tracks (Goto n) p

-- SCOPE 14.5: at Next Track the name "is then used up"; the other moves leave it as it is
abbrev pub is_next : Step → Bool
is_next Next = true
is_next Previous = false
is_next First = false
is_next Last = false
is_next (Goto n) = false

abbrev pub left_named : Step → ℕ → ℕ
left_named step upcoming = pick (is_next step) 0 upcoming

abbrev pub used : Step → Player → Player
used step p = with_upcoming (left_named step p.upcoming) p

-- a track move (SCOPE 11.5 to 11.8)
unfoldable pub track_moved : List ℕ → List ℕ → Step → Player → Controlled
track_moved groups tracks step p =
    onward (track_reached groups tracks step p) (λ t. success (moved_to p.place.group.0 t (used step p))) p

-- SCOPE 10.7: "Goto Segment 0 moves nothing and sets no position, so that the rest of the clock stays."
abbrev pub moves_nothing : Step → Bool
moves_nothing Previous = false
moves_nothing Next = false
moves_nothing First = false
moves_nothing Last = false
moves_nothing (Goto n) = eqb n 0

-- a segment move (SCOPE 10). SCOPE 10.9: "Segment moves keep the state."
abbrev pub segment_moved : List ℕ → List ℕ → Step → Player → Controlled
segment_moved tracks segments step p =
    pick (moves_nothing step) (success p) (onward (segment_after tracks segments step p) (λ x. success (at_position x p)) p)

-- the action is Next Track
abbrev pub is_next_track : Action → Bool
is_next_track Play = false
is_next_track Pause = false
is_next_track Rewind = false
is_next_track Forward = false
is_next_track Stop = false
is_next_track (Relative n) = false
is_next_track (Segment step) = false
is_next_track (Track step) = is_next step
is_next_track (Group step) = false
is_next_track Unknown = false

-- what each action does to a player that is not Inactive (SCOPE 9.5 to 9.7, 9.10, 10, 11, 12)
unfoldable pub acted : List ℕ → List ℕ → List ℕ → Action → Player → Controlled
acted groups tracks segments Play p = success (played p)
acted groups tracks segments Pause p = success (in_mode paused 0 p)
acted groups tracks segments Rewind p = success (rewound p)
acted groups tracks segments Forward p = success (forwarded p)
acted groups tracks segments Stop p = success (paused_at 0 p)
acted groups tracks segments (Relative n) p =
    success (at_position (held_sum (end_now tracks p) p.place.position.0 (signed_word n)) p)
acted groups tracks segments (Segment step) p = segment_moved tracks segments step p
acted groups tracks segments (Track step) p = track_moved groups tracks step p
acted groups tracks segments (Group step) p = onward (group_after groups step p) (entered groups tracks p) p
acted groups tracks segments Unknown p = failed 2 p

-- a write to the control point, with the results in their order (SCOPE 9.4)
unfoldable pub controlled : List ℕ → List ℕ → List ℕ → ℕ → ℕ → Player → Controlled
controlled groups tracks segments opcode number p =
    pick (not (offered p.offer.mask opcode)) (failed 2 p)
    (pick (not (is_active p)) (failed 3 p)
    (acted groups tracks segments (action_of opcode number) p))
