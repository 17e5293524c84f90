-- Playing, pausing, stopping and seeking (SCOPE 9.5, 9.6, 8.5); and arriving at a track or in a group (SCOPE 11.7, 12.3, 14.2, 8.9).
-- Assumes nothing.
use Rattle.std.specs.Prelude.{List, [], ◌∷◌, reverse, ℕ, eqb, unwrap_or}
use Rattle.ground.specs.Cases.{pick}
use Rattle.player_walk.specs.Steps.{next_of}
use Rattle.player_state.specs.declared.Player.{Player}
use Rattle.player_state.specs.Player.{playing, paused, seeking, in_mode, at_place, at_position}

-- SCOPE 9.5: "Play gives Playing, Pause gives Paused, and Stop gives Paused at position 0." SCOPE 8.5: "Outside Seeking it is 0", the seeking speed.
abbrev pub played : Player → Player
played p = in_mode playing 0 p

abbrev pub paused_at : ℕ → Player → Player
paused_at position p = at_position position (in_mode paused 0 p)

-- SCOPE 8.5: "one of the rungs −32, −16, −8, −4, 4, 8, 16, 32", as octets in two's complement
abbrev pub rungs : List ℕ
rungs = 0xE0 ∷ 0xF0 ∷ 0xF8 ∷ 0xFC ∷ 4 ∷ 8 ∷ 16 ∷ 32 ∷ []

-- SCOPE 9.6: "the one goes a rung up and the other a rung down, and each stays at its end rung"
unfoldable pub rung_up : ℕ → ℕ
rung_up s = unwrap_or (next_of rungs s) s

unfoldable pub rung_down : ℕ → ℕ
rung_down s = unwrap_or (next_of (reverse rungs) s) s

-- SCOPE 9.6: "Fast Forward enters Seeking at 4, and Fast Rewind at −4."
unfoldable pub forwarded : Player → Player
forwarded p = in_mode seeking (pick (eqb p.mode.media seeking) (rung_up p.mode.seeking) 4) p

unfoldable pub rewound : Player → Player
rewound p = in_mode seeking (pick (eqb p.mode.media seeking) (rung_down p.mode.seeking) 0xFC) p

-- A move to a track of a group: "It turns Seeking into Playing, and keeps every other state" (SCOPE 11.7, 12.3, 14.2), and the position becomes 0.
unfoldable pub moved_to : ℕ → ℕ → Player → Player
moved_to group track p = at_place group track 0 (pick (eqb p.mode.media seeking) (in_mode playing 0 p) p)

-- SCOPE 8.9: activate goes to a track "at position 0, Paused, with seeking speed 0, whatever the state was"
abbrev pub activated_at : ℕ → ℕ → Player → Player
activated_at group track p = at_place group track 0 (in_mode paused 0 p)
