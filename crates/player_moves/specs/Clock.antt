-- What an advance does (SCOPE 13), what writes of the position, the track and the group do (SCOPE 9.8, 9.9, 14.2, 14.3), and what activate does (SCOPE 8.9).
-- Assumes nothing.
use Rattle.std.specs.Prelude.{Bool, ◌&&◌, List, ℕ, ◌+◌, eqb, ltb, Option, Some, None}
use Rattle.ground.specs.Cases.{pick}
use Rattle.player_walk.specs.Signed.{signed_word, is_negative}
use Rattle.player_clock.specs.declared.Stepped.{Stepped}
use Rattle.player_clock.specs.Clock.{stepped}
use Rattle.player_state.specs.declared.Player.{Player}
use Rattle.player_state.specs.Player.{playing, seeking, is_active, unnamed, clocked_to, at_place, at_position}
use Rattle.player_state.specs.Modes.{paused_at, moved_to, activated_at}
use Rattle.player_state.specs.Positions.{written, sought}
use Rattle.player_moves.specs.Control.{entered}
use Rattle.player_moves.specs.Moves.{end_now, running_now, next_track, entry_of}

-- a step of the clock in Playing, on from the rest that was kept. SCOPE 13.11: "The speed that counts for a step is the one that the step finds."
abbrev pub clock_step : ℕ → Player → Stepped
clock_step d p = stepped p.place.rest d p.mode.speed

-- SCOPE 13.4: the position, so many hundredths further, "stays below D"; and it does so in an advance by d
abbrev pub is_below : List ℕ → ℕ → Player → Bool
is_below tracks whole p = ltb (p.place.position.0 + whole) (end_now tracks p)

abbrev pub stays_below : List ℕ → ℕ → Player → Bool
stays_below tracks d p = is_below tracks (clock_step d p).whole p

-- SCOPE 13.5: "The player goes to the next track at 0, still Playing: to the named one (14.5), or else to the one that Next Track reaches in the order. Where
-- there is none, it is Paused at D." A name is then used up (SCOPE 14.5).
abbrev pub after_end : List ℕ → Option ℕ → Player → Player
after_end tracks (Some t) p = at_place p.place.group.0 t 0 (unnamed p)
after_end tracks None p = paused_at (end_now tracks p) p

-- at D or beyond. SCOPE 13.6: "A recording that is still running never ends: at 8,640,000 the player stays there in its state, and the rest is as it was."
abbrev pub at_end : List ℕ → List ℕ → Player → Player
at_end groups tracks p =
    pick (running_now tracks p) (clocked_to (end_now tracks p) p.place.rest p) (after_end tracks (next_track groups tracks p) p)

-- a step in Playing. SCOPE 13.4: "Where the position then stays below D, it is the new position." The step leaves its rest (SCOPE 13.3).
unfoldable pub played_on : List ℕ → List ℕ → ℕ → Player → Player
played_on groups tracks d p =
    pick (stays_below tracks d p) (clocked_to (p.place.position.0 + (clock_step d p).whole) (clock_step d p).rest p) (at_end groups tracks p)

-- SCOPE 13.7: "In Seeking, d times the seeking speed is added to the position, held to 0 and D. The player stays Seeking at either end."
unfoldable pub sought_on : List ℕ → ℕ → Player → Player
sought_on tracks d p =
    at_position (sought (end_now tracks p) p.place.position.0 p.mode.seeking d) p

-- an advance by d (SCOPE 13.1). SCOPE 13.8: "Paused and Inactive, an advance changes nothing."
unfoldable pub advanced : List ℕ → List ℕ → ℕ → Player → Player
advanced groups tracks d p =
    pick (eqb p.mode.media playing) (played_on groups tracks d p)
    (pick (eqb p.mode.media seeking) (sought_on tracks d p) p)

-- A position write by SCOPE 9.8. SCOPE 9.9: "While the recording is still running, a negative one is accepted and moves nothing."
abbrev pub positioned_in : List ℕ → ℕ → Player → Player
positioned_in tracks number p =
    pick (running_now tracks p && is_negative (signed_word number)) p (at_position (written (end_now tracks p) (signed_word number)) p)

-- SCOPE 9.9: "While Inactive, a position write is accepted and alters nothing."
unfoldable pub positioned : List ℕ → ℕ → Player → Player
positioned tracks number p = pick (is_active p) (positioned_in tracks number p) p

-- SCOPE 14.2: "A write of 11 goes to a track of the current group, the current one too, at position 0."
unfoldable pub track_written : ℕ → Player → Player
track_written t p = moved_to p.place.group.0 t p

-- SCOPE 14.3: "A write of 14 goes to a group that has tracks, group 0 too, as activate does; but it keeps the state, and turns Seeking into Playing."
unfoldable pub group_written : List ℕ → List ℕ → ℕ → Player → Player
group_written groups tracks g p = (entered groups tracks p g).player

-- SCOPE 8.9: "Activate goes to a group's first track (11.4), at position 0, Paused, with seeking speed 0, whatever the state was."
abbrev pub activated_on : ℕ → Option ℕ → Player → Player
activated_on g (Some t) p = activated_at g t p
activated_on g None p = p

unfoldable pub activated : List ℕ → List ℕ → ℕ → Player → Player
activated groups tracks g p = activated_on g (entry_of groups tracks p.mode.order g) p
