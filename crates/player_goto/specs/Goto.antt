-- The manual's Goto of a player (SCOPE 15): "a second player of the three Gotos, which really makes First or Last and then each step, up to a given number of
-- allowed steps" (SCOPE 15.1).
-- Assumes nothing.
use Rattle.std.specs.Prelude.{Bool, not, ◌&&◌, ◌||◌, List, ℕ, eqb, Option}
use Rattle.ground.specs.Cases.{pick}
use Rattle.player_walk.specs.declared.Step.{Step}
use Rattle.player_walk.specs.declared.Step.TheVariants.{Goto}
use Rattle.player_manual.specs.declared.Made.{Made}
use Rattle.player_manual.specs.declared.Made.TheVariants.{All, Stopped, RanOut}
use Rattle.player_manual.specs.Made.{by_steps}
use Rattle.player_opcodes.specs.Opcodes.{offered}
use Rattle.player_state.specs.declared.Player.{Player}
use Rattle.player_state.specs.Player.{is_active, at_place, at_position}
use Rattle.player_state.specs.Modes.{moved_to}
use Rattle.player_moves.specs.declared.Controlled.{Controlled}
use Rattle.player_moves.specs.Moves.{segment_after, track_after, group_after}
use Rattle.player_moves.specs.Control.{success, failed, entered, moves_nothing}
use Rattle.player_goto.specs.declared.Gone.{Gone}

-- what it comes to: 1 to 4 are the results of the control point (SCOPE 9.4); 0, which is no result, says that the allowed steps ran out (SCOPE 15.5)
abbrev pub ran_out : ℕ
ran_out = 0

abbrev pub went : ℕ → Controlled → Gone
went steps c = record { outcome = c.result; steps = steps; player = c.player }

-- The player's own moves, each from where the player is then: at a position of its track; on a track of its group; in a group. SCOPE 15.7: "The steps use no
-- named next track", so that tracks go by the order alone. Of the place that it starts from, a group move looks at the group alone.
abbrev pub from_position : List ℕ → List ℕ → Player → Step → ℕ → Option ℕ
from_position tracks segments p step x = segment_after tracks segments step (at_position x p)

abbrev pub from_track : List ℕ → List ℕ → Player → Step → ℕ → Option ℕ
from_track groups tracks p step t = track_after groups tracks step (at_place p.place.group.0 t 0 p)

abbrev pub from_group : List ℕ → Player → Step → ℕ → Option ℕ
from_group groups p step g = group_after groups step (at_place g 0 0 p)

-- How it ends. All steps were made: the player goes where they led. SCOPE 15.4: where a step cannot be made, "it stops there .. and result 4 stands".
-- SCOPE 15.5: if the allowed steps run out, "it says so (outcome 0) .. and nothing moves".
abbrev pub ended : Made ℕ → (ℕ → Controlled) → Player → Gone
ended (All x steps) f p = went steps (f x)
ended (Stopped steps) f p = went steps (failed 4 p)
ended (RanOut steps) f p = went steps (failed ran_out p)

-- The three Gotos. Each ends as the control point's own Goto does. SCOPE 15.6: for n = 0 "the player would be where Goto 0 leaves it"; Goto Segment 0 sets no
-- position (SCOPE 10.7).
unfoldable pub segment_gone : List ℕ → List ℕ → ℕ → ℕ → Player → Gone
segment_gone tracks segments n allowed p =
    pick (moves_nothing (Goto n)) (went 0 (success p))
    (ended (by_steps (from_position tracks segments p) n allowed p.place.position.0) (λ x. success (at_position x p)) p)

unfoldable pub track_gone : List ℕ → List ℕ → ℕ → ℕ → Player → Gone
track_gone groups tracks n allowed p =
    ended (by_steps (from_track groups tracks p) n allowed p.place.track.0) (λ t. success (moved_to p.place.group.0 t p)) p

unfoldable pub group_gone : List ℕ → List ℕ → ℕ → ℕ → Player → Gone
group_gone groups tracks n allowed p =
    ended (by_steps (from_group groups p) n allowed p.place.group.0) (entered groups tracks p) p

-- SCOPE 15.3: "Results 2 and 3 come first, with a count of 0. Every opcode but the three Gotos has result 2."
abbrev pub is_goto : ℕ → Bool
is_goto opcode = eqb opcode 0x24 || eqb opcode 0x34 || eqb opcode 0x44

-- the answer (SCOPE 15.2 to 15.6): the outcome, the steps that are counted, and where the player would be
unfoldable pub gone : List ℕ → List ℕ → List ℕ → ℕ → ℕ → ℕ → Player → Gone
gone groups tracks segments opcode n allowed p =
    pick (not (is_goto opcode && offered p.offer.mask opcode)) (went 0 (failed 2 p))
    (pick (not (is_active p)) (went 0 (failed 3 p))
    (pick (eqb opcode 0x24) (segment_gone tracks segments n allowed p)
    (pick (eqb opcode 0x34) (track_gone groups tracks n allowed p)
    (group_gone groups tracks n allowed p))))
