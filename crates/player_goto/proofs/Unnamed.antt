-- The steps use no named next track (SCOPE 15.7): outcome, steps and place are the same whatever track is named to come next. Assumes nothing.
use mathlib.Core.Path.{◌≡◌, refl}
use mathlib.Core.Bool.{Bool, true, false, not, ◌&&◌}
use mathlib.Core.List.{List}
use Prim.Native.Nat.{ℕ}
use lib.Dec.{eqb}
use Rattle.std.specs.Prelude.{Option, Some, None}
use Rattle.ground.specs.Cases.{pick}
use Rattle.player_walk.specs.declared.Step.TheVariants.{Goto}
use Rattle.player_manual.specs.declared.Made.{Made}
use Rattle.player_manual.specs.declared.Made.TheVariants.{All, Stopped, RanOut}
use Rattle.player_manual.specs.Made.{by_steps}
use Rattle.player_opcodes.specs.Opcodes.{offered}
use Rattle.player_state.specs.declared.Player.{Player}
use Rattle.player_state.specs.Player.{is_active, with_upcoming, at_position}
use Rattle.player_state.specs.Modes.{moved_to}
use Rattle.player_moves.specs.declared.Controlled.{Controlled}
use Rattle.player_moves.specs.Moves.{segment_after, track_after, group_after, entry_of}
use Rattle.player_moves.specs.Control.{success, failed, onward, entered, moves_nothing}
use Rattle.player_goto.specs.declared.Gone.{Gone}
use Rattle.player_goto.specs.Goto.{went, from_position, from_track, from_group, ended, segment_gone, track_gone, group_gone, is_goto, gone}

-- what is told of two players is the same
abbrev Alike : Controlled → Controlled → Type 0
Alike c d = (c.result ≡ d.result) × (c.player.place ≡ d.player.place)

abbrev Same : Gone → Gone → Type 0
Same g h = (g.outcome ≡ h.outcome) × (g.steps ≡ h.steps) × (g.player.place ≡ h.player.place)

same_pick : (t : Bool) (a b c d : Gone) → Same a c → Same b d → Same (pick t a b) (pick t c d)
same_pick true a b c d e f = e
same_pick false a b c d e f = f

same_ended : (m : Made ℕ) (f g : ℕ → Controlled) (p q : Player) → p.place ≡ q.place → ((x : ℕ) → Alike (f x) (g x)) → Same (ended m f p) (ended m g q)
same_ended (All x n) f g p q e h = ((h x).0, refl, (h x).1)
same_ended (Stopped n) f g p q e h = (refl, refl, e)
same_ended (RanOut n) f g p q e h = (refl, refl, e)

module _ (groups tracks segments : List ℕ) (n allowed : ℕ) (p : Player) (named : ℕ) where
  other : Player
  other = with_upcoming named p

  segment_same : Same (segment_gone tracks segments n allowed other) (segment_gone tracks segments n allowed p)
  unfolding other segment_gone segment_after
  segment_same =
      same_pick (moves_nothing (Goto n)) (went 0 (success other)) _ (went 0 (success p)) _ (refl, refl, refl)
      (same_ended (by_steps (from_position tracks segments p) n allowed p.place.position.0) (λ x. success (at_position x other)) (λ x. success (at_position x p)) other p refl (λ x. (refl, refl)))

  track_same : Same (track_gone groups tracks n allowed other) (track_gone groups tracks n allowed p)
  unfolding other track_gone track_after moved_to
  track_same =
      same_ended (by_steps (from_track groups tracks p) n allowed p.place.track.0) (λ t. success (moved_to p.place.group.0 t other)) (λ t. success (moved_to p.place.group.0 t p)) other p refl
      (λ t. (refl, refl))

  group_same : Same (group_gone groups tracks n allowed other) (group_gone groups tracks n allowed p)
  unfolding other group_gone group_after moved_to
  group_same =
      same_ended (by_steps (from_group groups p) n allowed p.place.group.0) (entered groups tracks other) (entered groups tracks p) other p refl
      (λ g. at g (entry_of groups tracks p.mode.order g))
    where
      at : (g : ℕ) (near : Option ℕ) → Alike (onward near (λ t. success (moved_to g t other)) other) (onward near (λ t. success (moved_to g t p)) p)
      at g (Some t) = (refl, refl)
      at g None = (refl, refl)

  -- THE LAW
  pub name_unused : (opcode : ℕ) → Same (gone groups tracks segments opcode n allowed (with_upcoming named p)) (gone groups tracks segments opcode n allowed p)
  unfolding other gone
  name_unused opcode =
      same_pick (not (is_goto opcode && offered p.offer.mask opcode)) (went 0 (failed 2 other)) _ (went 0 (failed 2 p)) _ (refl, refl, refl)
      (same_pick (not (is_active p)) (went 0 (failed 3 other)) _ (went 0 (failed 3 p)) _ (refl, refl, refl)
      (same_pick (eqb opcode 0x24) _ _ _ _ segment_same (same_pick (eqb opcode 0x34) _ _ _ _ track_same group_same)))
