-- With |n| or more steps allowed, the manual's Goto comes to what the control point's Goto comes to (SCOPE 15.8), of segments, tracks and groups by one
-- argument. That argument is in `player_manual`: single steps lead to where a Goto leads that is defined as First or Last and then steps. And what is counted,
-- whatever is allowed. Assumes nothing.
use mathlib.Core.Path.{◌≡◌, refl, sym, ap, subst}
use mathlib.Core.Bool.{Bool, true, false, not, ◌||◌}
use mathlib.Core.Logic.{◌⊎◌, inl, inr, ⊎_elim}
use mathlib.Core.List.{List}
use Prim.Native.Nat.{ℕ, ◌<◌, ◌≤◌}
use native.Mathlib.Nat.{lt_irrefl}
use native.Mathlib.Omega.{arith}
use borrow.Author.Tests.{eqb-true}
use lib.Dec.{eqb}
use lib.ListN.{length}
use Rattle.std.specs.Prelude.{Option}
use Rattle.ground.specs.Cases.{pick}
use Rattle.ground.proofs.Cases.{clash}
use Rattle.catalogue_tables.specs.Tables.{first_track_of, tracks_in, starts_of}
use Rattle.player_walk.specs.Signed.{signed_word}
use Rattle.player_walk.specs.declared.Step.TheVariants.{Goto}
use Rattle.player_manual.specs.declared.Made.{Made}
use Rattle.player_manual.specs.declared.Made.TheVariants.{All, Stopped, RanOut}
use Rattle.player_manual.specs.Made.{by_steps, size, found}
use Rattle.player_manual.proofs.Steps.{Counts, counts_steps}
use Rattle.player_steps.proofs.Segments.{segments_agree}
use Rattle.player_steps.proofs.Tracks.{tracks_agree}
use Rattle.player_steps.proofs.Groups.{groups_agree}
use Rattle.player_opcodes.specs.Opcodes.{offered, step_of, action_of}
use Rattle.player_state.specs.declared.Player.{Player}
use Rattle.player_state.specs.Player.{is_active, at_position}
use Rattle.player_state.specs.Modes.{moved_to}
use Rattle.player_check.specs.Standing.{player_rule}
use Rattle.player_moves.specs.declared.Controlled.{Controlled}
use Rattle.player_moves.specs.Moves.{past_last, segment_after, track_after, group_after, Shaped}
use Rattle.player_moves.specs.Control.{success, failed, onward, entered, moves_nothing, segment_moved, track_moved, acted, controlled}
use Rattle.player_moves.proofs.Choices.{active_above}
use Rattle.player_moves.proofs.Ready.{seated, current}
use Rattle.player_goto.specs.declared.Gone.{Gone}
use Rattle.player_goto.specs.Goto.{went, from_position, from_track, from_group, ended, segment_gone, track_gone, group_gone, is_goto, gone}

-- what it comes to, without the count
abbrev pub came : Gone → Controlled
came g = record { result = g.outcome; player = g.player }

module _ (n allowed : ℕ) (p : Player) where
  -- how a walk ends, where its steps were enough
  ended_onward : (m : Made ℕ) (near : Option ℕ) (f : ℕ → Controlled) → Counts allowed (size (signed_word n)) m → size (signed_word n) ≤ allowed → found m ≡ near
      → came (ended m f p) ≡ onward near f p
  ended_onward (All x k) near f c enough e = ap (λ (q : Option ℕ). onward q f p) e
  ended_onward (Stopped k) near f c enough e = ap (λ (q : Option ℕ). onward q f p) e
  ended_onward (RanOut k) near f c enough e = absurd (lt_irrefl 0 (omega (arith, c.1, enough)))

  module _ (tracks segments : List ℕ) where
    pub segment_agrees : size (signed_word n) ≤ allowed → came (segment_gone tracks segments n allowed p) ≡ segment_moved tracks segments (Goto n) p
    unfolding segment_gone segment_after
    segment_agrees enough = by (moves_nothing (Goto n))
      where
        walked : came (ended (by_steps (from_position tracks segments p) n allowed p.place.position.0) (λ x. success (at_position x p)) p)
            ≡ onward (segment_after tracks segments (Goto n) p) (λ x. success (at_position x p)) p
        walked =
            ended_onward (by_steps (from_position tracks segments p) n allowed p.place.position.0) (segment_after tracks segments (Goto n) p) (λ x. success (at_position x p))
            (counts_steps (from_position tracks segments p) n allowed p.place.position.0) enough
            (segments_agree (starts_of tracks segments p.place.track.0) (past_last tracks p.place.track.0) n allowed p.place.position.0 enough)

        by : (t : Bool) → came (pick t (went 0 (success p)) (ended (by_steps (from_position tracks segments p) n allowed p.place.position.0) (λ x. success (at_position x p)) p))
            ≡ pick t (success p) (onward (segment_after tracks segments (Goto n) p) (λ x. success (at_position x p)) p)
        by true = refl
        by false = walked

  -- a state that stands in a shaped catalogue, and an active player
  module _ (groups tracks segments : List ℕ) (shape : Shaped groups tracks segments) (right : player_rule groups tracks p ≡ true) (active : 0 < p.mode.media) where
    pub track_agrees : size (signed_word n) ≤ allowed → came (track_gone groups tracks n allowed p) ≡ track_moved groups tracks (Goto n) p
    unfolding track_gone track_moved track_after
    track_agrees enough =
        ended_onward (by_steps (from_track groups tracks p) n allowed p.place.track.0) (track_after groups tracks (Goto n) p) (λ t. success (moved_to p.place.group.0 t p))
        (counts_steps (from_track groups tracks p) n allowed p.place.track.0) enough
        (tracks_agree p.mode.order tracks (length tracks) (first_track_of groups p.place.group.0) (tracks_in groups p.place.group.0) p.place.track.0
        (seated groups tracks segments shape p right active) n allowed enough)

    pub group_agrees : size (signed_word n) ≤ allowed → came (group_gone groups tracks n allowed p) ≡ onward (group_after groups (Goto n) p) (entered groups tracks p) p
    unfolding group_gone group_after
    group_agrees enough =
        ended_onward (by_steps (from_group groups p) n allowed p.place.group.0) (group_after groups (Goto n) p) (entered groups tracks p)
        (counts_steps (from_group groups p) n allowed p.place.group.0) enough
        (groups_agree groups p.place.group.0 (current groups tracks segments shape p right active) n allowed enough)

  -- results 2 and 3 come first in both
  behind : (o a : Bool) (g : Gone) (c : Controlled) → (a ≡ true → came g ≡ c)
      → came (pick (not o) (went 0 (failed 2 p)) (pick (not a) (went 0 (failed 3 p)) g)) ≡ pick (not o) (failed 2 p) (pick (not a) (failed 3 p) c)
  behind false a g c e = refl
  behind true false g c e = refl
  behind true true g c e = e refl

-- each of the three opcodes
is_one : (opcode : ℕ) → is_goto opcode ≡ true → (opcode ≡ 0x24) ⊎ ((opcode ≡ 0x34) ⊎ (opcode ≡ 0x44))
is_one opcode e = by (eqb opcode 0x24) (eqb opcode 0x34) (eqb opcode 0x44) refl refl refl e
  where
    by : (a b c : Bool) → eqb opcode 0x24 ≡ a → eqb opcode 0x34 ≡ b → eqb opcode 0x44 ≡ c → (a || b || c) ≡ true → (opcode ≡ 0x24) ⊎ ((opcode ≡ 0x34) ⊎ (opcode ≡ 0x44))
    by true b c ea eb ec t = inl (eqb-true opcode 0x24 ea)
    by false true c ea eb ec t = inr (inl (eqb-true opcode 0x34 eb))
    by false false true ea eb ec t = inr (inr (eqb-true opcode 0x44 ec))
    by false false false ea eb ec t = clash t

module _ (groups tracks segments : List ℕ) (shape : Shaped groups tracks segments) (n allowed : ℕ) (p : Player) (right : player_rule groups tracks p ≡ true) where
  -- THE LAW (SCOPE 15.8): with |n| or more steps allowed, the same result and the same player, of segments, tracks and groups
  pub goto_agrees : (opcode : ℕ) → is_goto opcode ≡ true → size (signed_word n) ≤ allowed → came (gone groups tracks segments opcode n allowed p) ≡ controlled groups tracks segments opcode n p
  unfolding gone controlled acted action_of step_of
  goto_agrees opcode e enough = ⊎_elim segment (⊎_elim track group) (is_one opcode e)
    where
      Agrees : ℕ → Type 0
      Agrees o = came (gone groups tracks segments o n allowed p) ≡ controlled groups tracks segments o n p

      segment : opcode ≡ 0x24 → Agrees opcode
      segment q =
          subst Agrees (sym q)
          (behind n allowed p (offered p.offer.mask 0x24) (is_active p) (segment_gone tracks segments n allowed p) (segment_moved tracks segments (Goto n) p)
          (λ a. segment_agrees n allowed p tracks segments enough))

      track : opcode ≡ 0x34 → Agrees opcode
      track q =
          subst Agrees (sym q)
          (behind n allowed p (offered p.offer.mask 0x34) (is_active p) (track_gone groups tracks n allowed p) (track_moved groups tracks (Goto n) p)
          (λ a. track_agrees n allowed p groups tracks segments shape right (active_above p a) enough))

      group : opcode ≡ 0x44 → Agrees opcode
      group q =
          subst Agrees (sym q)
          (behind n allowed p (offered p.offer.mask 0x44) (is_active p) (group_gone groups tracks n allowed p) (onward (group_after groups (Goto n) p) (entered groups tracks p) p)
          (λ a. group_agrees n allowed p groups tracks segments shape right (active_above p a) enough))
