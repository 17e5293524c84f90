-- What is counted, and what moves, whatever is allowed (SCOPE 15.2 to 15.6). Assumes nothing.
use mathlib.Core.Path.{◌≡◌, refl, sym, ap}
use mathlib.Core.Bool.{Bool, true, false, not, ◌&&◌}
use mathlib.Core.Logic.{◌⊎◌, inl, inr}
use mathlib.Core.List.{List}
use Prim.Native.Nat.{ℕ, ◌<◌, ◌≤◌}
use native.Mathlib.Omega.{arith}
use borrow.Author.Tests.{eqb-true}
use lib.Dec.{eqb}
use Rattle.std.specs.Prelude.{Option}
use Rattle.ground.specs.Cases.{pick}
use Rattle.catalogue_tables.specs.Tables.{first_track_of, tracks_in}
use Rattle.player_walk.specs.Signed.{signed_word}
use Rattle.player_manual.specs.declared.Made.{Made}
use Rattle.player_manual.specs.declared.Made.TheVariants.{All, Stopped, RanOut}
use Rattle.player_manual.specs.Made.{by_steps, size}
use Rattle.player_manual.proofs.Steps.{Counts, counts_steps}
use Rattle.player_orders.proofs.Laws.{entry_finds}
use Rattle.player_groups.specs.Family.{Current}
use Rattle.player_steps.proofs.Groups.{leads_current}
use Rattle.player_opcodes.specs.Opcodes.{offered}
use Rattle.player_state.specs.declared.Player.{Player}
use Rattle.player_state.specs.Player.{is_active, at_position}
use Rattle.player_state.specs.Modes.{moved_to}
use Rattle.player_check.specs.Standing.{player_rule}
use Rattle.player_moves.specs.declared.Controlled.{Controlled}
use Rattle.player_moves.specs.Moves.{group_after, entry_of, Shaped}
use Rattle.player_moves.specs.Control.{success, failed, onward, entered}
use Rattle.player_moves.proofs.Choices.{active_above}
use Rattle.player_moves.proofs.Ready.{current, current_run}
use Rattle.player_goto.specs.declared.Gone.{Gone}
use Rattle.player_goto.specs.Goto.{ran_out, went, from_position, from_track, from_group, ended, segment_gone, track_gone, group_gone, is_goto, gone}

-- The four ways to end, with m steps to make: all were made, and so many were allowed; results 2 and 3, with a count of 0; a step could not be made, which is
-- counted and was allowed; or the allowed steps ran out, of which there were too few. But for the first, nothing moves.
abbrev AllMade : ℕ → ℕ → Gone → Type 0
AllMade allowed m g = (g.outcome ≡ 1) × (g.steps ≡ m) × (m ≤ allowed)

abbrev NotBegun : Player → Gone → Type 0
NotBegun p g = ((g.outcome ≡ 2) ⊎ (g.outcome ≡ 3)) × (g.steps ≡ 0) × (g.player ≡ p)

abbrev CouldNot : ℕ → ℕ → Player → Gone → Type 0
CouldNot allowed m p g = (g.outcome ≡ 4) × (0 < g.steps) × (g.steps ≤ m) × (g.steps ≤ allowed) × (g.player ≡ p)

abbrev TooFew : ℕ → ℕ → Player → Gone → Type 0
TooFew allowed m p g = (g.outcome ≡ ran_out) × (g.steps ≡ allowed) × (allowed < m) × (g.player ≡ p)

abbrev pub Ends : ℕ → ℕ → Player → Gone → Type 0
Ends allowed m p g = AllMade allowed m g ⊎ (NotBegun p g ⊎ (CouldNot allowed m p g ⊎ TooFew allowed m p g))

module _ (n allowed : ℕ) (p : Player) where
  -- a walk that was counted, and what it ends with
  counted_ends : (r : Made ℕ) (f : ℕ → Controlled) → Counts allowed (size (signed_word n)) r → ((x k : ℕ) → r ≡ All x k → (f x).result ≡ 1) → Ends allowed (size (signed_word n)) p (ended r f p)
  counted_ends (All x k) f c fine = inl (fine x k refl, c.0, c.1)
  counted_ends (Stopped k) f c fine = inr (inr (inl (refl, c.0, c.1, c.2, refl)))
  counted_ends (RanOut k) f c fine = inr (inr (inr (refl, c.0, c.1, refl)))

  -- Goto 0 has no step to make
  none : n ≡ 0 → size (signed_word n) ≡ 0
  unfolding signed_word
  none e = ap (λ (m : ℕ). size (signed_word m)) e

  module _ (tracks segments : List ℕ) where
    segment_ends : Ends allowed (size (signed_word n)) p (segment_gone tracks segments n allowed p)
    unfolding segment_gone
    segment_ends = by (eqb n 0) refl
      where
        by : (t : Bool) → eqb n 0 ≡ t
            → Ends allowed (size (signed_word n)) p (pick t (went 0 (success p)) (ended (by_steps (from_position tracks segments p) n allowed p.place.position.0) (λ x. success (at_position x p)) p))
        by true e = let z = none (eqb-true n 0 e) in inl (refl, sym z, omega arith)
        by false e =
            counted_ends (by_steps (from_position tracks segments p) n allowed p.place.position.0) (λ x. success (at_position x p))
            (counts_steps (from_position tracks segments p) n allowed p.place.position.0) (λ x k q. refl)

  module _ (groups tracks segments : List ℕ) (shape : Shaped groups tracks segments) (right : player_rule groups tracks p ≡ true) where
    track_ends : Ends allowed (size (signed_word n)) p (track_gone groups tracks n allowed p)
    unfolding track_gone
    track_ends =
        counted_ends (by_steps (from_track groups tracks p) n allowed p.place.track.0) (λ t. success (moved_to p.place.group.0 t p))
        (counts_steps (from_track groups tracks p) n allowed p.place.track.0) (λ x k q. refl)

    -- a group that is there and has tracks has an entry
    entered_one : (g : ℕ) → Current groups g → (entered groups tracks p g).result ≡ 1
    unfolding entry_of
    entered_one g c =
        let found = entry_finds p.mode.order tracks _ (first_track_of groups g) (tracks_in groups g) (current_run groups tracks segments shape g c) c.used in
        ap (λ (q : Option ℕ). (onward q (λ t. success (moved_to g t p)) p).result) found.1

    group_ends : 0 < p.mode.media → Ends allowed (size (signed_word n)) p (group_gone groups tracks n allowed p)
    unfolding group_gone group_after
    group_ends active =
        counted_ends (by_steps (from_group groups p) n allowed p.place.group.0) (entered groups tracks p)
        (counts_steps (from_group groups p) n allowed p.place.group.0)
        (λ x k q. entered_one x (leads_current groups p.place.group.0 (current groups tracks segments shape p right active) n allowed x k q))

    -- THE LAW
    pub goto_ends : (opcode : ℕ) → Ends allowed (size (signed_word n)) p (gone groups tracks segments opcode n allowed p)
    unfolding gone
    goto_ends opcode = by (is_goto opcode && offered p.offer.mask opcode) (is_active p) refl (eqb opcode 0x24) (eqb opcode 0x34)
      where
        by : (o a : Bool) → is_active p ≡ a → (s t : Bool)
            → Ends allowed (size (signed_word n)) p
            (pick (not o) (went 0 (failed 2 p))
            (pick (not a) (went 0 (failed 3 p))
            (pick s (segment_gone tracks segments n allowed p) (pick t (track_gone groups tracks n allowed p) (group_gone groups tracks n allowed p)))))
        by false a e s t = inr (inl (inl refl, refl, refl))
        by true false e s t = inr (inl (inr refl, refl, refl))
        by true true e true t = segment_ends tracks segments
        by true true e false true = track_ends
        by true true e false false = group_ends (active_above p e)
