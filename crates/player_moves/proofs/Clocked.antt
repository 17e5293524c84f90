-- The clock at the player (SCOPE 13.3 to 13.11): at speed 0 a step of d goes on by d; steps within a track join; and whatever sets the position but such a step
-- leaves no rest. Assumes nothing.
use mathlib.Core.Path.{◌≡◌, refl, sym, ap, ◌∙◌}
use mathlib.Core.Bool.{Bool, true, false, ◌&&◌}
use mathlib.Core.Logic.{◌⊎◌, inl, inr}
use mathlib.Core.List.{List}
use Prim.Native.Nat.{ℕ, min, ◌+◌, ◌≤◌, ◌<◌}
use native.Mathlib.Omega.{arith}
use borrow.Author.Tests.{eq-eqb, eqb-true, ltb-true, ltb-false, lt-ltb, le-ltb}
use lib.Dec.{eqb, ltb}
use Rattle.std.specs.Prelude.{Option, Some, None}
use Rattle.ground.specs.Cases.{pick}
use Rattle.ground.specs.Limits.{most_duration}
use Rattle.ground.proofs.Cases.{past, here}
use Rattle.player_clock.specs.declared.Stepped.{Stepped}
use Rattle.player_clock.specs.Clock.{parts, stepped}
use Rattle.player_clock.proofs.Steps.{step_at_zero, steps_join}
use Rattle.player_walk.specs.Signed.{signed_word, is_negative}
use Rattle.player_opcodes.specs.Opcodes.{action_of}
use Rattle.player_opcodes.specs.declared.Action.{Action}
use Rattle.player_opcodes.specs.declared.Action.TheVariants.{Play, Pause, Rewind, Forward, Stop, Relative, Segment, Track, Group, Unknown}
use Rattle.player_state.specs.declared.Player.{Player}
use Rattle.player_state.specs.Player.{playing, seeking, is_active, in_mode, with_upcoming, clocked_to, at_place, deactivated}
use Rattle.player_state.specs.Modes.{forwarded, rewound, moved_to}
use Rattle.player_moves.specs.Moves.{end_now, running_now, next_track, group_after, entry_of}
use Rattle.player_moves.specs.Control.{entered, track_reached, left_named, track_moved, acted, controlled}
use Rattle.player_moves.specs.Clock.{clock_step, is_below, stays_below, after_end, at_end, played_on, sought_on, advanced, positioned, track_written, group_written, activated_on, activated}
use Rattle.player_moves.proofs.Choices.{by_test, by_found, by_segment, by_control}
use Rattle.player_moves.proofs.Alone.{advanced_within}

module _ (groups tracks : List ℕ) (p : Player) (short : end_now tracks p ≤ most_duration) where
  -- at speed 0 a step that stays below D goes on by d and keeps the rest; any other comes to the end of the track
  pub at_speed_zero : (d : ℕ) → p.mode.speed ≡ 0 → p.place.rest < parts
      → played_on groups tracks d p
      ≡ pick (ltb (p.place.position.0 + d) (end_now tracks p)) (clocked_to (p.place.position.0 + d) p.place.rest p) (at_end groups tracks p)
  unfolding played_on
  at_speed_zero d zero fits =
      let s : clock_step d p ≡ record { whole = min d most_duration; rest = p.place.rest } = ap (λ (k : ℕ). stepped p.place.rest d k) zero ∙ step_at_zero p.place.rest d fits in
      ap (λ (t : Stepped). pick (is_below tracks t.whole p) (clocked_to (p.place.position.0 + t.whole) t.rest p) (at_end groups tracks p)) s
      ∙ by (ltb (p.place.position.0 + d) (end_now tracks p)) refl
    where
      to : ℕ
      to = p.place.position.0 + min d most_duration

      by : (t : Bool) → ltb (p.place.position.0 + d) (end_now tracks p) ≡ t
          → pick (ltb to (end_now tracks p)) (clocked_to to p.place.rest p) (at_end groups tracks p)
          ≡ pick t (clocked_to (p.place.position.0 + d) p.place.rest p) (at_end groups tracks p)
      by true e =
          let h = ltb-true (p.place.position.0 + d) (end_now tracks p) e in
          let m : to ≡ p.place.position.0 + d = omega arith in
          sym (here _ (lt-ltb to (end_now tracks p) (omega arith)) (ap (λ (x : ℕ). clocked_to x p.place.rest p) (sym m)))
      by false e =
          let h = ltb-false (p.place.position.0 + d) (end_now tracks p) e in
          sym (past _ (le-ltb to (end_now tracks p) (omega arith)) refl)

  -- steps of d₁ and then of d₂ within a track come to the step of d₁ + d₂
  pub within_joins : (d₁ d₂ : ℕ) → p.mode.media ≡ playing → stays_below tracks (d₁ + d₂) p ≡ true
      → advanced groups tracks d₂ (advanced groups tracks d₁ p) ≡ advanced groups tracks (d₁ + d₂) p
  within_joins d₁ d₂ plays below =
      let position = p.place.position.0 in
      let h = ltb-true (position + (clock_step (d₁ + d₂) p).whole) (end_now tracks p) below in
      let j = steps_join p.place.rest d₁ d₂ p.mode.speed (omega arith) in
      let q = clocked_to (position + (clock_step d₁ p).whole) (clock_step d₁ p).rest p in
      let first : advanced groups tracks d₁ p ≡ q = advanced_within p groups tracks d₁ plays (lt-ltb (position + (clock_step d₁ p).whole) (end_now tracks p) (omega (arith, j.0))) in
      let second : advanced groups tracks d₂ q ≡ clocked_to (position + (clock_step d₁ p).whole + (clock_step d₂ q).whole) (clock_step d₂ q).rest q =
      advanced_within q groups tracks d₂ plays (lt-ltb (position + (clock_step d₁ p).whole + (clock_step d₂ q).whole) (end_now tracks p) (omega (arith, j.0))) in
      let sum : position + (clock_step d₁ p).whole + (clock_step d₂ q).whole ≡ position + (clock_step (d₁ + d₂) p).whole = omega (arith, j.0) in
      ap (advanced groups tracks d₂) first
      ∙ second
      ∙ (λ i. clocked_to (sum i) (j.1 i) p)
      ∙ sym (advanced_within p groups tracks (d₁ + d₂) plays below)

module _ (p : Player) where
  -- what sets the position leaves no rest (SCOPE 13.9), and what does not leaves the place with its rest (SCOPE 13.10)
  abbrev pub Rests : Player → Type 0
  Rests q = (q.place ≡ p.place) ⊎ (q.place.rest ≡ 0)

  pub deactivated_rests : (deactivated p).place.rest ≡ 0
  deactivated_rests = refl

  pub positioned_rests : (tracks : List ℕ) (number : ℕ) → Rests (positioned tracks number p)
  unfolding positioned
  positioned_rests tracks number =
      by_test Rests (is_active p) _ p
      (λ a. by_test Rests (running_now tracks p && is_negative (signed_word number)) p _ (λ t. inl refl) (λ t. inr refl))
      (λ a. inl refl)

  module _ (groups tracks : List ℕ) where
    after_rests : (near : Option ℕ) → (after_end tracks near p).place.rest ≡ 0
    after_rests (Some t) = refl
    after_rests None = refl

    -- outside Playing, and at a track's end
    pub sought_rests : (d : ℕ) → (p.mode.media ≡ playing → ⊥) → Rests (advanced groups tracks d p)
    unfolding advanced sought_on
    sought_rests d n =
        by_test Rests (eqb p.mode.media playing) _ _
        (λ e. absurd (n (eqb-true _ _ e)))
        (λ e. by_test Rests (eqb p.mode.media seeking) _ _ (λ f. inr refl) (λ f. inl refl))

    pub ended_rests : (d : ℕ) → p.mode.media ≡ playing → stays_below tracks d p ≡ false → running_now tracks p ≡ false → (advanced groups tracks d p).place.rest ≡ 0
    unfolding advanced played_on
    ended_rests d plays ends runs =
        ap (λ (q : Player). q.place.rest) (sym (here _ (eq-eqb _ _ plays) (past _ ends (past _ runs refl)))) ∙ after_rests (next_track groups tracks p)

    -- a track or a group that is gone to, with any track named
    moved_rests : (n g t : ℕ) → (moved_to g t (with_upcoming n p)).place.rest ≡ 0
    unfolding moved_to
    moved_rests n g t =
        by_test (λ q. (at_place g t 0 q).place.rest ≡ 0) (eqb p.mode.media seeking) (in_mode playing 0 (with_upcoming n p)) (with_upcoming n p) (λ e. refl) (λ e. refl)

    entered_rests : (g : ℕ) → Rests (entered groups tracks p g).player
    entered_rests g =
        by_found (λ c. Rests c.player) (entry_of groups tracks p.mode.order g) _ p (λ t i. inr (moved_rests p.upcoming g t)) (inl refl)

    pub track_rests : (t : ℕ) → Rests (track_written t p)
    unfolding track_written
    track_rests t = inr (moved_rests p.upcoming p.place.group.0 t)

    pub group_rests : (g : ℕ) → Rests (group_written groups tracks g p)
    unfolding group_written
    group_rests g = entered_rests g

    on_rests : (g : ℕ) (near : Option ℕ) → Rests (activated_on g near p)
    on_rests g (Some t) = inr refl
    on_rests g None = inl refl

    pub activated_rests : (g : ℕ) → Rests (activated groups tracks g p)
    unfolding activated
    activated_rests g = on_rests g (entry_of groups tracks p.mode.order g)

    module _ (segments : List ℕ) where
      acted_rests : (a : Action) → Rests (acted groups tracks segments a p).player
      unfolding acted track_moved forwarded rewound
      acted_rests Play = inl refl
      acted_rests Pause = inl refl
      acted_rests Rewind = inl refl
      acted_rests Forward = inl refl
      acted_rests Stop = inr refl
      acted_rests (Relative n) = inr refl
      acted_rests (Segment step) = by_segment (λ c. Rests c.player) tracks segments step p (inl refl) (λ x e. inr refl) (inl refl)
      acted_rests (Track step) =
          by_found (λ c. Rests c.player) (track_reached groups tracks step p) _ p
          (λ t e. inr (moved_rests (left_named step p.upcoming) p.place.group.0 t)) (inl refl)
      acted_rests (Group step) =
          by_found (λ c. Rests c.player) (group_after groups step p) (entered groups tracks p) p (λ g e. entered_rests g) (inl refl)
      acted_rests Unknown = inl refl

      pub controlled_rests : (opcode number : ℕ) → Rests (controlled groups tracks segments opcode number p).player
      controlled_rests opcode number =
          by_control (λ c. Rests c.player) groups tracks segments opcode number p (λ n. inl refl) (λ y n. inl refl) (λ y a. acted_rests (action_of opcode number))
