-- When the track number can change, and when whether there is a track can change (SCOPE 18.2). Assumes nothing.
use mathlib.Core.Path.{◌≡◌, refl, sym, ap, ◌∙◌}
use mathlib.Core.Bool.{Bool, true, ◌&&◌}
use mathlib.Core.List.{List}
use Prim.Native.Nat.{ℕ}
use borrow.Author.Tests.{eqb-true}
use lib.Dec.{eqb}
use Rattle.std.specs.Prelude.{Option, Some, None}
use Rattle.ground.proofs.Cases.{clash}
use Rattle.player_walk.specs.Signed.{signed_word, is_negative}
use Rattle.player_walk.specs.declared.Step.{Step}
use Rattle.player_opcodes.specs.Opcodes.{action_of}
use Rattle.player_opcodes.specs.declared.Action.{Action}
use Rattle.player_opcodes.specs.declared.Action.TheVariants.{Play, Pause, Rewind, Forward, Stop, Relative, Segment, Track, Group, Unknown}
use Rattle.player_state.specs.declared.Player.{Player}
use Rattle.player_state.specs.Player.{playing, seeking, is_active, in_mode, with_upcoming, at_place, renamed, with_order, with_speed}
use Rattle.player_state.specs.Modes.{forwarded, rewound, moved_to}
use Rattle.player_moves.specs.Moves.{running_now, next_track, group_after, entry_of}
use Rattle.player_moves.specs.Control.{entered, track_reached, left_named, track_moved, acted, controlled}
use Rattle.player_moves.specs.Clock.{stays_below, after_end, played_on, sought_on, advanced, positioned}
use Rattle.player_moves.proofs.Choices.{by_test, by_found, by_segment, by_control}
use Rattle.player_moves.proofs.Alone.{refused_alone, advanced_running}

-- the track number, and whether there is a track
pub record Seat : Type 0 where
  pub track : ℕ
  pub active : Bool

abbrev pub seat : Player → Seat
seat p = record { track = p.place.track.0; active = is_active p }

module _ (p : Player) where
  abbrev Stays : Player → Type 0
  Stays q = seat q ≡ seat p

  abbrev Same : Player → Type 0
  Same q = is_active q ≡ is_active p

  pub order_stays : (order : ℕ) → seat (with_order order p) ≡ seat p
  order_stays order = refl

  pub speed_stays : (speed : ℕ) → seat (with_speed speed p) ≡ seat p
  speed_stays speed = refl

  pub renamed_stays : (name : List ℕ) → seat (renamed name p) ≡ seat p
  unfolding renamed
  renamed_stays name = refl

  pub positioned_stays : (tracks : List ℕ) (number : ℕ) → seat (positioned tracks number p) ≡ seat p
  unfolding positioned
  positioned_stays tracks number =
      by_test Stays (is_active p) _ p
      (λ a. by_test Stays (running_now tracks p && is_negative (signed_word number)) p _ (λ t. refl) (λ t. refl))
      (λ a. refl)

  module _ (groups tracks : List ℕ) where
    -- the clock goes to another track only at the end of one, and a running recording has none
    pub advanced_stays : (d : ℕ) → (p.mode.media ≡ playing → stays_below tracks d p ≡ true) → seat (advanced groups tracks d p) ≡ seat p
    unfolding advanced played_on sought_on
    advanced_stays d early =
        by_test Stays (eqb p.mode.media playing) _ _
        (λ e. by_test Stays (stays_below tracks d p) _ _
        (λ t. refl)
        (λ t. clash (sym t ∙ early (eqb-true _ _ e))))
        (λ n. by_test Stays (eqb p.mode.media seeking) _ _ (λ e. refl) (λ m. refl))

    pub running_stays : (d : ℕ) → p.mode.media ≡ playing → running_now tracks p ≡ true → seat (advanced groups tracks d p) ≡ seat p
    running_stays d e r = ap seat (advanced_running p groups tracks d e r)

    after_active : (near : Option ℕ) → is_active p ≡ true → Same (after_end tracks near p)
    after_active (Some t) a = refl
    after_active None a = sym a

    -- neither the clock nor the control point makes a player active or Inactive
    pub advanced_active : (d : ℕ) → is_active (advanced groups tracks d p) ≡ is_active p
    unfolding advanced played_on sought_on
    advanced_active d =
        by_test Same (eqb p.mode.media playing) _ _
        (λ e. by_test Same (stays_below tracks d p) _ _
        (λ t. refl)
        (λ t. by_test Same (running_now tracks p) _ _
        (λ r. refl)
        (λ r. after_active (next_track groups tracks p) (rw (eqb-true p.mode.media playing e)))))
        (λ n. by_test Same (eqb p.mode.media seeking) _ _ (λ e. refl) (λ m. refl))

    module _ (segments : List ℕ) where
      module _ (active : is_active p ≡ true) where
        -- with any track named
        moved_active : (n g t : ℕ) → Same (moved_to g t (with_upcoming n p))
        unfolding moved_to
        moved_active n g t =
            by_test (λ q. Same (at_place g t 0 q)) (eqb p.mode.media seeking) (in_mode playing 0 (with_upcoming n p)) (with_upcoming n p) (λ e. sym active) (λ e. refl)

        acted_stays : (a : Action) → ((step : Step) → a ≡ Track step → ⊥) → ((step : Step) → a ≡ Group step → ⊥)
            → Stays (acted groups tracks segments a p).player
        unfolding acted track_moved forwarded rewound
        acted_stays Play n m = rw active
        acted_stays Pause n m = rw active
        acted_stays Rewind n m = rw active
        acted_stays Forward n m = rw active
        acted_stays Stop n m = rw active
        acted_stays (Relative k) n m = refl
        acted_stays (Segment step) n m =
            by_segment (λ c. Stays c.player) tracks segments step p refl (λ x e. refl) refl
        acted_stays (Track step) n m = absurd (n step refl)
        acted_stays (Group step) n m = absurd (m step refl)
        acted_stays Unknown n m = refl

        acted_active : (a : Action) → Same (acted groups tracks segments a p).player
        unfolding acted track_moved forwarded rewound
        acted_active Play = sym active
        acted_active Pause = sym active
        acted_active Rewind = sym active
        acted_active Forward = sym active
        acted_active Stop = sym active
        acted_active (Relative k) = refl
        acted_active (Segment step) =
            by_segment (λ c. Same c.player) tracks segments step p refl (λ x e. refl) refl
        acted_active (Track step) =
            by_found (λ c. Same c.player) (track_reached groups tracks step p) _ p (λ t e. moved_active (left_named step p.upcoming) p.place.group.0 t) refl
        acted_active (Group step) =
            by_found (λ c. Same c.player) (group_after groups step p) (entered groups tracks p) p
            (λ g e. by_found (λ c. Same c.player) (entry_of groups tracks p.mode.order g) _ p (λ t i. moved_active p.upcoming g t) refl)
            refl
        acted_active Unknown = refl

      module _ (opcode number : ℕ) where
        pub controlled_stays : ((step : Step) → action_of opcode number ≡ Track step → ⊥) → ((step : Step) → action_of opcode number ≡ Group step → ⊥)
            → seat (controlled groups tracks segments opcode number p).player ≡ seat p
        controlled_stays n m =
            by_control (λ c. Stays c.player) groups tracks segments opcode number p (λ u. refl) (λ y i. refl)
            (λ y a. acted_stays a (action_of opcode number) n m)

        pub refused_stays : ((controlled groups tracks segments opcode number p).result ≡ 1 → ⊥) → seat (controlled groups tracks segments opcode number p).player ≡ seat p
        refused_stays refused = ap seat (refused_alone p groups tracks segments opcode number refused)

        pub controlled_active : is_active (controlled groups tracks segments opcode number p).player ≡ is_active p
        controlled_active =
            by_control (λ c. Same c.player) groups tracks segments opcode number p (λ u. refl) (λ y i. refl)
            (λ y a. acted_active a (action_of opcode number))
