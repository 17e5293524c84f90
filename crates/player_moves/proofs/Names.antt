-- What becomes of a track that is named to come next (SCOPE 14.5 to 14.7): a call that ends on the track and group on which it began keeps the name; one that
-- ends elsewhere leaves none; and Next Track and a track's end use the name once. Assumes nothing.
use mathlib.Core.Path.{◌≡◌, refl, sym, ap, ◌∙◌}
use mathlib.Core.Bool.{Bool, true, false, ◌&&◌}
use mathlib.Core.List.{List}
use Prim.Native.Nat.{ℕ, suc}
use native.Mathlib.Omega.{arith}
use borrow.Author.Tests.{eq-eqb, eqb-true}
use lib.Dec.{eqb}
use Rattle.std.specs.Prelude.{Option, Some, None}
use Rattle.ground.specs.Cases.{pick}
use Rattle.ground.proofs.Cases.{past, here, and_both, clash}
use Rattle.player_walk.specs.Signed.{signed_word, is_negative}
use Rattle.player_walk.specs.declared.Step.{Step}
use Rattle.player_walk.specs.declared.Step.TheVariants.{Previous, Next, First, Last, Goto}
use Rattle.player_opcodes.specs.Opcodes.{action_of}
use Rattle.player_opcodes.specs.declared.Action.{Action}
use Rattle.player_opcodes.specs.declared.Action.TheVariants.{Play, Pause, Rewind, Forward, Stop, Relative, Segment, Track, Group, Unknown}
use Rattle.player_state.specs.declared.Player.{Player}
use Rattle.player_state.specs.Player.{playing, seeking, is_active, in_mode, unnamed, is_on, kept_on, at_place, renamed, with_order, with_speed}
use Rattle.player_state.specs.Modes.{forwarded, rewound, moved_to}
use Rattle.player_moves.specs.Moves.{running_now, group_after, entry_of, next_track}
use Rattle.player_moves.specs.Control.{success, onward, entered, track_reached, is_next, track_moved, is_next_track, acted, controlled}
use Rattle.player_moves.specs.Clock.{stays_below, after_end, played_on, sought_on, advanced, positioned, track_written, group_written, activated_on, activated}
use Rattle.player_moves.specs.declared.Controlled.{Controlled}
use Rattle.player_moves.proofs.Choices.{by_test, by_found, by_segment, by_control}
use Rattle.player_moves.proofs.Named.{next_named}

-- A call finds the player p and leaves q. The name is kept where the call ends on the track and group on which it began, and elsewhere there is none.
abbrev pub Keeps : Player → Player → Type 0
Keeps p q = q.upcoming ≡ kept_on q.place.group.0 q.place.track.0 p

pub kept_here : (p q : Player) → Keeps p q → is_on q.place.group.0 q.place.track.0 p ≡ true → q.upcoming ≡ p.upcoming
kept_here p q keeps on = keeps ∙ sym (here _ on refl)

pub kept_elsewhere : (p q : Player) → Keeps p q → is_on q.place.group.0 q.place.track.0 p ≡ false → q.upcoming ≡ 0
kept_elsewhere p q keeps off = keeps ∙ sym (past _ off refl)

-- where the name is used there is none afterwards, wherever the call ends
used_none : (t : Bool) → ◌≡◌ {A = ℕ} (pick t 0 0) 0
used_none t = by_test (λ (n : ℕ). n ≡ 0) t 0 0 (λ e. refl) (λ e. refl)

module _ (p : Player) where
  pub on_its_own : is_on p.place.group.0 p.place.track.0 p ≡ true
  on_its_own = and_both (eq-eqb p.place.group.0 p.place.group.0 refl) (eq-eqb p.place.track.0 p.place.track.0 refl)

  -- a call that stays
  pub stays : p.upcoming ≡ kept_on p.place.group.0 p.place.track.0 p
  stays = here 0 on_its_own refl

  pub renamed_keeps : (name : List ℕ) → Keeps p (renamed name p)
  unfolding renamed
  renamed_keeps name = stays

  pub order_keeps : (order : ℕ) → Keeps p (with_order order p)
  order_keeps order = stays

  pub speed_keeps : (speed : ℕ) → Keeps p (with_speed speed p)
  speed_keeps speed = stays

  pub positioned_keeps : (tracks : List ℕ) (number : ℕ) → Keeps p (positioned tracks number p)
  unfolding positioned
  positioned_keeps tracks number =
      by_test (Keeps p) (is_active p) _ p
      (λ a. by_test (Keeps p) (running_now tracks p && is_negative (signed_word number)) p _ (λ t. stays) (λ t. stays))
      (λ a. stays)

  moved_keeps : (g t : ℕ) → Keeps p (moved_to g t p)
  unfolding moved_to
  moved_keeps g t = by_test (λ q. Keeps p (at_place g t 0 q)) (eqb p.mode.media seeking) (in_mode playing 0 p) p (λ e. refl) (λ e. refl)

  pub track_keeps : (t : ℕ) → Keeps p (track_written t p)
  unfolding track_written
  track_keeps t = moved_keeps p.place.group.0 t

  module _ (groups tracks : List ℕ) where
    entered_keeps : (g : ℕ) → Keeps p (entered groups tracks p g).player
    entered_keeps g =
        by_found (λ c. Keeps p c.player) (entry_of groups tracks p.mode.order g) _ p (λ t e. moved_keeps g t) stays

    pub group_keeps : (g : ℕ) → Keeps p (group_written groups tracks g p)
    unfolding group_written
    group_keeps g = entered_keeps g

    on_keeps : (g : ℕ) (near : Option ℕ) → Keeps p (activated_on g near p)
    on_keeps g (Some t) = refl
    on_keeps g None = stays

    pub activated_keeps : (g : ℕ) → Keeps p (activated groups tracks g p)
    unfolding activated
    activated_keeps g = on_keeps g (entry_of groups tracks p.mode.order g)

    -- Next Track, and a track's end, leave none
    used_moved : (g t : ℕ) → (moved_to g t (unnamed p)).upcoming ≡ 0
    unfolding moved_to
    used_moved g t =
        by_test (λ q. (at_place g t 0 q).upcoming ≡ 0) (eqb p.mode.media seeking) (in_mode playing 0 (unnamed p)) (unnamed p)
        (λ e. used_none (is_on g t p)) (λ e. used_none (is_on g t p))

    pub next_uses : (t : ℕ) → p.upcoming ≡ suc t → track_moved groups tracks Next p ≡ success (moved_to p.place.group.0 t (unnamed p))
    unfolding track_moved
    next_uses t e =
        let found : next_track groups tracks p ≡ Some t = next_named groups tracks p (λ z. omega arith) ∙ ap Some (omega arith) in
        ap (λ (n : Option ℕ). onward n (λ u. success (moved_to p.place.group.0 u (unnamed p))) p) found

    pub next_once : (t : ℕ) → p.upcoming ≡ suc t → (track_moved groups tracks Next p).player.upcoming ≡ 0
    next_once t e = ap (λ (c : Controlled). c.player.upcoming) (next_uses t e) ∙ used_moved p.place.group.0 t

    pub end_uses : (d t : ℕ) → p.mode.media ≡ playing → stays_below tracks d p ≡ false → running_now tracks p ≡ false → p.upcoming ≡ suc t
        → advanced groups tracks d p ≡ at_place p.place.group.0 t 0 (unnamed p)
    unfolding advanced played_on
    end_uses d t plays ends runs e =
        let found : next_track groups tracks p ≡ Some t = next_named groups tracks p (λ z. omega arith) ∙ ap Some (omega arith) in
        sym (here _ (eq-eqb _ _ plays) (past _ ends (past _ runs (ap (λ (n : Option ℕ). after_end tracks n p) (sym found)))))

    pub end_once : (d t : ℕ) → p.mode.media ≡ playing → stays_below tracks d p ≡ false → running_now tracks p ≡ false → p.upcoming ≡ suc t
        → (advanced groups tracks d p).upcoming ≡ 0
    end_once d t plays ends runs e = ap (λ (q : Player). q.upcoming) (end_uses d t plays ends runs e) ∙ used_none (is_on p.place.group.0 t p)

    -- an advance otherwise keeps the name, and in no case leaves one elsewhere
    pub advanced_keeps : (d : ℕ) → (p.mode.media ≡ playing → stays_below tracks d p ≡ false → running_now tracks p ≡ false → ⊥)
        → Keeps p (advanced groups tracks d p)
    unfolding advanced played_on sought_on
    advanced_keeps d early =
        by_test (Keeps p) (eqb p.mode.media playing) _ _
        (λ e. by_test (Keeps p) (stays_below tracks d p) _ _
        (λ t. stays)
        (λ t. by_test (Keeps p) (running_now tracks p) _ _ (λ r. stays) (λ r. absurd (early (eqb-true _ _ e) t r))))
        (λ n. by_test (Keeps p) (eqb p.mode.media seeking) _ _ (λ e. stays) (λ m. stays))

    -- a call that ends elsewhere has none
    abbrev NoneElsewhere : Player → Type 0
    NoneElsewhere q = is_on q.place.group.0 q.place.track.0 p ≡ false → q.upcoming ≡ 0

    still : NoneElsewhere p
    still off = clash (sym off ∙ on_its_own)

    after_none : (near : Option ℕ) → NoneElsewhere (after_end tracks near p)
    after_none (Some t) off = used_none (is_on p.place.group.0 t p)
    after_none None off = still off

    pub advanced_elsewhere : (d : ℕ) → NoneElsewhere (advanced groups tracks d p)
    unfolding advanced played_on sought_on
    advanced_elsewhere d =
        by_test NoneElsewhere (eqb p.mode.media playing) _ _
        (λ e. by_test NoneElsewhere (stays_below tracks d p) _ _
        (λ t. still)
        (λ t. by_test NoneElsewhere (running_now tracks p) _ _ (λ r. still) (λ r. after_none (next_track groups tracks p))))
        (λ n. by_test NoneElsewhere (eqb p.mode.media seeking) _ _ (λ e. still) (λ m. still))

    -- a track move other than Next Track
    track_moved_keeps : (step : Step) → is_next step ≡ false → Keeps p (track_moved groups tracks step p).player
    unfolding track_moved
    track_moved_keeps Next n = clash (sym n)
    track_moved_keeps Previous n = by_found (λ c. Keeps p c.player) (track_reached groups tracks Previous p) _ p (λ t e. moved_keeps p.place.group.0 t) stays
    track_moved_keeps First n = by_found (λ c. Keeps p c.player) (track_reached groups tracks First p) _ p (λ t e. moved_keeps p.place.group.0 t) stays
    track_moved_keeps Last n = by_found (λ c. Keeps p c.player) (track_reached groups tracks Last p) _ p (λ t e. moved_keeps p.place.group.0 t) stays
    track_moved_keeps (Goto m) n = by_found (λ c. Keeps p c.player) (track_reached groups tracks (Goto m) p) _ p (λ t e. moved_keeps p.place.group.0 t) stays

    next_elsewhere : NoneElsewhere (track_moved groups tracks Next p).player
    unfolding track_moved
    next_elsewhere =
        by_found (λ c. NoneElsewhere c.player) (next_track groups tracks p) _ p (λ t e off. used_moved p.place.group.0 t) still

    module _ (segments : List ℕ) where
      acted_keeps : (a : Action) → is_next_track a ≡ false → Keeps p (acted groups tracks segments a p).player
      unfolding acted forwarded rewound
      acted_keeps Play n = stays
      acted_keeps Pause n = stays
      acted_keeps Rewind n = stays
      acted_keeps Forward n = stays
      acted_keeps Stop n = stays
      acted_keeps (Relative k) n = stays
      acted_keeps (Segment step) n =
          by_segment (λ c. Keeps p c.player) tracks segments step p stays (λ x e. stays) stays
      acted_keeps (Track step) n = track_moved_keeps step n
      acted_keeps (Group step) n =
          by_found (λ c. Keeps p c.player) (group_after groups step p) (entered groups tracks p) p (λ g e. entered_keeps g) stays
      acted_keeps Unknown n = stays

      not_next : (a : Action) → is_next_track a ≡ false → NoneElsewhere (acted groups tracks segments a p).player
      not_next a n = kept_elsewhere p (acted groups tracks segments a p).player (acted_keeps a n)

      acted_elsewhere : (a : Action) → NoneElsewhere (acted groups tracks segments a p).player
      unfolding acted
      acted_elsewhere Play = not_next Play refl
      acted_elsewhere Pause = not_next Pause refl
      acted_elsewhere Rewind = not_next Rewind refl
      acted_elsewhere Forward = not_next Forward refl
      acted_elsewhere Stop = not_next Stop refl
      acted_elsewhere (Relative k) = not_next (Relative k) refl
      acted_elsewhere (Segment step) = not_next (Segment step) refl
      acted_elsewhere (Track Next) = next_elsewhere
      acted_elsewhere (Track Previous) = not_next (Track Previous) refl
      acted_elsewhere (Track First) = not_next (Track First) refl
      acted_elsewhere (Track Last) = not_next (Track Last) refl
      acted_elsewhere (Track (Goto m)) = not_next (Track (Goto m)) refl
      acted_elsewhere (Group step) = not_next (Group step) refl
      acted_elsewhere Unknown = not_next Unknown refl

      module _ (opcode number : ℕ) where
        -- the control point keeps the name, but for Next Track, and in no case leaves one elsewhere
        pub controlled_keeps : is_next_track (action_of opcode number) ≡ false → Keeps p (controlled groups tracks segments opcode number p).player
        controlled_keeps n =
            by_control (λ c. Keeps p c.player) groups tracks segments opcode number p (λ u. stays) (λ y i. stays)
            (λ y a. acted_keeps (action_of opcode number) n)

        pub controlled_elsewhere : NoneElsewhere (controlled groups tracks segments opcode number p).player
        controlled_elsewhere =
            by_control (λ c. NoneElsewhere c.player) groups tracks segments opcode number p (λ u. still) (λ y i. still)
            (λ y a. acted_elsewhere (action_of opcode number))
