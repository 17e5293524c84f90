-- A player's state that keeps its part of 201 goes on keeping it, whatever call is made (SCOPE 20.5). Assumes nothing.
use mathlib.Core.Path.{◌≡◌, refl, sym, ap, ◌∙◌}
use mathlib.Core.Bool.{Bool, true, ◌&&◌}
use mathlib.Core.Logic.{⊎_elim}
use mathlib.Core.List.{List}
use Prim.Native.Nat.{ℕ, ◌+◌, ◌-◌, ◌<◌, ◌≤◌}
use native.Mathlib.Omega.{arith}
use borrow.Author.Tests.{eqb-true, eqb-false, ltb-true, leb-true, lt-ltb}
use lib.Dec.{eqb, ltb, leb}
use lib.ListN.{length, replicate}
use Rattle.std.specs.Prelude.{Option, Some, None}
use Rattle.ground.specs.Limits.{most_title}
use Rattle.ground.proofs.Cases.{here, past, true_or, and_left, and_right, and_both}
use Rattle.catalogue_tables.specs.Tables.{group_count, first_track_of, tracks_in, end_of, starts_of}
use Rattle.player_walk.specs.Signed.{signed_word, is_negative}
use Rattle.player_walk.specs.declared.Step.{Step}
use Rattle.player_walk.specs.declared.Step.TheVariants.{Previous, Next, First, Last, Goto}
use Rattle.player_orders.proofs.Laws.{move_in_run, entry_in_run}
use Rattle.player_groups.specs.Family.{Current}
use Rattle.player_groups.proofs.Laws.{stays_current}
use Rattle.player_segments.proofs.Laws.{move_within}
use Rattle.player_opcodes.specs.Opcodes.{action_of}
use Rattle.player_opcodes.specs.declared.Action.{Action}
use Rattle.player_opcodes.specs.declared.Action.TheVariants.{Play, Pause, Rewind, Forward, Stop, Relative, Segment, Track, Group, Unknown}
use Rattle.player_clock.specs.Clock.{rest_rule}
use Rattle.player_clock.proofs.Steps.{step_leaves}
use Rattle.player_state.specs.declared.Mode.{Mode}
use Rattle.player_state.specs.declared.Player.{Player}
use Rattle.player_state.specs.Player.{inactive, playing, paused, seeking, is_active, with_mode, unnamed, naming, is_on, clocked_to, at_position, at_place, in_mode, started_player, renamed, deactivated, with_order, with_speed}
use Rattle.player_state.specs.Modes.{rungs, rung_up, rung_down, forwarded, rewound, moved_to}
use Rattle.player_check.specs.Standing.{text_rule, mode_rule, member, in_group, upcoming_rule, player_rule}
use Rattle.player_check.proofs.Laws as laws
use Rattle.player_moves.specs.Moves.{end_now, running_now, past_last, segment_after, track_after, next_track, group_after, entry_of, Shaped}
use Rattle.player_moves.specs.Control.{entered, track_reached, used, track_moved, acted, controlled}
use Rattle.player_moves.specs.Clock.{clock_step, stays_below, after_end, played_on, sought_on, advanced, positioned, track_written, group_written, activated_on, activated}
use Rattle.player_moves.proofs.Ready as ready
use Rattle.player_moves.proofs.Choices.{by_test, by_found, by_segment, by_control, active_above}
use Rattle.player_moves.proofs.Named.{next_named, next_ordered}
use Rattle.player_moves.proofs.Past.{past_end}
use Rattle.player_moves.proofs.Held.{held_within, written_within, sought_within, up_rung, down_rung}

add_one_less : (t : ℕ) → t + 1 - 1 ≡ t
add_one_less t = omega arith

-- the track that was found; so that what is found once is one track
abbrev reading : ℕ → Option ℕ → ℕ
reading none (Some t) = t
reading none None = none

at_one : {t u : ℕ} → Some u ≡ Some t → u ≡ t
at_one e = ap (reading 0) e

pub started : (groups tracks name : List ℕ) (mask ccid : ℕ) → text_rule name ≡ true → player_rule groups tracks (started_player name mask ccid) ≡ true
unfolding started_player
started groups tracks name mask ccid h =
    let q = started_player name mask ccid in
    laws.stands groups tracks q (laws.name_stands name (replicate most_title 0) h)
    (laws.mode_stands q.mode (omega arith) (omega arith) (omega arith) (λ e. omega arith) refl)
    (laws.no_place_stands groups tracks q refl refl refl refl)
    (laws.none_stands groups tracks q refl) refl

module _ (groups tracks : List ℕ) where
  abbrev Stands : Player → Type 0
  Stands q = player_rule groups tracks q ≡ true

  -- g is a group of the catalogue and t a track of it
  record Found (g t : ℕ) : Type 0 where
    pub exists : g < group_count groups
    pub from : first_track_of groups g ≤ t
    pub to : t < first_track_of groups g + tracks_in groups g

  in_found : (g t : ℕ) → in_group groups g t ≡ true → Found g t
  in_found g t within =
      let start = and_left (ltb g (group_count groups) && leb (first_track_of groups g) t) _ within in
      record {
        exists = ltb-true _ _ (and_left (ltb g (group_count groups)) _ start);
        from = leb-true _ _ (and_right (ltb g (group_count groups)) _ start);
        to = ltb-true _ _ (and_right (ltb g (group_count groups) && leb (first_track_of groups g) t) _ within);
      }

  module _ (p : Player) (right : Stands p) where
    -- a mode outside Seeking, and one in it
    calm : (media : ℕ) → media ≤ 2 → mode_rule (in_mode media 0 p).mode ≡ true
    calm media h =
        laws.mode_stands (in_mode media 0 p).mode (omega arith) (laws.order_from groups tracks p right) (laws.order_to groups tracks p right)
        (λ e. omega arith) refl

    fast : (speed : ℕ) → member speed rungs ≡ true → mode_rule (in_mode seeking speed p).mode ≡ true
    fast speed h =
        laws.seeking_stands (in_mode seeking speed p).mode (omega arith) (laws.order_from groups tracks p right) (laws.order_to groups tracks p right)
        refl h

    -- an order and a playback speed beside the rest
    set_by : (order speed : ℕ) → 1 ≤ order → order ≤ 8 → mode_rule (with_speed speed (with_order order p)).mode ≡ true
    set_by order speed low high =
        let m = (with_speed speed (with_order order p)).mode in
        ⊎_elim
        (λ t. laws.seeking_stands m (laws.few_states groups tracks p right) low high (eqb-true _ _ t) (laws.speed_rung groups tracks p right (eqb-true _ _ t)))
        (λ t. laws.mode_stands m (laws.few_states groups tracks p right) low high (eqb-false _ _ t) (laws.speed_none groups tracks p right (eqb-false _ _ t)))
        (true_or (eqb p.mode.media seeking))

    -- a track that is named stays right in an active mode, as long as the group stays
    next_stands : (active : Bool) → active ≡ true → (g : ℕ) → g ≡ p.place.group.0 → upcoming_rule groups active g p.upcoming ≡ true
    unfolding upcoming_rule
    next_stands active on g e =
        ⊎_elim
        (λ t. sym (here _ t refl))
        (λ t. sym (past _ t (sym (and_both on (rw e (laws.named_within groups tracks p right (eqb-false _ _ t)))))))
        (true_or (eqb p.upcoming 0))

    -- at a track of a group, at a position up to the end
    at_stands : (m : Mode) → mode_rule m ≡ true → 0 < m.media → (g t x : ℕ) → Found g t → x ≤ end_of tracks t → Stands (at_place g t x (with_mode m p))
    at_stands m h active g t x f held =
        let q = at_place g t x (with_mode m p) in
        laws.stands groups tracks q (laws.name_kept groups tracks p right) h (laws.place_stands groups tracks q active f.exists f.from f.to held)
        (by_test (λ n. upcoming_rule groups (ltb inactive m.media) g n ≡ true) (is_on g t p) p.upcoming 0
        (λ e. next_stands (ltb inactive m.media) (lt-ltb inactive m.media active) g (sym (eqb-true _ _ (and_left (eqb p.place.group.0 g) _ e))))
        (λ e. laws.none_stands groups tracks (unnamed q) refl)) refl

    -- where it is, in an active mode, at a position up to the end and with a rest of the clock
    stay_stands : 0 < p.mode.media → (m : Mode) → mode_rule m ≡ true → 0 < m.media → (x r : ℕ) → x ≤ end_now tracks p → rest_rule r ≡ true
        → Stands (clocked_to x r (with_mode m p))
    stay_stands was m h active x r held rests =
        let q = clocked_to x r (with_mode m p) in
        laws.stands groups tracks q (laws.name_kept groups tracks p right) h
        (laws.place_stands groups tracks q active (laws.group_exists groups tracks p right was) (laws.track_from groups tracks p right was) (laws.track_to groups tracks p right was) held)
        (next_stands (ltb inactive m.media) (lt-ltb inactive m.media active) _ refl) rests

    -- no track is named
    pub kept_unnamed : Stands (unnamed p)
    kept_unnamed =
        laws.stands groups tracks (unnamed p) (laws.name_kept groups tracks p right) (laws.mode_kept groups tracks p right) (laws.place_kept groups tracks p right)
        (laws.none_stands groups tracks (unnamed p) refl) (laws.rest_kept groups tracks p right)

    pub kept_deactivated : Stands (deactivated p)
    kept_deactivated =
        laws.stands groups tracks (deactivated p) (laws.name_kept groups tracks p right) (calm 0 (omega arith))
        (laws.no_place_stands groups tracks (deactivated p) refl refl refl refl)
        (laws.none_stands groups tracks (deactivated p) refl) refl

    -- a track of the current group is named
    pub kept_naming : (t : ℕ) → 0 < p.mode.media → in_group groups p.place.group.0 t ≡ true → Stands (naming t p)
    kept_naming t active within =
        laws.stands groups tracks (naming t p) (laws.name_kept groups tracks p right) (laws.mode_kept groups tracks p right) (laws.place_kept groups tracks p right)
        (laws.named_stands groups tracks (naming t p) active (λ e. omega arith) (rw (add_one_less t) within)) (laws.rest_kept groups tracks p right)

    pub kept_order : (order : ℕ) → 1 ≤ order → order ≤ 8 → Stands (with_order order p)
    kept_order order low high =
        laws.stands groups tracks (with_order order p) (laws.name_kept groups tracks p right) (set_by order p.mode.speed low high)
        (laws.place_kept groups tracks p right) (laws.next_kept groups tracks p right) (laws.rest_kept groups tracks p right)

    pub kept_speed : (speed : ℕ) → Stands (with_speed speed p)
    kept_speed speed =
        laws.stands groups tracks (with_speed speed p) (laws.name_kept groups tracks p right)
        (set_by p.mode.order speed (laws.order_from groups tracks p right) (laws.order_to groups tracks p right))
        (laws.place_kept groups tracks p right) (laws.next_kept groups tracks p right) (laws.rest_kept groups tracks p right)

    pub kept_renamed : (name : List ℕ) → text_rule name ≡ true → Stands (renamed name p)
    unfolding renamed
    kept_renamed name h =
        laws.stands groups tracks (renamed name p) (laws.name_stands name p.name.octets h) (laws.mode_kept groups tracks p right)
        (laws.place_kept groups tracks p right) (laws.next_kept groups tracks p right) (laws.rest_kept groups tracks p right)

    module _ (active : 0 < p.mode.media) where
      in_stands : (m : Mode) → mode_rule m ≡ true → 0 < m.media → Stands (with_mode m p)
      in_stands m h above = stay_stands active m h above p.place.position.0 p.place.rest (laws.position_held groups tracks p right active) (laws.rest_kept groups tracks p right)

      clocked_stands : (x r : ℕ) → x ≤ end_now tracks p → rest_rule r ≡ true → Stands (clocked_to x r p)
      clocked_stands x r h rests = stay_stands active p.mode (laws.mode_kept groups tracks p right) active x r h rests

      position_stands : (x : ℕ) → x ≤ end_now tracks p → Stands (at_position x p)
      position_stands x h = clocked_stands x 0 h refl

      moved_stands : (g t : ℕ) → Found g t → Stands (moved_to g t p)
      unfolding moved_to
      moved_stands g t f =
          by_test (λ q. Stands (at_place g t 0 q)) (eqb p.mode.media seeking) (in_mode playing 0 p) p
          (λ e. at_stands (in_mode playing 0 p).mode (calm 1 (omega arith)) (omega arith) g t 0 f (omega arith))
          (λ e. at_stands p.mode (laws.mode_kept groups tracks p right) active g t 0 f (omega arith))

      forward_stands : Stands (forwarded p)
      unfolding forwarded
      forward_stands =
          by_test (λ speed. Stands (in_mode seeking speed p)) (eqb p.mode.media seeking) (rung_up p.mode.seeking) 4
          (λ e. in_stands _ (fast _ (up_rung _ (laws.speed_rung groups tracks p right (eqb-true _ _ e)))) (omega arith))
          (λ e. in_stands _ (fast 4 refl) (omega arith))

      rewind_stands : Stands (rewound p)
      unfolding rewound
      rewind_stands =
          by_test (λ speed. Stands (in_mode seeking speed p)) (eqb p.mode.media seeking) (rung_down p.mode.seeking) 0xFC
          (λ e. in_stands _ (fast _ (down_rung _ (laws.speed_rung groups tracks p right (eqb-true _ _ e)))) (omega arith))
          (λ e. in_stands _ (fast 0xFC refl) (omega arith))

    pub kept_positioned : (number : ℕ) → Stands (positioned tracks number p)
    unfolding positioned
    kept_positioned number =
        by_test Stands (is_active p) _ p
        (λ a. by_test Stands (running_now tracks p && is_negative (signed_word number)) p _
        (λ t. right)
        (λ t. position_stands (active_above p a) _ (written_within (end_now tracks p) (signed_word number))))
        (λ a. right)

  module _ (segments : List ℕ) (s : Shaped groups tracks segments) where
    -- the entry to a group that is there and has tracks
    entry_found : (order g t : ℕ) → Current groups g → entry_of groups tracks order g ≡ Some t → Found g t
    unfolding entry_of
    entry_found order g t c e =
        let r = entry_in_run order tracks (length tracks) (first_track_of groups g) (tracks_in groups g) (ready.current_run groups tracks segments s g c) c.used t e in
        record { exists = c.there; from = r.0; to = r.1 }

    module _ (p : Player) (right : Stands p) where
      module _ (active : 0 < p.mode.media) where
        track_found_lem : (step : Step) (t : ℕ) → track_after groups tracks step p ≡ Some t → Found p.place.group.0 t
        unfolding track_after
        track_found_lem step t e =
            let g = p.place.group.0 in
            let r =
            move_in_run p.mode.order tracks (length tracks) (first_track_of groups g) (tracks_in groups g) p.place.track.0
            (ready.seated groups tracks segments s p right active) step t e in
            record { exists = laws.group_exists groups tracks p right active; from = r.0; to = r.1 }

        -- the next track, and where any track move leads; what that leaves of the name
        next_found : (t : ℕ) → next_track groups tracks p ≡ Some t → Found p.place.group.0 t
        next_found t e =
            ⊎_elim
            (λ z. track_found_lem Next t (sym (next_ordered groups tracks p (eqb-true _ _ z)) ∙ e))
            (λ z.
            let some = eqb-false p.upcoming 0 z in
            let one : p.upcoming - 1 ≡ t = at_one (sym (next_named groups tracks p some) ∙ e) in
            in_found p.place.group.0 t (rw (sym one) (laws.named_within groups tracks p right some)))
            (true_or (eqb p.upcoming 0))

        reached_found : (step : Step) (t : ℕ) → track_reached groups tracks step p ≡ Some t → Found p.place.group.0 t
        reached_found Next t e = next_found t e
        reached_found Previous t e = track_found_lem Previous t e
        reached_found First t e = track_found_lem First t e
        reached_found Last t e = track_found_lem Last t e
        reached_found (Goto n) t e = track_found_lem (Goto n) t e

        used_stands : (step : Step) → Stands (used step p)
        used_stands Next = kept_unnamed p right
        used_stands Previous = right
        used_stands First = right
        used_stands Last = right
        used_stands (Goto n) = right

        segment_within : (step : Step) (x : ℕ) → segment_after tracks segments step p ≡ Some x → x ≤ end_now tracks p
        unfolding segment_after
        segment_within step x e =
            move_within step (starts_of tracks segments p.place.track.0) (past_last tracks p.place.track.0) (end_now tracks p) p.place.position.0 x
            (ready.below_now groups tracks segments s p right active) (past_end tracks p.place.track.0) (laws.position_held groups tracks p right active) e

        group_current : (step : Step) (g : ℕ) → group_after groups step p ≡ Some g → Current groups g
        unfolding group_after
        group_current step g e = stays_current step groups p.place.group.0 g (ready.current groups tracks segments s p right active) e

        group_entered : (g : ℕ) → Current groups g → Stands (entered groups tracks p g).player
        group_entered g c =
            by_found (λ c. Stands c.player) (entry_of groups tracks p.mode.order g) _ p
            (λ t i. moved_stands p right active g t (entry_found p.mode.order g t c i)) right

        kept_acted : (a : Action) → Stands (acted groups tracks segments a p).player
        unfolding acted track_moved
        kept_acted Play = in_stands p right active _ (calm p right 1 (omega arith)) (omega arith)
        kept_acted Pause = in_stands p right active _ (calm p right 2 (omega arith)) (omega arith)
        kept_acted Rewind = rewind_stands p right active
        kept_acted Forward = forward_stands p right active
        kept_acted Stop = stay_stands p right active (in_mode paused 0 p).mode (calm p right 2 (omega arith)) (omega arith) 0 0 (omega arith) refl
        kept_acted (Relative n) = position_stands p right active _ (held_within (end_now tracks p) p.place.position.0 (signed_word n))
        kept_acted (Segment step) =
            by_segment (λ c. Stands c.player) tracks segments step p right (λ x e. position_stands p right active x (segment_within step x e)) right
        kept_acted (Track step) =
            by_found (λ c. Stands c.player) (track_reached groups tracks step p) _ p
            (λ t e. moved_stands (used step p) (used_stands step) active _ t (reached_found step t e)) right
        kept_acted (Group step) =
            by_found (λ c. Stands c.player) (group_after groups step p) (entered groups tracks p) p
            (λ g e. group_entered g (group_current step g e))
            right
        kept_acted Unknown = right

        kept_after : (near : Option ℕ) → next_track groups tracks p ≡ near → Stands (after_end tracks near p)
        kept_after (Some t) e =
            at_stands (unnamed p) (kept_unnamed p right) p.mode (laws.mode_kept groups tracks p right) active _ t 0 (reached_found Next t e) (omega arith)
        kept_after None e =
            stay_stands p right active (in_mode paused 0 p).mode (calm p right 2 (omega arith)) (omega arith) (end_now tracks p) 0 (omega arith) refl

        kept_played_on : (d : ℕ) → Stands (played_on groups tracks d p)
        unfolding played_on
        kept_played_on d =
            by_test Stands (stays_below tracks d p) _ _
            (λ t. clocked_stands p right active _ _ (omega (arith, ltb-true (p.place.position.0 + (clock_step d p).whole) (end_now tracks p) t))
            (step_leaves p.place.rest d p.mode.speed))
            (λ t. by_test Stands (running_now tracks p) _ _
            (λ r. clocked_stands p right active _ _ (omega arith) (laws.rest_kept groups tracks p right))
            (λ r. kept_after (next_track groups tracks p) refl))

        kept_sought_on : (d : ℕ) → Stands (sought_on tracks d p)
        unfolding sought_on
        kept_sought_on d = position_stands p right active _ (sought_within (end_now tracks p) p.place.position.0 p.mode.seeking d)

        -- a write goes to a track of the current group
        pub kept_track : (t : ℕ) → in_group groups p.place.group.0 t ≡ true → Stands (track_written t p)
        unfolding track_written
        kept_track t within = moved_stands p right active _ t (in_found p.place.group.0 t within)

        -- or to a group that has tracks
        pub kept_group : (g : ℕ) → Current groups g → Stands (group_written groups tracks g p)
        unfolding group_written
        kept_group g c = group_entered g c

      pub kept_controlled : (opcode number : ℕ) → Stands (controlled groups tracks segments opcode number p).player
      kept_controlled opcode number =
          by_control (λ c. Stands c.player) groups tracks segments opcode number p (λ n. right) (λ y n. right)
          (λ y a. kept_acted (active_above p a) (action_of opcode number))

      pub kept_advanced : (d : ℕ) → Stands (advanced groups tracks d p)
      unfolding advanced
      kept_advanced d =
          by_test Stands (eqb p.mode.media playing) _ _
          (λ e. kept_played_on (omega (arith, eqb-true p.mode.media playing e)) d)
          (λ n. by_test Stands (eqb p.mode.media seeking) _ _ (λ e. kept_sought_on (omega (arith, eqb-true p.mode.media seeking e)) d) (λ m. right))

      kept_on : (g : ℕ) (near : Option ℕ) → Current groups g → entry_of groups tracks p.mode.order g ≡ near → Stands (activated_on g near p)
      kept_on g (Some t) c e =
          at_stands p right (in_mode paused 0 p).mode (calm p right 2 (omega arith)) (omega arith) g t 0 (entry_found p.mode.order g t c e) (omega arith)
      kept_on g None c e = right

      pub kept_activated : (g : ℕ) → g < group_count groups → 0 < tracks_in groups g → Stands (activated groups tracks g p)
      unfolding activated
      kept_activated g there used =
          kept_on g (entry_of groups tracks p.mode.order g) (record { few = s.few_groups; there = there; used = used }) refl
