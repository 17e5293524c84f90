-- What each call leaves alone, and which result the control point gives (SCOPE 9.4). Assumes nothing.
use mathlib.Core.Path.{◌≡◌, refl, sym, ap, ◌∙◌}
use mathlib.Core.Bool.{true, false, ◌&&◌}
use mathlib.Core.Logic.{◌↔◌, ◌⊎◌, inl, inr, ⊎_elim}
use mathlib.Core.List.{List}
use Prim.Native.Nat.{ℕ, ◌+◌, min}
use native.Mathlib.Omega.{arith}
use borrow.Author.Tests.{eq-eqb, ne_eqb, eqb-true, eqb-false, ltb-true, ltb-false, not-true, not-false}
use lib.Dec.{eqb, ltb}
use Rattle.std.specs.Prelude.{Option, Some, None}
use Rattle.ground.specs.Cases.{has, pick}
use Rattle.ground.proofs.Cases.{past, here, and_left, clash, true_or}
use Rattle.player_walk.specs.Signed.{signed_word, is_negative}
use Rattle.player_opcodes.specs.Opcodes.{mask_bit, offered, action_of}
use Rattle.player_opcodes.specs.declared.Action.{Action}
use Rattle.player_opcodes.specs.declared.Action.TheVariants.{Play, Pause, Rewind, Forward, Stop, Relative, Segment, Track, Group, Unknown}
use Rattle.player_opcodes.proofs.Laws.{action_known}
use Rattle.player_state.specs.declared.Name.{Name}
use Rattle.player_state.specs.declared.Offer.{Offer}
use Rattle.player_state.specs.declared.Player.{Player}
use Rattle.player_state.specs.Player.{inactive, playing, seeking, is_active, in_mode, with_name, with_upcoming, clocked_to, at_place, renamed, deactivated, with_order, with_speed}
use Rattle.player_state.specs.Modes.{forwarded, rewound, moved_to}
use Rattle.player_moves.specs.Moves.{end_now, running_now, next_track, group_after, entry_of}
use Rattle.player_moves.specs.Control.{failed, entered, track_reached, left_named, track_moved, acted, controlled}
use Rattle.player_moves.specs.Clock.{clock_step, stays_below, after_end, played_on, sought_on, advanced, positioned, activated_on, activated}
use Rattle.player_moves.specs.declared.Controlled.{Controlled}
use Rattle.player_moves.proofs.Choices.{by_test, by_found, by_segment, by_control}

-- what only a call of its own alters: the name, what is offered, the order and the playback speed
pub record Setting : Type 0 where
  pub name : Name
  pub offer : Offer
  pub order : ℕ
  pub speed : ℕ

abbrev pub setting : Player → Setting
setting p = record { name = p.name; offer = p.offer; order = p.mode.order; speed = p.mode.speed }

-- what an action comes to: success, or result 4 with the player as before
abbrev Ends : Player → Controlled → Type 0
Ends p c = (c.result ≡ 1) ⊎ (c ≡ failed 4 p)

abbrev result : Controlled → ℕ
result c = c.result

abbrev player : Controlled → Player
player c = c.player

-- what the control point says, and when: result 1, or 2, 3, 4 with the player as before
data Answer (p : Player) (opcode : ℕ) (c : Controlled) : Type 0 where
  done : c.result ≡ 1 → offered p.offer.mask opcode ≡ true → is_active p ≡ true → Answer p opcode c
  unoffered : c ≡ failed 2 p → offered p.offer.mask opcode ≡ false → Answer p opcode c
  idle : c ≡ failed 3 p → offered p.offer.mask opcode ≡ true → is_active p ≡ false → Answer p opcode c
  stuck : c ≡ failed 4 p → offered p.offer.mask opcode ≡ true → is_active p ≡ true → Answer p opcode c

module _ (p : Player) where
  abbrev Alike : Player → Type 0
  Alike q = setting q ≡ setting p

  -- with any track named
  moved_setting : (n g t : ℕ) → Alike (moved_to g t (with_upcoming n p))
  unfolding moved_to
  moved_setting n g t =
      by_test (λ q. Alike (at_place g t 0 q)) (eqb p.mode.media seeking) (in_mode playing 0 (with_upcoming n p)) (with_upcoming n p) (λ e. refl) (λ e. refl)

  -- what was changed, put back as it was, gives the player as before
  pub positioned_alone : (tracks : List ℕ) (number : ℕ) → clocked_to p.place.position.0 p.place.rest (positioned tracks number p) ≡ p
  unfolding positioned
  positioned_alone tracks number =
      by_test (λ q. clocked_to p.place.position.0 p.place.rest q ≡ p) (is_active p) _ p
      (λ a. by_test (λ q. clocked_to p.place.position.0 p.place.rest q ≡ p) (running_now tracks p && is_negative (signed_word number)) p _ (λ t. refl) (λ t. refl))
      (λ a. refl)

  pub positioned_idle : (tracks : List ℕ) (number : ℕ) → p.mode.media ≡ inactive → positioned tracks number p ≡ p
  unfolding positioned
  positioned_idle tracks number e = rw (eq-eqb p.mode.media inactive e)

  pub order_alone : (order : ℕ) → with_order p.mode.order (with_order order p) ≡ p
  order_alone order = refl

  pub speed_alone : (speed : ℕ) → with_speed p.mode.speed (with_speed speed p) ≡ p
  speed_alone speed = refl

  pub renamed_alone : (name : List ℕ) → with_name p.name (renamed name p) ≡ p
  unfolding renamed
  renamed_alone name = refl

  pub deactivated_setting : setting (deactivated p) ≡ setting p
  deactivated_setting = refl

  module _ (groups tracks : List ℕ) where
    on_setting : (g : ℕ) (near : Option ℕ) → Alike (activated_on g near p)
    on_setting g (Some t) = refl
    on_setting g None = refl

    pub activated_setting : (g : ℕ) → setting (activated groups tracks g p) ≡ setting p
    unfolding activated
    activated_setting g = on_setting g (entry_of groups tracks p.mode.order g)

    after_setting : (near : Option ℕ) → Alike (after_end tracks near p)
    after_setting (Some t) = refl
    after_setting None = refl

    pub advanced_setting : (d : ℕ) → setting (advanced groups tracks d p) ≡ setting p
    unfolding advanced played_on sought_on
    advanced_setting d =
        by_test Alike (eqb p.mode.media playing) _ _
        (λ e. by_test Alike (stays_below tracks d p) _ _
        (λ t. refl)
        (λ t. by_test Alike (running_now tracks p) _ _ (λ r. refl) (λ r. after_setting (next_track groups tracks p))))
        (λ n. by_test Alike (eqb p.mode.media seeking) _ _ (λ e. refl) (λ m. refl))

    pub advanced_within : (d : ℕ) → p.mode.media ≡ playing → stays_below tracks d p ≡ true
        → advanced groups tracks d p ≡ clocked_to (p.place.position.0 + (clock_step d p).whole) (clock_step d p).rest p
    unfolding advanced played_on
    advanced_within d e h = sym (here _ (eq-eqb _ _ e) (here _ h refl))

    -- A running recording does not end (SCOPE 13.6): its position goes on and is held. Below the end it has the rest of the step, and at the end the rest that
    -- it had. Nothing else changes.
    pub advanced_running : (d : ℕ) → p.mode.media ≡ playing → running_now tracks p ≡ true
        → advanced groups tracks d p
        ≡ clocked_to (min (p.place.position.0 + (clock_step d p).whole) (end_now tracks p)) (pick (stays_below tracks d p) (clock_step d p).rest p.place.rest) p
    unfolding advanced played_on
    advanced_running d e r = sym (here _ (eq-eqb _ _ e) (⊎_elim before at (true_or (stays_below tracks d p))))
      where
        to : ℕ
        to = p.place.position.0 + (clock_step d p).whole

        runs : Player
        runs = clocked_to (min to (end_now tracks p)) (pick (stays_below tracks d p) (clock_step d p).rest p.place.rest) p

        before : stays_below tracks d p ≡ true → runs ≡ played_on groups tracks d p
        before t =
            let m : min to (end_now tracks p) ≡ to = omega (arith, ltb-true to (end_now tracks p) t) in
            let r : pick (stays_below tracks d p) (clock_step d p).rest p.place.rest ≡ (clock_step d p).rest = sym (here _ t refl) in
            here _ t (λ i. clocked_to (m i) (r i) p)

        at : stays_below tracks d p ≡ false → runs ≡ played_on groups tracks d p
        at t =
            let m : min to (end_now tracks p) ≡ end_now tracks p = omega (arith, ltb-false to (end_now tracks p) t) in
            let k : pick (stays_below tracks d p) (clock_step d p).rest p.place.rest ≡ p.place.rest = sym (past _ t refl) in
            past _ t (here _ r (λ i. clocked_to (m i) (k i) p))

    pub advanced_idle : (d : ℕ) → (p.mode.media ≡ playing → ⊥) → (p.mode.media ≡ seeking → ⊥) → advanced groups tracks d p ≡ p
    unfolding advanced
    advanced_idle d n m = sym (past _ (ne_eqb _ _ n) (past _ (ne_eqb _ _ m) refl))

    module _ (segments : List ℕ) where
      acted_setting : (a : Action) → Alike (acted groups tracks segments a p).player
      unfolding acted track_moved forwarded rewound
      acted_setting Play = refl
      acted_setting Pause = refl
      acted_setting Rewind = refl
      acted_setting Forward = refl
      acted_setting Stop = refl
      acted_setting (Relative n) = refl
      acted_setting (Segment step) =
          by_segment (λ c. Alike c.player) tracks segments step p refl (λ x e. refl) refl
      acted_setting (Track step) =
          by_found (λ c. Alike c.player) (track_reached groups tracks step p) _ p (λ t e. moved_setting (left_named step p.upcoming) p.place.group.0 t) refl
      acted_setting (Group step) =
          by_found (λ c. Alike c.player) (group_after groups step p) (entered groups tracks p) p
          (λ g e. by_found (λ c. Alike c.player) (entry_of groups tracks p.mode.order g) _ p (λ t i. moved_setting p.upcoming g t) refl)
          refl
      acted_setting Unknown = refl

      acted_ends : (a : Action) → (a ≡ Unknown → ⊥) → Ends p (acted groups tracks segments a p)
      unfolding acted track_moved
      acted_ends Play known = inl refl
      acted_ends Pause known = inl refl
      acted_ends Rewind known = inl refl
      acted_ends Forward known = inl refl
      acted_ends Stop known = inl refl
      acted_ends (Relative n) known = inl refl
      acted_ends (Segment step) known = by_segment (Ends p) tracks segments step p (inl refl) (λ x e. inl refl) (inr refl)
      acted_ends (Track step) known = by_found (Ends p) (track_reached groups tracks step p) _ p (λ t e. inl refl) (inr refl)
      acted_ends (Group step) known =
          by_found (Ends p) (group_after groups step p) (entered groups tracks p) p
          (λ g e. by_found (Ends p) (entry_of groups tracks p.mode.order g) _ p (λ t i. inl refl) (inr refl))
          (inr refl)
      acted_ends Unknown known = absurd (known refl)

      module _ (opcode number : ℕ) where
        abbrev outcome : Controlled
        outcome = controlled groups tracks segments opcode number p

        pub controlled_setting : setting outcome.player ≡ setting p
        controlled_setting =
            by_control (λ c. Alike c.player) groups tracks segments opcode number p (λ n. refl) (λ y n. refl)
            (λ y a. acted_setting (action_of opcode number))

        -- what is offered has an action
        ends : offered p.offer.mask opcode ≡ true → Ends p (acted groups tracks segments (action_of opcode number) p)
        unfolding offered
        ends y = acted_ends (action_of opcode number) (action_known opcode number (ltb-true _ _ (and_left (ltb (mask_bit opcode) 21) (has p.offer.mask (mask_bit opcode)) y)))

        answer : Answer p opcode outcome
        answer =
            by_control (Answer p opcode) groups tracks segments opcode number p
            (λ n. unoffered refl n)
            (λ y n. idle refl y n)
            (λ y a. ⊎_elim (λ e. done e y a) (λ e. stuck e y a) (ends y))

        pub result_values : (outcome.result ≡ 1) ⊎ ((outcome.result ≡ 2) ⊎ ((outcome.result ≡ 3) ⊎ (outcome.result ≡ 4)))
        result_values = values answer
          where
            values : Answer p opcode outcome → (outcome.result ≡ 1) ⊎ ((outcome.result ≡ 2) ⊎ ((outcome.result ≡ 3) ⊎ (outcome.result ≡ 4)))
            values (done e y a) = inl e
            values (unoffered e n) = inr (inl (ap result e))
            values (idle e y n) = inr (inr (inl (ap result e)))
            values (stuck e y a) = inr (inr (inr (ap result e)))

        pub refused_alone : (outcome.result ≡ 1 → ⊥) → outcome.player ≡ p
        refused_alone refused = before answer
          where
            before : Answer p opcode outcome → outcome.player ≡ p
            before (done e y a) = absurd (refused e)
            before (unoffered e n) = ap player e
            before (idle e y n) = ap player e
            before (stuck e y a) = ap player e

        pub result_two : (outcome.result ≡ 2) ↔ (offered p.offer.mask opcode ≡ false)
        result_two = (two answer, λ n. back n answer)
          where
            two : Answer p opcode outcome → outcome.result ≡ 2 → offered p.offer.mask opcode ≡ false
            two (done e y a) h = absurd (let z : ⊥ = omega arith in z)
            two (unoffered e n) h = n
            two (idle e y n) h = absurd (let z : ⊥ = omega (arith, ap result e) in z)
            two (stuck e y a) h = absurd (let z : ⊥ = omega (arith, ap result e) in z)

            back : offered p.offer.mask opcode ≡ false → Answer p opcode outcome → outcome.result ≡ 2
            back n (done e y a) = clash (sym n ∙ y)
            back n (unoffered e m) = ap result e
            back n (idle e y m) = clash (sym n ∙ y)
            back n (stuck e y a) = clash (sym n ∙ y)

        pub result_three : (outcome.result ≡ 3) ↔ ((offered p.offer.mask opcode ≡ true) × (p.mode.media ≡ inactive))
        result_three = (three answer, λ h. back h.0 h.1 answer)
          where
            three : Answer p opcode outcome → outcome.result ≡ 3 → (offered p.offer.mask opcode ≡ true) × (p.mode.media ≡ inactive)
            three (done e y a) h = absurd (let z : ⊥ = omega arith in z)
            three (unoffered e n) h = absurd (let z : ⊥ = omega (arith, ap result e) in z)
            three (idle e y n) h = (y, eqb-true _ _ (not-false _ n))
            three (stuck e y a) h = absurd (let z : ⊥ = omega (arith, ap result e) in z)

            back : offered p.offer.mask opcode ≡ true → p.mode.media ≡ inactive → Answer p opcode outcome → outcome.result ≡ 3
            back y z (done e w a) = absurd (eqb-false _ _ (not-true _ a) z)
            back y z (unoffered e n) = clash (sym n ∙ y)
            back y z (idle e w n) = ap result e
            back y z (stuck e w a) = absurd (eqb-false _ _ (not-true _ a) z)
