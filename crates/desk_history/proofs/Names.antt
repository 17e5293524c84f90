-- What any call makes of a track that is named to come next (SCOPE 14.5 to 14.7), with any arguments and in any state: a call that ends elsewhere leaves no
-- name; one that ends where it began leaves the name as it was, unless it is one of those that may set, use or drop it; and Next Track and the end of a track
-- use it once. Assumes nothing.
use mathlib.Core.Path.{◌≡◌, refl, sym, ap, ◌∙◌, subst}
use mathlib.Core.Bool.{Bool, true, false, not, ◌&&◌, ◌||◌}
use mathlib.Core.Logic.{⊎_elim}
use mathlib.Core.List.{List}
use Prim.Native.Nat.{ℕ, suc}
use borrow.Author.Tests.{eq-eqb, eqb-true, not-true}
use lib.Dec.{eqb, leb}
use Rattle.ground.specs.Cases.{pick}
use Rattle.ground.specs.Words.{word_at}
use Rattle.ground.specs.Refusals.{accepted}
use Rattle.ground.proofs.Cases.{past, true_or, clash, and_left, and_right, and_both}
use Rattle.catalogue_titles.specs.Lent.{Lent, catalogue_of}
use Rattle.player_walk.specs.declared.Step.TheVariants.{Next}
use Rattle.player_opcodes.specs.Opcodes.{offered, step_of, action_of}
use Rattle.player_state.specs.declared.Player.{Player}
use Rattle.player_state.specs.Player.{playing, is_active, unnamed, at_place, renamed, deactivated}
use Rattle.player_state.specs.Modes.{moved_to}
use Rattle.player_moves.specs.declared.Controlled.{Controlled}
use Rattle.player_moves.specs.Moves.{running_now}
use Rattle.player_moves.specs.Control.{success, track_moved, is_next_track, acted, controlled}
use Rattle.player_moves.specs.Clock.{stays_below, advanced, activated}
use Rattle.player_moves.proofs.Choices.{by_test}
use Rattle.player_moves.proofs.Names.{Keeps, on_its_own, stays, kept_here, kept_elsewhere, renamed_keeps, order_keeps, speed_keeps, positioned_keeps, track_keeps, group_keeps, activated_keeps, next_uses, next_once, end_uses, end_once, advanced_keeps, advanced_elsewhere, controlled_keeps, controlled_elsewhere}
use Rattle.desk_slots.specs.Slots.{client_count, slot_of, service_of, slot_at}
use Rattle.desk_notices.specs.Owed.{no_writer, by_writer}
use Rattle.desk_console.specs.Console.{name_rows, activate_rows, service_rows, quiet_advance}
use Rattle.desk_exchange.specs.Write.{first_octet, number_of, track_at, group_at, player_written}
use Rattle.desk_history.specs.Calls.{Call, set_name, activate, deactivate, advance, connect, disconnect, subscribe, unsubscribe, read, write, take}
use Rattle.desk_history.specs.Ledger.{Line, Book, Ledger, line_of, no_line, in_service, changing, relinking, becoming, joining, leaving, reading, serving, next_in, place_in, serving_at, may_connect, may_leave, may_join, may_read, may_write, may_take, outcome, control_writing, writing, after}
use Rattle.desk_history.specs.Apart.{To, naming, activating, deactivating, advancing, writing as writing-to}
use Rattle.desk_history.specs.Names.{ends_track, may_touch_name, ends_here, UsesName}

-- ---- what a call makes of the player of the service to which it goes, where it is accepted
abbrev made : Lent → Call → Player → Player
made k (set_name v name) p = renamed name p
made k (activate v g) p = activated k.groups k.tracks g p
made k (deactivate v) p = deactivated p
made k (advance v step) p = advanced k.groups k.tracks step p
made k (connect who mtu encrypted) p = p
made k (disconnect who) p = p
made k (subscribe who v c) p = p
made k (unsubscribe who v c) p = p
made k (read who v c offset room) p = p
made k (write who v c value) p =
    pick (eqb c 18) (controlled k.groups k.tracks k.segments (first_octet value) (number_of value) p).player (player_written (catalogue_of k) p c value)
made k (take room) p = p

-- of the player of service v after a call, what holds of it before, and of what the call makes of it where it goes to this service
module _ (k : Lent) (L : Ledger) (v : ℕ) (P : Player → Type 0) (was : P (L.service v).player) where
  in_service_lem : (t : Bool) (w : ℕ) (f : Book → Book) → (v ≡ w → P (f (L.service v)).player) → P ((pick t (in_service w f L) L).service v).player
  in_service_lem true w f new = at (eqb v w) refl
    where
      at : (u : Bool) → eqb v w ≡ u → P (pick u (f (L.service v)) (L.service v)).player
      at true e = new (eqb-true v w e)
      at false e = was
  in_service_lem false w f new = was

  in_links : (t : Bool) (who : ℕ) (line : Line) → P ((pick t (relinking who line L) L).service v).player
  in_links true who line = was
  in_links false who line = was

  in_take : (t u : Bool) (who place : ℕ) → P ((pick t (pick u L (serving_at L who place)) L).service v).player
  in_take true true who place = was
  in_take true false who place = at (eqb v (service_of place))
    where
      at : (x : Bool) → P (pick x (changing who (serving (slot_at place)) (L.service v)) (L.service v)).player
      at true = was
      at false = was
  in_take false u who place = was

  by_call : (call : Call) → (To v call → P (made k call (L.service v).player)) → P ((after k call L).service v).player
  by_call (set_name w name) new =
      in_service_lem (accepted (name_rows w name)) w (λ b. becoming k (no_writer false) (renamed name b.player) b)
      (λ e. new (subst (λ (x : ℕ). To x (set_name w name)) (sym e) (naming name)))
  by_call (activate w g) new =
      in_service_lem (accepted (activate_rows k w g)) w (λ b. becoming k (no_writer false) (activated k.groups k.tracks g b.player) b)
      (λ e. new (subst (λ (x : ℕ). To x (activate w g)) (sym e) (activating g)))
  by_call (deactivate w) new =
      in_service_lem (accepted (service_rows w)) w (λ b. becoming k (no_writer false) (deactivated b.player) b)
      (λ e. new (subst (λ (x : ℕ). To x (deactivate w)) (sym e) deactivating))
  by_call (advance w step) new =
      in_service_lem (accepted (service_rows w)) w
      (λ b. becoming k (no_writer (quiet_advance k.tracks step b.player)) (advanced k.groups k.tracks step b.player) b)
      (λ e. new (subst (λ (x : ℕ). To x (advance w step)) (sym e) (advancing step)))
  by_call (connect who mtu encrypted) new = in_links (may_connect L who mtu) who (line_of true encrypted mtu)
  by_call (disconnect who) new = in_links (may_leave L who) who no_line
  by_call (subscribe who w c) new = in_service_lem (may_join L who w c) w (changing who (joining (slot_of c))) (λ e. was)
  by_call (unsubscribe who w c) new = in_service_lem (may_join L who w c) w (changing who (leaving (slot_of c))) (λ e. was)
  by_call (read who w c offset room) new = in_service_lem (may_read k L who w c offset room) w (changing who (reading c offset)) (λ e. was)
  by_call (write who w c value) new =
      in_service_lem (may_write k L who w c value) w (writing k who c value)
      (λ e. either (eqb c 18) (new (subst (λ (x : ℕ). To x (write who w c value)) (sym e) (writing-to who c value))))
    where
      b : Book
      b = L.service v

      either : (t : Bool) → P (pick t (outcome k b value).player (player_written (catalogue_of k) b.player c value))
          → P (pick t (control_writing k who value b) (becoming k (by_writer who c) (player_written (catalogue_of k) b.player c value) b)).player
      either true h = h
      either false h = h
  by_call (take room) new = in_take (may_take room) (leb client_count (next_in L)) (next_in L) (place_in L (next_in L))

-- ---- no track is named where a call ends elsewhere
module _ (p : Player) where
  abbrev NoneElsewhere : Player → Type 0
  NoneElsewhere q = ends_here p q ≡ false → q.upcoming ≡ 0

pub neither : (a b : Bool) → (a || b) ≡ false → (a ≡ false) × (b ≡ false)
neither true b e = clash (sym e)
neither false b e = (refl, e)

module _ (k : Lent) (p : Player) where
  -- a write to anything but 12 and 18
  written_keeps : (c : ℕ) (value : List ℕ) → eqb c 12 ≡ false → Keeps p (player_written (catalogue_of k) p c value)
  unfolding player_written
  written_keeps c value other =
      by_test (Keeps p) (eqb c 7) _ _ (λ e. positioned_keeps p k.tracks (word_at value 0))
      (λ n7. by_test (Keeps p) (eqb c 8) _ _ (λ e. speed_keeps p (first_octet value))
      (λ n8. by_test (Keeps p) (eqb c 11) _ _ (λ e. track_keeps p (track_at value))
      (λ n11. by_test (Keeps p) (eqb c 12) _ _ (λ e. clash (sym other ∙ e))
      (λ n12. by_test (Keeps p) (eqb c 14) _ _ (λ e. group_keeps p k.groups k.tracks (group_at value)) (λ n14. order_keeps p (first_octet value))))))

  written_elsewhere : (c : ℕ) (value : List ℕ) → NoneElsewhere p (player_written (catalogue_of k) p c value)
  unfolding player_written
  written_elsewhere c value =
      ⊎_elim
      (λ e. subst (λ (x : ℕ). NoneElsewhere p (player_written (catalogue_of k) p x value)) (sym (eqb-true c 12 e)) (λ off. clash (sym off ∙ on_its_own p)))
      (λ n. kept_elsewhere p (player_written (catalogue_of k) p c value) (written_keeps c value n))
      (true_or (eqb c 12))

  still : NoneElsewhere p p
  still = kept_elsewhere p p (stays p)

  made_elsewhere : (call : Call) → NoneElsewhere p (made k call p)
  made_elsewhere (set_name v name) = kept_elsewhere p (renamed name p) (renamed_keeps p name)
  made_elsewhere (activate v g) = kept_elsewhere p (activated k.groups k.tracks g p) (activated_keeps p k.groups k.tracks g)
  made_elsewhere (deactivate v) = λ off. refl
  made_elsewhere (advance v step) = advanced_elsewhere p k.groups k.tracks step
  made_elsewhere (connect who mtu encrypted) = still
  made_elsewhere (disconnect who) = still
  made_elsewhere (subscribe who v c) = still
  made_elsewhere (unsubscribe who v c) = still
  made_elsewhere (read who v c offset room) = still
  made_elsewhere (write who v c value) =
      by_test (NoneElsewhere p) (eqb c 18) _ _
      (λ e. controlled_elsewhere p k.groups k.tracks k.segments (first_octet value) (number_of value))
      (λ n. written_elsewhere c value)
  made_elsewhere (take room) = still

  made_keeps : (call : Call) → may_touch_name k call p ≡ false → Keeps p (made k call p)
  made_keeps (set_name v name) none = renamed_keeps p name
  made_keeps (activate v g) none = activated_keeps p k.groups k.tracks g
  made_keeps (deactivate v) none = clash (sym none)
  made_keeps (advance v step) none =
      advanced_keeps p k.groups k.tracks step
      (λ plays ends runs. clash (sym none ∙ and_both (and_both (eq-eqb p.mode.media playing plays) (ap not ends)) (ap not runs)))
  made_keeps (connect who mtu encrypted) none = stays p
  made_keeps (disconnect who) none = stays p
  made_keeps (subscribe who v c) none = stays p
  made_keeps (unsubscribe who v c) none = stays p
  made_keeps (read who v c offset room) none = stays p
  made_keeps (write who v c value) none =
      let next = is_next_track (action_of (first_octet value) (number_of value)) in
      let both = neither (eqb c 12) (eqb c 18 && next) none in
      by_test (Keeps p) (eqb c 18) _ _
      (λ e. controlled_keeps p k.groups k.tracks k.segments (first_octet value) (number_of value) (sym (λ i. e i && next) ∙ both.1))
      (λ n. written_keeps c value both.0)
  made_keeps (take room) none = stays p

module _ (k : Lent) (L : Ledger) (v : ℕ) where
  abbrev before : Player
  before = (L.service v).player

  abbrev afterwards : Call → Player
  afterwards call = ((after k call L).service v).player

  -- ---- SCOPE 14.6: "A call that ends on another track or group than it began on drops the name"
  pub ended_elsewhere : (call : Call) → ends_here before (afterwards call) ≡ false → (afterwards call).upcoming ≡ 0
  ended_elsewhere call = by_call k L v (NoneElsewhere before) (still k before) call (λ to. made_elsewhere k before call)

  -- ---- any other call leaves it, but for those to this service that may set, use or drop it
  pub ended_here : (call : Call) → (To v call → may_touch_name k call before ≡ false) → ends_here before (afterwards call) ≡ true
      → (afterwards call).upcoming ≡ before.upcoming
  ended_here call none =
      by_call k L v (λ q. ends_here before q ≡ true → q.upcoming ≡ before.upcoming) (λ on. refl) call
      (λ to. kept_here before (made k call before) (made_keeps k before call (none to)))

  -- ---- SCOPE 14.5: "Next Track and the end of a track go to the named track once"
  -- the player of a service to which an accepted call goes
  accepted_in : {t : Bool} → t ≡ true → (f : Book → Book) → ((pick t (in_service v f L) L).service v).player ≡ (f (L.service v)).player
  accepted_in may f =
      (λ i. ((pick (may i) (in_service v f L) L).service v).player) ∙ (λ i. (pick (eq-eqb v v refl i) (f (L.service v)) (L.service v)).player)

  module _ (t : ℕ) (named : before.upcoming ≡ suc t) where
    -- Next Track, 0x31, where it is offered and the player is active: the result is Success
    pub used_once_next : (who : ℕ) (value : List ℕ) → may_write k L who v 18 value ≡ true → first_octet value ≡ 0x31
        → offered before.offer.mask 0x31 ≡ true → is_active before ≡ true
        → UsesName t before (afterwards (write who v 18 value)) × ((outcome k (L.service v) value).result ≡ 1)
    unfolding controlled acted action_of step_of moved_to
    used_once_next who value may opcode on active = (
      record {
        place = ap (λ (p : Player). p.place) (written ∙ ap (λ (c : Controlled). c.player) uses);
        upcoming = ap (λ (p : Player). p.upcoming) (written ∙ ap (λ (c : Controlled). c.player) moved) ∙ next_once before k.groups k.tracks t named;
      },
      ap (λ (c : Controlled). c.result) uses,
    )
      where
        moved : outcome k (L.service v) value ≡ track_moved k.groups k.tracks Next before
        moved =
            ap (λ (o : ℕ). controlled k.groups k.tracks k.segments o (number_of value) before) opcode
            ∙ sym (past _ (ap not on) (past _ (ap not active) refl))

        uses : outcome k (L.service v) value ≡ success (moved_to before.place.group.0 t (unnamed before))
        uses = moved ∙ next_uses before k.groups k.tracks t named

        written : afterwards (write who v 18 value) ≡ (outcome k (L.service v) value).player
        written = accepted_in may (writing k who 18 value)

    -- the end of a track, in Playing: it goes on Playing
    pub used_once_end : (step : ℕ) → accepted (service_rows v) ≡ true → ends_track k step before ≡ true
        → UsesName t before (afterwards (advance v step)) × ((afterwards (advance v step)).mode.media ≡ playing)
    used_once_end step may ends = (
      record {
        place = ap (λ (p : Player). p.place) uses;
        upcoming = ap (λ (p : Player). p.upcoming) stepped ∙ end_once before k.groups k.tracks step t plays over runs named;
      },
      ap (λ (p : Player). p.mode.media) uses ∙ plays,
    )
      where
        both : (eqb before.mode.media playing && not (stays_below k.tracks step before)) ≡ true
        both = and_left _ (not (running_now k.tracks before)) ends

        plays : before.mode.media ≡ playing
        plays = eqb-true _ _ (and_left (eqb before.mode.media playing) (not (stays_below k.tracks step before)) both)

        over : stays_below k.tracks step before ≡ false
        over = not-true _ (and_right (eqb before.mode.media playing) (not (stays_below k.tracks step before)) both)

        runs : running_now k.tracks before ≡ false
        runs = not-true _ (and_right (eqb before.mode.media playing && not (stays_below k.tracks step before)) (not (running_now k.tracks before)) ends)

        stepped : afterwards (advance v step) ≡ advanced k.groups k.tracks step before
        stepped =
            accepted_in may (λ b. becoming k (no_writer (quiet_advance k.tracks step b.player)) (advanced k.groups k.tracks step b.player) b)

        uses : afterwards (advance v step) ≡ at_place before.place.group.0 t 0 (unnamed before)
        uses = stepped ∙ end_uses before k.groups k.tracks step t plays over runs named
