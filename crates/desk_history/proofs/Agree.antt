-- Over every history: the desk stands and agrees with the ledger, and hands out what the ledger says. Assumes nothing.
use mathlib.Core.Path.{◌≡◌, refl, sym, ◌∙◌, subst}
use mathlib.Core.Bool.{true, false, not, ◌&&◌}
use mathlib.Core.List.{List, [], ◌∷◌}
use Prim.Native.Nat.{ℕ, ◌≤◌, ◌<◌}
use native.Mathlib.Omega.{arith}
use Rattle.ground.specs.Cases.{pick}
use Rattle.ground.proofs.Rows.{state_of}
use Rattle.catalogue_titles.specs.Lent.{Lent, lent_rule}
use Rattle.catalogue_titles.proofs.Laws.{rules_kept, renames_kept}
use Rattle.player_check.specs.Standing.{text_rule, player_rule}
use Rattle.player_moves.proofs.Kept.{started}
use Rattle.desk_slots.specs.Slots.{slot_count, client_count, place_of}
use Rattle.desk_slots.proofs.PlaceLaws.{service_of_place, slot_of_place}
use Rattle.desk_client.proofs.Rule.{mtu_least}
use Rattle.desk_state.specs.declared.Desk.{Desk}
use Rattle.desk_state.specs.Desk.{link_at, started_desk}
use Rattle.desk_state.proofs.Laws.{link_stands, start_keeps}
use Rattle.desk_console.specs.Console.{Beginning, freshly, nameless, start_rows, start_call}
use Rattle.desk_history.specs.Calls.{Call, set_name, activate, deactivate, advance, connect, disconnect, subscribe, unsubscribe, read, write, take, left}
use Rattle.desk_history.specs.Ledger.{Ledger, after}
use Rattle.desk_history.specs.Rounds.{prepend, answers, AllKeep}
use Rattle.desk_history.specs.History.{due_out, handed_out, ledger_at, desk_at, given, subscribed_at, Stays}
use Rattle.desk_history.proofs.Agreement.{agree_start}
use Rattle.desk_history.proofs.Steps.{Ok, name_step, activate_step, deactivate_step, advance_step, connect_step, disconnect_step, subscribe_step, unsubscribe_step}
use Rattle.desk_history.proofs.Exchanges.{read_step, write_step}
use Rattle.desk_history.proofs.Taking.{take_step, take_agrees}
use Rattle.desk_history.proofs.LedgerLaws.{InRange, wants_at, ledger_system, laws}

module _ (k : Lent) (right : lent_rule k ≡ true) where
  step : (call : Call) (L : Ledger) (d : Desk) → Ok k L d → Ok k (after k call L) (left k call d).state
  step (set_name v name) L d ok = name_step k right L d ok v name
  step (activate v g) L d ok = activate_step k right L d ok v g
  step (deactivate v) L d ok = deactivate_step k right L d ok v
  step (advance v n) L d ok = advance_step k right L d ok v n
  step (connect who mtu encrypted) L d ok = connect_step k right L d ok who mtu encrypted
  step (disconnect who) L d ok = disconnect_step k right L d ok who
  step (subscribe who v c) L d ok = subscribe_step k right L d ok who v c
  step (unsubscribe who v c) L d ok = unsubscribe_step k right L d ok who v c
  step (read who v c offset room) L d ok = read_step k right L d ok who v c offset room
  step (write who v c value) L d ok = write_step k right L d ok who v c value
  step (take room) L d ok = take_step k right L d ok room

  pub hands : (call : Call) (L : Ledger) (d : Desk) → Ok k L d → handed_out k call d ≡ due_out k call L
  hands (set_name v name) L d ok = refl
  hands (activate v g) L d ok = refl
  hands (deactivate v) L d ok = refl
  hands (advance v n) L d ok = refl
  hands (connect who mtu encrypted) L d ok = refl
  hands (disconnect who) L d ok = refl
  hands (subscribe who v c) L d ok = refl
  hands (unsubscribe who v c) L d ok = refl
  hands (read who v c offset room) L d ok = refl
  hands (write who v c value) L d ok = refl
  hands (take room) L d ok = take_agrees k right L d ok room

  module _ (gen nam : Beginning) (gt : text_rule gen.name ≡ true) (nt : text_rule nam.name ≡ true) where
    begins : Ok k (ledger_at k gen nam []) (desk_at k gen nam [])
    unfolding start_call
    begins =
        subst (Ok k (ledger_at k gen nam []))
        (sym (state_of (started_desk (freshly (nameless gen)) (freshly (nameless nam))) (start_rows k gen nam) _
        ∙ (λ i. pick (not (not (rules_kept k right i)) && (not (not (renames_kept k right i)) && (not false && (not (not (gt i)) && (not (not (nt i)) && true))))) (started_desk (freshly gen) (freshly nam)) (started_desk (freshly (nameless gen)) (freshly (nameless nam))))))
        (agree_start (freshly gen) (freshly nam), start_keeps k.groups k.tracks (freshly gen) (freshly nam) (fresh gen gt) (fresh nam nt))
      where
        fresh : (n : Beginning) → text_rule n.name ≡ true → player_rule k.groups k.tracks (freshly n) ≡ true
        fresh n e = started k.groups k.tracks n.name n.mask n.ccid e

    pub ok : (h : List Call) → Ok k (ledger_at k gen nam h) (desk_at k gen nam h)
    ok [] = begins
    ok (c ∷ h) = step c (ledger_at k gen nam h) (desk_at k gen nam h) (ok h)

    pub hands_at : (c : Call) (h : List Call) → handed_out k c (desk_at k gen nam h) ≡ due_out k c (ledger_at k gen nam h)
    hands_at c h = hands c (ledger_at k gen nam h) (desk_at k gen nam h) (ok h)

    pub given_is : (h ks : List Call) → given k gen nam h ks ≡ answers (ledger_system k) ks (ledger_at k gen nam h)
    given_is h [] = refl
    given_is h (c ∷ ks) = λ i. prepend (hands_at c h i) (given_is (c ∷ h) ks i)

    pub in_range : (h : List Call) → InRange (ledger_at k gen nam h)
    in_range [] = (omega arith, λ c l. omega arith)
    in_range (c ∷ h) = (laws k).good c (ledger_at k gen nam h) (in_range h)

    -- who stays subscribed to a service's slot keeps its place
    module _ (who v s : ℕ) (slot : s < slot_count) where
      wants : (h : List Call) → subscribed_at k gen nam who v s h ≡ true → wants_at (ledger_at k gen nam h) who (place_of v s) ≡ true
      wants h e = (λ i. (((ledger_at k gen nam h).service (service_of_place v s slot i)).account who).wants (slot_of_place v s slot i)) ∙ e

      pub keeps_on : (h ks : List Call) → Stays k gen nam who v s h ks → AllKeep (ledger_system k) who (place_of v s) ks (ledger_at k gen nam h)
      keeps_on h [] st = tt
      keeps_on h (c ∷ []) st = (wants (c ∷ h) st.1, tt)
      keeps_on h (c ∷ c' ∷ ks) st = (wants (c ∷ h) st.1.0, keeps_on (c ∷ h) (c' ∷ ks) st.1)

    -- every client has an ATT_MTU of 23 at least
    pub mtu_at : (h : List Call) (who : ℕ) → who < client_count → 23 ≤ ((ledger_at k gen nam h).link who).mtu
    mtu_at h who l =
        let d = desk_at k gen nam h in
        subst (λ (n : ℕ). 23 ≤ n) ((ok h).0.link who l).mtu (mtu_least (link_at d.links who) (link_stands k.groups k.tracks d (ok h).1 who l))
