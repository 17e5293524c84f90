-- Over every history: what a client that is subscribed to a slot, but 7 and 18, and is not owed it, has learnt of it last is what it is shown. Assumes
-- nothing.
use mathlib.Core.Path.{◌≡◌, refl, sym, ap, ◌∙◌, subst}
use mathlib.Core.Bool.{Bool, true, false, ◌&&◌, ◌||◌}
use mathlib.Core.Option.{some}
use mathlib.Core.List.{List, [], ◌∷◌, ◌++◌}
use Prim.Native.Nat.{ℕ, ◌<◌}
use borrow.Author.Tests.{ne_eqb}
use Rattle.ground.specs.Cases.{pick}
use Rattle.ground.proofs.Cases.{clash}
use Rattle.catalogue_check.proofs.Laws.{is_right}
use Rattle.catalogue_titles.specs.Lent.{Lent, catalogue_of, lent_rule}
use Rattle.catalogue_titles.proofs.Laws.{rules_kept}
use Rattle.player_check.specs.Standing.{text_rule}
use Rattle.desk_slots.specs.Slots.{slot_count, client_count, characteristic_of}
use Rattle.desk_client.specs.Client.{control_slot}
use Rattle.desk_console.specs.Console.{Beginning}
use Rattle.desk_history.specs.Calls.{Call, set_name, activate, deactivate, advance, connect, disconnect, subscribe, unsubscribe, read, write, take, left}
use Rattle.desk_history.specs.Ledger.{Ledger, any_waits, owes}
use Rattle.desk_history.specs.History.{handed_out, ledger_at, desk_at, subscribed_at}
use Rattle.desk_history.proofs.Exchanges.{write_number}
use Rattle.desk_history.proofs.Agree.{ok, hands_at, mtu_at}
use Rattle.desk_quiet.specs.Known.{learnt_by, newest, changed_by, changed_since, learnt, present_at, AllOctets}
use Rattle.desk_quiet.proofs.Fate.{Fate, stays, falls, learns_it, shown_to, shown_octets, Answered, fate}

-- nothing has changed and nothing was learnt; or the newest that was learnt is this
data Tells (changed : Bool) (learnt : List (List ℕ)) (now : List ℕ) : Type 0 where
  untouched : changed ≡ false → learnt ≡ [] → Tells changed learnt now
  knows : newest learnt ≡ some now → Tells changed learnt now

-- 18 has the control point's slot
pub slot_not_18 : (s : ℕ) → (characteristic_of s ≡ 18 → ⊥) → s ≡ control_slot → ⊥
unfolding characteristic_of
slot_not_18 s not-control e = not-control (ap characteristic_of e)

module _ (k : Lent) (right : lent_rule k ≡ true) (gen nam : Beginning) (gt : text_rule gen.name ≡ true) (nt : text_rule nam.name ≡ true) where
  abbrev ledger : List Call → Ledger
  ledger h = ledger_at k gen nam h

  module _ (who v s : ℕ) (client : who < client_count) (slot : s < slot_count) (not-position : characteristic_of s ≡ 7 → ⊥) (not-control : characteristic_of s ≡ 18 → ⊥) where
    no_results : s ≡ control_slot → ⊥
    no_results = slot_not_18 s not-control

    abbrev shown : List Call → List ℕ
    shown h = shown_to k who v s ((ledger h).link who) ((ledger h).service v).player

    abbrev due : List Call → Bool
    due h = (((ledger h).service v).account who).due s

    -- a write answers 0 exactly where it is accepted
    answered : (call : Call) (h : List Call)
        → Answered k who v s client not-position not-control slot no_results (ledger h) call (left k call (desk_at k gen nam h)).said.number
    answered (set_name w name) h = tt
    answered (activate w g) h = tt
    answered (deactivate w) h = tt
    answered (advance w step) h = tt
    answered (connect by mtu encrypted) h = tt
    answered (disconnect by) h = tt
    answered (subscribe by w c) h = tt
    answered (unsubscribe by w c) h = tt
    answered (read by w c offset room) h = tt
    answered (write by w c value) h = write_number k right (ledger h) (desk_at k gen nam h) (ok k right gen nam gt nt h) by w c value
    answered (take room) h = tt

    told : (h : List Call) → AllOctets h → subscribed_at k gen nam who v s h ≡ true → due h ≡ false
        → Tells (changed_since k gen nam who v s h) (learnt k gen nam who v s h) (shown h)
    told [] octets wants unowed = untouched refl refl
    told (c ∷ h) octets wants unowed = go (subscribed_at k gen nam who v s h) refl (told h octets.1)
      where
        now : List (List ℕ)
        now = learnt_by who v s c (left k c (desk_at k gen nam h)).said.number (handed_out k c (desk_at k gen nam h))

        its_fate : subscribed_at k gen nam who v s h ≡ true → Fate (due h) (due (c ∷ h)) (shown h) (shown (c ∷ h)) (changed_by k gen nam who v s c h) now
        its_fate before =
            subst (λ (o : List (List ℕ)). Fate (due h) (due (c ∷ h)) (shown h) (shown (c ∷ h)) (changed_by k gen nam who v s c h) o)
            (λ i. learnt_by who v s c (left k c (desk_at k gen nam h)).said.number (sym (hands_at k right gen nam gt nt c h) i))
            (fate k who v s client not-position not-control slot no_results (ledger h) (is_right (catalogue_of k) (rules_kept k right)) (mtu_at k right gen nam gt nt h who client)
            c (left k c (desk_at k gen nam h)).said.number octets.0 (answered c h) before wants)

        -- on from what it knew
        after : Tells (changed_since k gen nam who v s h) (learnt k gen nam who v s h) (shown h) → shown (c ∷ h) ≡ shown h → changed_by k gen nam who v s c h ≡ false → now ≡ []
            → Tells (changed_by k gen nam who v s c h || changed_since k gen nam who v s h) (now ++ learnt k gen nam who v s h) (shown (c ∷ h))
        after (untouched e f) same unchanged nothing = untouched ((λ i. unchanged i || e i)) (λ i. nothing i ++ f i)
        after (knows e) same unchanged nothing = knows ((λ i. newest (nothing i ++ learnt k gen nam who v s h)) ∙ e ∙ ap some (sym same))

        by_fate : Fate (due h) (due (c ∷ h)) (shown h) (shown (c ∷ h)) (changed_by k gen nam who v s c h) now
            → (due h ≡ false → Tells (changed_since k gen nam who v s h) (learnt k gen nam who v s h) (shown h))
            → Tells (changed_by k gen nam who v s c h || changed_since k gen nam who v s h) (now ++ learnt k gen nam who v s h) (shown (c ∷ h))
        by_fate (stays still same unchanged nothing) knew = after (knew (still unowed)) same unchanged nothing
        by_fate (falls owed) knew = clash (sym unowed ∙ owed)
        by_fate (learns_it e) knew = knows (λ i. newest (e i ++ learnt k gen nam who v s h))

        go : (t : Bool) → subscribed_at k gen nam who v s h ≡ t
            → (subscribed_at k gen nam who v s h ≡ true → due h ≡ false → Tells (changed_since k gen nam who v s h) (learnt k gen nam who v s h) (shown h))
            → Tells (subscribed_at k gen nam who v s h && (changed_by k gen nam who v s c h || changed_since k gen nam who v s h))
            (pick (subscribed_at k gen nam who v s h) (now ++ learnt k gen nam who v s h) []) (shown (c ∷ h))
        go true before knew =
            subst (λ (t : Bool). Tells (t && (changed_by k gen nam who v s c h || changed_since k gen nam who v s h)) (pick t (now ++ learnt k gen nam who v s h) []) (shown (c ∷ h))) (sym before)
            (by_fate (its_fate before) (knew before))
        go false before knew =
            untouched (λ i. before i && (changed_by k gen nam who v s c h || changed_since k gen nam who v s h)) (λ i. pick (before i) (now ++ learnt k gen nam who v s h) [])

    pub knows_present : (h : List Call) → AllOctets h → subscribed_at k gen nam who v s h ≡ true → owes (((ledger h).service v).account who) s ≡ false
        → changed_since k gen nam who v s h ≡ true → newest (learnt k gen nam who v s h) ≡ some (present_at k gen nam who v s h)
    knows_present h octets wants unowed changed =
        tell (told h octets wants (sym (λ i. pick (ne_eqb s control_slot no_results i) (any_waits (((ledger h).service v).account who).waiting) (due h)) ∙ unowed))
        ∙ ap some (sym (shown_octets k who v s no_results ((ledger h).service v) ((ledger h).link who)))
      where
        tell : Tells (changed_since k gen nam who v s h) (learnt k gen nam who v s h) (shown h) → newest (learnt k gen nam who v s h) ≡ some (shown h)
        tell (untouched e f) = clash (sym e ∙ changed)
        tell (knows e) = e
