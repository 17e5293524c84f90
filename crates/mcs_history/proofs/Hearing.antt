-- What C hears of a take is what the desk hands out. Assumes nothing.
use mathlib.Core.Path.{◌≡◌, refl, sym, ap, ◌∙◌, subst}
use mathlib.Core.Bool.{Bool, true, false, not}
use mathlib.Core.Logic.{⊎_elim}
use mathlib.Core.Option.{Option, none, some}
use mathlib.Core.List.{List, [], ◌∷◌, ◌++◌}
use Prim.Native.Nat.{ℕ, ◌<◌}
use native.Mathlib.Omega.{arith}
use borrow.Author.Tests.{eqb-true}
use lib.Dec.{eqb, ltb, leb}
use lib.ListN.{length, drop, take as firsts}
use lib.Seq.{take-append_seam}
use Rattle.ground.specs.Cases.{pick}
use Rattle.ground.specs.Limits.{least_output}
use Rattle.ground.specs.Lists.{table_after}
use Rattle.ground.specs.Refusals.{Said, granted, Row, row, row_with, accepted, said_by, leaves}
use Rattle.ground.proofs.Cases.{past, clash, true_or}
use Rattle.ground.proofs.Rows.{said_of_lem}
use Rattle.catalogue_titles.specs.Lent.{Lent, catalogue_of, lent_rule, renames_row}
use Rattle.catalogue_titles.proofs.Laws.{rules_kept}
use Rattle.catalogue_check.specs.Catalogue.{catalogue_rule, catalogue_carries}
use Rattle.desk_slots.specs.Slots.{slot_count, client_count, slot_of, characteristic_of, place_of, service_of, slot_at}
use Rattle.desk_slots.proofs.PlaceLaws.{slot_there}
use Rattle.desk_slots.proofs.TableLaws.{slot_back}
use Rattle.desk_client.specs.declared.Client.{Client}
use Rattle.desk_state.specs.declared.Desk.{Desk}
use Rattle.desk_state.specs.Desk.{client_at}
use Rattle.desk_replies.specs.Replies.{state_right, fronted}
use Rattle.desk_console.specs.Console.{Beginning}
use Rattle.desk_take.specs.Serving.{next_place, handed_octets, handed_values, after_serving}
use Rattle.desk_take.specs.Take.{next_client, players_of, with_served, taken_by, take_call, take_octets}
use Rattle.desk_history.specs.Calls.{Call, take}
use Rattle.desk_history.specs.Rounds.{Handout}
use Rattle.desk_history.specs.History.{desk_at, spoken, handed_out}
use Rattle.mcs_told.specs.Calls.{words_after}
use Rattle.mcs_history.specs.Library.{heard}

-- no slot has the characteristic 0
none_is_0 : slot_of 0 < slot_count → ⊥
unfolding slot_of
none_is_0 h = omega (arith, h)

module _ (k : Lent) (right : lent_rule k ≡ true) (generic named : Beginning) (h : List Call) (out : List ℕ) (a b c e : ℕ) where
  abbrev d : Desk
  d = desk_at k generic named h

  abbrev O : List ℕ
  O = take_octets k d

  abbrev small : Bool
  small = ltb (length out) least_output

  abbrev R : List Row
  R = fronted k small d ++ []

  abbrev own : Client
  own = client_at d (next_client d)

  -- what C hears, and what the desk hands out, by what is said
  abbrev hears : Said → Option Handout
  hears said = heard said.number (words_after said (a ∷ b ∷ c ∷ e ∷ [])) (table_after said O out)

  abbrev hands : Said → Option Handout
  hands said = spoken said.values O

  refused_heard : (v : List ℕ) (x r y z : Bool) → x ≡ false
      → hears (said_by (row_with 200 v x ∷ row 224 r ∷ row 205 y ∷ row 201 z ∷ [])) ≡ hands (said_by (row_with 200 v x ∷ row 224 r ∷ row 205 y ∷ row 201 z ∷ []))
  refused_heard v true r y z q = clash (sym q)
  refused_heard v false true y z q = refl
  refused_heard v false false true z q = refl
  refused_heard v false false false true q = refl
  refused_heard v false false false false q = refl

  abbrev ch : ℕ
  ch = characteristic_of (slot_at (next_place own))

  abbrev served : Said
  served = granted (next_client d ∷ handed_values k (players_of d) own)

  -- a take that serves somebody
  served_heard : O ≡ handed_octets k (players_of d) own → hears served ≡ hands served
  served_heard q =
      (λ i. pick (there i) none (some (record { client = next_client d; place = place; octets = firsts (length (sym q i)) (O ++ drop (length O) out) })))
      ∙ ap (λ (o : List ℕ). some (record { client = next_client d; place = place; octets = o })) (take-append_seam O (drop (length O) out))
    where
      place : ℕ
      place = place_of (service_of (next_place own)) (slot_of ch)

      within : slot_of ch < slot_count
      within = subst (λ (n : ℕ). n < slot_count) (sym (slot_back (slot_at (next_place own)) (slot_there (next_place own)))) (slot_there (next_place own))

      there : eqb ch 0 ≡ false
      there =
          ⊎_elim
          (λ (z : eqb ch 0 ≡ true). absurd (none_is_0 (subst (λ (n : ℕ). slot_of n < slot_count) (eqb-true ch 0 z) within)))
          (λ z. z) (true_or (eqb ch 0))

  pub heard_is : hears (take_call k d (length out)).said ≡ handed_out k (take (length out)) d
  unfolding take_call take_octets
  heard_is = (λ i. hears (by i)) ∙ go (accepted R) refl ∙ sym (λ i. hands (by i))
    where
      by : (take_call k d (length out)).said ≡ pick (accepted R) (taken_by k d (next_client d)).said (said_by R)
      by = said_of_lem d R (taken_by k d (next_client d))

      serve : (u : Bool) → leb client_count (next_client d) ≡ u
          → ((take_call k d (length out)).said ≡ (pick u (leaves (granted []) d) (leaves served (with_served (next_client d) (after_serving own) d))).said)
          → hears (pick u (leaves (granted []) d) (leaves served (with_served (next_client d) (after_serving own) d))).said
          ≡ hands (pick u (leaves (granted []) d) (leaves served (with_served (next_client d) (after_serving own) d))).said
      serve true v q = refl
      serve false v q = served_heard (sym (past [] v refl))

      go : (t : Bool) → accepted R ≡ t → hears (pick t (taken_by k d (next_client d)).said (said_by R)) ≡ hands (pick t (taken_by k d (next_client d)).said (said_by R))
      go true q = serve (leb client_count (next_client d)) refl (by ∙ (λ i. pick (q i) (taken_by k d (next_client d)).said (said_by R)))
      go false q = refused_heard (catalogue_carries (catalogue_of k)) (not (catalogue_rule (catalogue_of k))) (renames_row k).applies small (not (state_right k d)) (ap not (rules_kept k right))
