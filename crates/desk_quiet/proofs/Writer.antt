-- What a client writes of a characteristic whose change is not owed to its writer is what is then read of it: the writer knows the value. Assumes nothing.
use mathlib.Core.Path.{◌≡◌, refl, ap, ◌∙◌, subst}
use mathlib.Core.Bool.{true}
use mathlib.Core.Logic.{⊎_elim}
use mathlib.Core.List.{List, [], ◌∷◌}
use Prim.Native.Nat.{ℕ, ◌+◌, ◌-◌, ◌≤◌, ◌<◌}
use native.Mathlib.Omega.{arith}
use borrow.Author.Tests.{eqb-true, ne_eqb}
use lib.Dec.{eqb}
use lib.ListN.{length}
use Rattle.ground.specs.Cases.{pick}
use Rattle.ground.specs.Lists.{Each}
use Rattle.ground.specs.Words.{Octs, six_octets}
use Rattle.ground.proofs.Cases.{true_or, clash}
use Rattle.ground.proofs.Octets.{six_octets_lem}
use Rattle.catalogue_tables.specs.Objects.{track_objects, group_objects}
use Rattle.catalogue_check.specs.Catalogue.{Right}
use Rattle.catalogue_titles.specs.Lent.{Lent, catalogue_of}
use Rattle.player_state.specs.declared.Player.{Player}
use Rattle.player_moves.proofs.Ready.{shaped}
use Rattle.player_values.specs.Values.{source_of, object_octets, value_of}
use Rattle.player_values.proofs.Laws.{values}
use Rattle.player_values.proofs.Written.{track_shown, next_shown, group_shown}
use Rattle.desk_slots.specs.Table.{size_of}
use Rattle.desk_slots.specs.Characteristics.{writables, writer_knows, is_in}
use Rattle.desk_exchange.specs.Write.{first_octet, length_right, object_of, track_at, group_at, allowed, player_written}
use Rattle.desk_exchange.proofs.Written.{track_active, track_above, group_active, group_above, group_right, track_allowed, next_allowed, group_allowed, group_current}

-- what holds of each number of a list holds of whatever is in it
of_each : (P : ℕ → Type 0) (s : List ℕ) (c : ℕ) → Each P s → is_in s c ≡ true → P c
unfolding is_in
of_each P [] c all among = clash among
of_each P (x ∷ s) c all among =
    ⊎_elim (λ e. subst P (eqb-true x c e) all.0) (λ n. of_each P s c all.1 (rw n at among)) (true_or (eqb x c))

-- of what may be written, only changes of 7 and 18 are owed to the writer too
pub writer_knows_lem : (c : ℕ) → is_in writables c ≡ true → (c ≡ 7 → ⊥) → (c ≡ 18 → ⊥) → is_in writer_knows c ≡ true
unfolding is_in
writer_knows_lem c among =
    of_each (λ x. (x ≡ 7 → ⊥) → (x ≡ 18 → ⊥) → is_in writer_knows x ≡ true) writables c
    ((λ n m. absurd (n refl)), ((λ n m. refl), ((λ n m. refl), ((λ n m. refl), ((λ n m. refl), ((λ n m. refl), ((λ n m. absurd (m refl)), tt))))))) among

one_octet : (value : List ℕ) → length value ≡ 1 → first_octet value ∷ [] ≡ value
one_octet [] l = absurd (let z : ⊥ = omega (arith, l) in z)
one_octet (x ∷ []) l = refl
one_octet (x ∷ y ∷ s) l = absurd (let z : ⊥ = omega (arith, l) in z)

module _ (k : Lent) (right : Right (catalogue_of k)) (p : Player) (value : List ℕ) (octets : Octs value) where
  -- the object that is written, read
  object_back : (first : ℕ) → 0 < first → first ≤ object_of value → length value ≡ 6 → object_octets (first + (object_of value - first)) ≡ value
  unfolding object_octets
  object_back first some above long =
      let same : first + (object_of value - first) ≡ object_of value = omega arith in
      ap (λ (n : ℕ). pick (eqb n 0) [] (six_octets n)) same
      ∙ rw (ne_eqb (object_of value) 0 (λ e. omega (arith, e))) (six_octets_lem octets long)

  abbrev after : ℕ → Player
  after c = player_written (catalogue_of k) p c value

  abbrev Known : ℕ → Type 0
  Known c = length_right c value ≡ true → allowed k.groups p c value ≡ true → (value_of (source_of k) (after c) c ≡ value) × (length value ≤ 6)

  speed_known : Known 8
  unfolding length_right size_of player_written
  speed_known long may =
      let l = eqb-true (length value) 1 long in
      ((values (source_of k) (after 8)).speed ∙ one_octet value l, omega (arith, l))

  order_known : Known 15
  unfolding length_right size_of player_written
  order_known long may =
      let l = eqb-true (length value) 1 long in
      ((values (source_of k) (after 15)).order ∙ one_octet value l, omega (arith, l))

  track_known : Known 11
  unfolding length_right size_of player_written
  track_known long may =
      let l = eqb-true (length value) 6 long in
      let own = track_allowed k.groups p value 11 may refl in (
        (values (source_of k) (after 11)).track_object_lem
            ∙ ap object_octets (track_shown p (track_active k.groups p value own) (track_at value))
            ∙ object_back track_objects (omega arith) (track_above k.groups p value own) l,
        omega (arith, l),
      )

  next_known : Known 12
  unfolding length_right size_of player_written
  next_known long may =
      let l = eqb-true (length value) 6 long in
      let own = next_allowed k.groups p value 12 may refl in (
        (values (source_of k) (after 12)).next_object
            ∙ ap object_octets (next_shown p (track_active k.groups p value own) k.groups k.tracks (track_at value))
            ∙ object_back track_objects (omega arith) (track_above k.groups p value own) l,
        omega (arith, l),
      )

  group_known : Known 14
  unfolding length_right size_of player_written
  group_known long may =
      let l = eqb-true (length value) 6 long in
      let any = group_allowed k.groups p value 14 may refl in (
        (values (source_of k) (after 14)).group_object_lem
            ∙ ap object_octets (group_shown p (group_active k.groups p value any) k.groups k.tracks k.segments (shaped (catalogue_of k) right) (group_at value)
            (group_current (catalogue_of k) right (group_at value) (group_right k.groups p value any)))
            ∙ object_back group_objects (omega arith) (group_above k.groups p value any) l,
        omega (arith, l),
      )

  -- of each of the five, and it is short
  pub written_known : (c : ℕ) → is_in writer_knows c ≡ true → length_right c value ≡ true → allowed k.groups p c value ≡ true
      → (value_of (source_of k) (player_written (catalogue_of k) p c value) c ≡ value) × (length value ≤ 6)
  written_known c among = of_each Known writer_knows c (speed_known, (track_known, (next_known, (group_known, (order_known, tt))))) among
