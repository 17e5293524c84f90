-- What a write that is allowed comes to: its value has the octets that are read of it, its object is that of a track or a group of the catalogue, and
-- a player that stands goes on standing. Assumes nothing.
use mathlib.Core.Path.{◌≡◌, refl, sym, subst}
use mathlib.Core.Bool.{Bool, true, false, not, ◌&&◌, ◌||◌}
use mathlib.Core.List.{List, [], ◌∷◌}
use mathlib.Core.Logic.{⊎_elim}
use Prim.Native.Nat.{ℕ, ◌<◌, ◌≤◌}
use native.Mathlib.Omega.{arith}
use borrow.Author.Tests.{eqb-true, eqb-false, ltb-true, ltb-false, leb-true, ne_eqb, lt-leb, le-leb}
use lib.Dec.{eqb, ltb, leb}
use lib.ListN.{length}
use Rattle.ground.specs.Cases.{within}
use Rattle.ground.specs.Limits.{most_groups, most_tracks}
use Rattle.ground.proofs.Cases.{true_or, clash, and_left, and_right}
use Rattle.catalogue_tables.specs.Tables.{Tables, group_count, first_track_of}
use Rattle.catalogue_tables.specs.Objects.{track_objects, group_objects}
use Rattle.catalogue_check.specs.Catalogue.{Right}
use Rattle.catalogue_check.proofs.Laws.{few_groups, few_tracks, track_exists}
use Rattle.player_groups.specs.Family.{Current}
use Rattle.player_state.specs.declared.Player.{Player}
use Rattle.player_state.specs.Player.{is_active, with_order}
use Rattle.player_check.specs.Standing.{in_group, group_rule, player_rule}
use Rattle.player_check.proofs.Laws.{group_there, group_used}
use Rattle.player_moves.specs.Moves.{Sits}
use Rattle.player_moves.specs.Clock.{group_written}
use Rattle.player_moves.proofs.Choices.{by_test, active_above}
use Rattle.player_moves.proofs.Ready.{shaped}
use Rattle.player_moves.proofs.Kept.{kept_positioned, kept_speed, kept_track, kept_naming, kept_group, kept_order}
use Rattle.player_values.proofs.Fits.{player_sits}
use Rattle.desk_slots.specs.Table.{size_of}
use Rattle.desk_slots.specs.Characteristics.{writables, is_in}
use Rattle.desk_exchange.specs.Write.{first_octet, length_right, object_of, track_at, group_at, own_track, any_group, allowed, player_written}

-- the two tests before an object is looked up: of an Inactive player, and of an object below the first of its kind, none is; else it is the look that tells
pub not_looked_up : (idle : Bool) (first object : ℕ) (found : Bool) → (idle || ltb object first) ≡ true → (not idle && leb first object && found) ≡ false
not_looked_up true first object found e = refl
not_looked_up false first object found e = rw (lt-leb first object (ltb-true object first e))

pub not_below : (idle : Bool) (first object : ℕ) → (idle || ltb object first) ≡ false → first ≤ object
not_below true first object e = clash (sym e)
not_below false first object e = ltb-false object first e

pub looked_up : (idle : Bool) (first object : ℕ) (found : Bool) → (idle || ltb object first) ≡ false → (not idle && leb first object && found) ≡ found
looked_up true first object found e = clash (sym e)
looked_up false first object found e = rw (le-leb first object (not_below false first object e))

-- a value of the right length
module _ (c : ℕ) (value : List ℕ) (long : length_right c value ≡ true) where
  long_at : (n : ℕ) → c ≡ n → length_right n value ≡ true
  long_at n e = subst (λ (m : ℕ). length_right m value ≡ true) e long

  pub position_long : c ≡ 7 → 4 ≤ length value
  unfolding length_right size_of
  position_long e = omega (arith, eqb-true (length value) 4 (long_at 7 e))

  pub track_long : c ≡ 11 → 6 ≤ length value
  unfolding length_right size_of
  track_long e = omega (arith, eqb-true (length value) 6 (long_at 11 e))

  pub next_long : c ≡ 12 → 6 ≤ length value
  unfolding length_right size_of
  next_long e = omega (arith, eqb-true (length value) 6 (long_at 12 e))

  pub group_long : c ≡ 14 → 6 ≤ length value
  unfolding length_right size_of
  group_long e = omega (arith, eqb-true (length value) 6 (long_at 14 e))

module _ (groups : List ℕ) (p : Player) (value : List ℕ) where
  -- the object of a track of the current group
  module _ (own : own_track groups p value ≡ true) where
    track_front : (is_active p && leb track_objects (object_of value)) ≡ true
    unfolding own_track
    track_front = and_left (is_active p && leb track_objects (object_of value)) _ own

    pub track_active : is_active p ≡ true
    track_active = and_left (is_active p) _ track_front

    pub track_above : track_objects ≤ object_of value
    track_above = leb-true _ _ (and_right (is_active p) _ track_front)

    pub track_within : in_group groups p.place.group.0 (track_at value) ≡ true
    unfolding own_track
    track_within = and_right (is_active p && leb track_objects (object_of value)) _ own

  -- the object of a group that has tracks
  module _ (any : any_group groups p value ≡ true) where
    group_front : (is_active p && leb group_objects (object_of value)) ≡ true
    unfolding any_group
    group_front = and_left (is_active p && leb group_objects (object_of value)) _ any

    pub group_active : is_active p ≡ true
    group_active = and_left (is_active p) _ group_front

    pub group_above : group_objects ≤ object_of value
    group_above = leb-true _ _ (and_right (is_active p) _ group_front)

    pub group_right : group_rule groups (group_at value) ≡ true
    unfolding any_group
    group_right = and_right (is_active p && leb group_objects (object_of value)) _ any

  -- a value that is allowed
  module _ (c : ℕ) (may : allowed groups p c value ≡ true) where
    may_at : (n : ℕ) → c ≡ n → allowed groups p n value ≡ true
    may_at n e = subst (λ (m : ℕ). allowed groups p m value ≡ true) e may

    pub track_allowed : c ≡ 11 → own_track groups p value ≡ true
    unfolding allowed
    track_allowed e = may_at 11 e

    pub next_allowed : c ≡ 12 → own_track groups p value ≡ true
    unfolding allowed
    next_allowed e = may_at 12 e

    pub group_allowed : c ≡ 14 → any_group groups p value ≡ true
    unfolding allowed
    group_allowed e = may_at 14 e

    order_allowed : c ≡ 15 → within 1 8 (first_octet value) ≡ true
    unfolding allowed
    order_allowed e = may_at 15 e

-- what is in a list and is not the first there is behind it
behind_first : (first : ℕ) (rest : List ℕ) (c : ℕ) → is_in (first ∷ rest) c ≡ true → eqb c first ≡ false → is_in rest c ≡ true
unfolding is_in
behind_first first rest c among apart = rw (ne_eqb first c (λ e. eqb-false c first apart (sym e))) at among

-- of 15 and 18 it is the one that is not the other
order_left : (c : ℕ) → is_in (15 ∷ 18 ∷ []) c ≡ true → eqb c 18 ≡ false → eqb c 15 ≡ true
unfolding is_in
order_left c among other =
    ⊎_elim (λ e. e) (λ n. clash (behind_first 18 [] c (behind_first 15 (18 ∷ []) c among n) other)) (true_or (eqb c 15))

module _ (k : Tables) (right : Right k) where
  -- a track of a group, and a group, of a right catalogue
  pub track_small : (g t : ℕ) → in_group k.groups g t ≡ true → t < most_tracks
  track_small g t inside =
      let front = ltb g (group_count k.groups) && leb (first_track_of k.groups g) t in
      let there : g < group_count k.groups = ltb-true _ _ (and_left (ltb g (group_count k.groups)) _ (and_left front _ inside)) in
      omega (arith, few_tracks k right, track_exists k right g t there (ltb-true _ _ (and_right front _ inside)))

  pub group_small : (g : ℕ) → group_rule k.groups g ≡ true → g < most_groups
  group_small g there = omega (arith, few_groups k right, group_there k.groups g there)

  pub group_current : (g : ℕ) → group_rule k.groups g ≡ true → Current k.groups g
  group_current g there = record { few = few_groups k right; there = group_there k.groups g there; used = group_used k.groups g there }

  module _ (p : Player) (stands : player_rule k.groups k.tracks p ≡ true) (value : List ℕ) where
    abbrev Stands : Player → Type 0
    Stands q = player_rule k.groups k.tracks q ≡ true

    kept_entered : any_group k.groups p value ≡ true → Stands (group_written k.groups k.tracks (group_at value) p)
    kept_entered any =
        let there = group_right k.groups p value any in
        kept_group k.groups k.tracks k.segments (shaped k right) p stands (active_above p (group_active k.groups p value any)) (group_at value)
        (group_current (group_at value) there)

    -- what holds of every player that stands holds of what a write leaves, but for the order, which the last characteristic sets
    by_written : (P : Player → Type 0) → ((q : Player) → Stands q → P q) → (c : ℕ) → allowed k.groups p c value ≡ true
        → ((is_in writables c ≡ true → eqb c 18 ≡ false → eqb c 15 ≡ true) → P (with_order (first_octet value) p)) → P (player_written k p c value)
    unfolding player_written
    by_written P holds c may order =
        by_test P (eqb c 7) _ _ (λ e. holds _ (kept_positioned k.groups k.tracks p stands _))
        (λ n7. by_test P (eqb c 8) _ _ (λ e. holds _ (kept_speed k.groups k.tracks p stands _))
        (λ n8. by_test P (eqb c 11) _ _
        (λ e.
        let own = track_allowed k.groups p value c may (eqb-true c 11 e) in
        holds _ (kept_track k.groups k.tracks k.segments (shaped k right) p stands (active_above p (track_active k.groups p value own)) _ (track_within k.groups p value own)))
        (λ n11. by_test P (eqb c 12) _ _
        (λ e.
        let own = next_allowed k.groups p value c may (eqb-true c 12 e) in
        holds _ (kept_naming k.groups k.tracks p stands _ (active_above p (track_active k.groups p value own)) (track_within k.groups p value own)))
        (λ n12. by_test P (eqb c 14) _ _ (λ e. holds _ (kept_entered (group_allowed k.groups p value c may (eqb-true c 14 e))))
        (λ n14. order (λ writable other.
        order_left c (behind_first 14 _ c (behind_first 12 _ c (behind_first 11 _ c (behind_first 8 _ c (behind_first 7 _ c writable n7) n8) n11) n12) n14) other))))))

    pub kept_written : (c : ℕ) → is_in writables c ≡ true → eqb c 18 ≡ false → allowed k.groups p c value ≡ true
        → player_rule k.groups k.tracks (player_written k p c value) ≡ true
    kept_written c writable other may =
        by_written Stands (λ q h. h) c may
        (λ order.
        let first = first_octet value in
        let w = order_allowed k.groups p value c may (eqb-true c 15 (order writable other)) in
        kept_order k.groups k.tracks p stands first (leb-true 1 first (and_left (leb 1 first) (leb first 8) w))
        (leb-true first 8 (and_right (leb 1 first) (leb first 8) w)))

    -- and whatever is written, its track lies in its group
    pub written_sits : (c : ℕ) → allowed k.groups p c value ≡ true → Sits k.groups k.tracks (player_written k p c value)
    written_sits c may = by_written (Sits k.groups k.tracks) (player_sits k right) c may (λ order. player_sits k right p stands)
