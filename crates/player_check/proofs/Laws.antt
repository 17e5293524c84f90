-- What a layer above knows of a player's state that keeps its part of 201 (SCOPE 20.5), and how it shows that one does. Assumes nothing.
use mathlib.Core.Path.{◌≡◌, refl, sym}
use mathlib.Core.Bool.{Bool, true, false, ◌&&◌}
use mathlib.Core.List.{List, [], ◌∷◌}
use Prim.Native.Nat.{ℕ, zero, suc, ◌+◌, ◌-◌, ◌<◌, ◌≤◌, zero-le}
use native.Mathlib.Omega.{arith}
use borrow.Author.Tests.{ltb-true, leb-true, eqb-true, lt-ltb, le-ltb, le-leb, eq-eqb, ne_eqb}
use lib.Dec.{eqb, ltb, leb}
use lib.ListN.{length, get_or, drop}
use lib.Seq.{take-append_seam}
use Rattle.ground.specs.Cases.{pick, within}
use Rattle.ground.specs.Limits.{most_title}
use Rattle.ground.proofs.Cases.{past, here, and_left, and_right, and_both}
use Rattle.text.specs.Utf8.{text_said}
use Rattle.text.proofs.Law.{offset_within}
use Rattle.catalogue_tables.specs.Tables.{group_count, first_track_of, tracks_in, end_of}
use Rattle.player_clock.specs.Clock.{rest_rule}
use Rattle.player_state.specs.declared.Mode.{Mode}
use Rattle.player_state.specs.declared.Player.{Player}
use Rattle.player_state.specs.Player.{inactive, seeking, named}
use Rattle.player_state.specs.Modes.{rungs}
use Rattle.player_check.specs.Standing.{text_rule, name_carries, group_rule, name_rule, member, mode_rule, no_place, in_group, some_place, place_rule, upcoming_rule, player_rule}

-- the side of a choice that its test leaves
chosen : {t : Bool} (a b : Bool) → t ≡ true → pick t a b ≡ true → a ≡ true
chosen a b e h = rw e at h

left_over : {t : Bool} (a b : Bool) → t ≡ false → pick t a b ≡ true → b ≡ true
left_over a b e h = rw e at h

-- a name that passes as it is handed in stands as it is stored
pub text_short : (name : List ℕ) → text_rule name ≡ true → length name ≤ most_title
unfolding text_rule
text_short name e = leb-true _ _ (and_left (leb (length name) most_title) _ e)

pub group_there : (groups : List ℕ) (g : ℕ) → group_rule groups g ≡ true → g < group_count groups
unfolding group_rule
group_there groups g e = ltb-true _ _ (and_left (ltb g (group_count groups)) (ltb 0 (tracks_in groups g)) e)

pub group_used : (groups : List ℕ) (g : ℕ) → group_rule groups g ≡ true → 0 < tracks_in groups g
unfolding group_rule
group_used groups g e = ltb-true _ _ (and_right (ltb g (group_count groups)) (ltb 0 (tracks_in groups g)) e)

-- what 207 carries is small
pub carries_small : (name : List ℕ) (i : ℕ) → get_or (name_carries name) i 0 ≤ most_title
unfolding name_carries
carries_small name i = at (leb (length name) most_title) refl i
  where
    at : (t : Bool) → leb (length name) most_title ≡ t → (i : ℕ) → get_or (pick t (text_said name).values (most_title ∷ [])) i 0 ≤ most_title
    at true e i = omega (arith, offset_within name i, leb-true (length name) most_title e)
    at false e zero = omega arith
    at false e (suc i) = zero-le

pub name_stands : (name old : List ℕ) → text_rule name ≡ true → name_rule (named name old) ≡ true
unfolding text_rule name_rule
name_stands name old h = rw (take-append_seam name (drop (length name) old)) h

-- the tests of the mode's rule
module _ (m : Mode) where
  abbrev front : Bool
  front = leb m.media seeking && within 1 8 m.order

  abbrev speed : Bool
  speed = pick (eqb m.media seeking) (member m.seeking rungs) (eqb m.seeking 0)

  front_kept : mode_rule m ≡ true → front ≡ true
  unfolding mode_rule
  front_kept h = and_left front speed h

  speed_kept : mode_rule m ≡ true → speed ≡ true
  unfolding mode_rule
  speed_kept h = and_right front speed h

  order_kept : mode_rule m ≡ true → within 1 8 m.order ≡ true
  order_kept h = and_right (leb m.media seeking) (within 1 8 m.order) (front_kept h)

  module _ (state : m.media ≤ 3) (low : 1 ≤ m.order) (high : m.order ≤ 8) where
    with_speed_lem : speed ≡ true → mode_rule m ≡ true
    unfolding mode_rule
    with_speed_lem h = and_both (and_both (le-leb m.media 3 state) (and_both (le-leb 1 m.order low) (le-leb m.order 8 high))) h

    pub mode_stands : (m.media ≡ seeking → ⊥) → m.seeking ≡ 0 → mode_rule m ≡ true
    mode_stands n e = with_speed_lem (sym (past _ (ne_eqb _ _ n) (sym (eq-eqb m.seeking 0 e))))

    pub seeking_stands : m.media ≡ seeking → member m.seeking rungs ≡ true → mode_rule m ≡ true
    seeking_stands e h = with_speed_lem (sym (here _ (eq-eqb _ _ e) (sym h)))

module _ (groups tracks : List ℕ) (p : Player) where
  abbrev media : ℕ
  media = p.mode.media

  abbrev group : ℕ
  group = p.place.group.0

  abbrev track : ℕ
  track = p.place.track.0

  abbrev position : ℕ
  position = p.place.position.0

  abbrev first : ℕ
  first = first_track_of groups group

  abbrev count : ℕ
  count = tracks_in groups group

  abbrev next_rule : Bool
  next_rule = upcoming_rule groups (ltb inactive media) group p.upcoming

  abbrev forepart : Bool
  forepart = name_rule p.name && mode_rule p.mode && place_rule groups tracks (ltb inactive media) p.place

  pub stands : name_rule p.name ≡ true → mode_rule p.mode ≡ true → place_rule groups tracks (ltb inactive media) p.place ≡ true
      → upcoming_rule groups (ltb inactive media) group p.upcoming ≡ true → rest_rule p.place.rest ≡ true → player_rule groups tracks p ≡ true
  unfolding player_rule
  stands name mode place next rest = and_both (and_both (and_both (and_both name mode) place) next) rest

  -- no track is named; or one of the current group is
  pub none_stands : p.upcoming ≡ 0 → upcoming_rule groups (ltb inactive media) group p.upcoming ≡ true
  unfolding upcoming_rule
  none_stands e = sym (here _ (eq-eqb _ _ e) refl)

  pub named_stands : inactive < media → (p.upcoming ≡ 0 → ⊥) → in_group groups group (p.upcoming - 1) ≡ true
      → upcoming_rule groups (ltb inactive media) group p.upcoming ≡ true
  unfolding upcoming_rule
  named_stands active some within = sym (past _ (ne_eqb _ _ some) (sym (and_both (lt-ltb inactive media active) within)))

  pub place_stands : inactive < media → group < group_count groups → first ≤ track → track < first + count → position ≤ end_of tracks track
      → place_rule groups tracks (ltb inactive media) p.place ≡ true
  unfolding place_rule
  place_stands active exists from to held =
      sym
      (here _ (lt-ltb inactive media active)
      (sym (and_both (and_both (and_both (lt-ltb _ _ exists) (le-leb _ _ from)) (lt-ltb _ _ to)) (le-leb _ _ held))))

  pub no_place_stands : media ≡ inactive → group ≡ 0 → track ≡ 0 → position ≡ 0 → place_rule groups tracks (ltb inactive media) p.place ≡ true
  unfolding place_rule
  no_place_stands none g t at =
      sym (past _ (le-ltb inactive media (omega arith)) (sym (and_both (and_both (eq-eqb _ _ g) (eq-eqb _ _ t)) (eq-eqb _ _ at))))

  module _ (right : player_rule groups tracks p ≡ true) where
    all_but_rest : (forepart && next_rule) ≡ true
    unfolding player_rule
    all_but_rest = and_left (forepart && next_rule) (rest_rule p.place.rest) right

    all_but_next : forepart ≡ true
    all_but_next = and_left forepart next_rule all_but_rest

    name_and_mode : (name_rule p.name && mode_rule p.mode) ≡ true
    name_and_mode = and_left (name_rule p.name && mode_rule p.mode) (place_rule groups tracks (ltb inactive media) p.place) all_but_next

    pub name_kept : name_rule p.name ≡ true
    name_kept = and_left (name_rule p.name) (mode_rule p.mode) name_and_mode

    pub mode_kept : mode_rule p.mode ≡ true
    mode_kept = and_right (name_rule p.name) (mode_rule p.mode) name_and_mode

    pub place_kept : place_rule groups tracks (ltb inactive media) p.place ≡ true
    place_kept = and_right (name_rule p.name && mode_rule p.mode) (place_rule groups tracks (ltb inactive media) p.place) all_but_next

    pub next_kept : upcoming_rule groups (ltb inactive media) group p.upcoming ≡ true
    next_kept = and_right forepart next_rule all_but_rest

    pub rest_kept : rest_rule p.place.rest ≡ true
    unfolding player_rule
    rest_kept = and_right (forepart && next_rule) (rest_rule p.place.rest) right

    -- a track that is named is one of the current group, and there is one
    named_right : (p.upcoming ≡ 0 → ⊥) → (ltb inactive media && in_group groups group (p.upcoming - 1)) ≡ true
    unfolding upcoming_rule
    named_right some = left_over true (ltb inactive media && in_group groups group (p.upcoming - 1)) (ne_eqb _ _ some) next_kept

    pub named_active : (p.upcoming ≡ 0 → ⊥) → inactive < media
    named_active some = ltb-true inactive media (and_left (ltb inactive media) _ (named_right some))

    pub named_within : (p.upcoming ≡ 0 → ⊥) → in_group groups group (p.upcoming - 1) ≡ true
    named_within some = and_right (ltb inactive media) _ (named_right some)

    pub few_states : media ≤ 3
    few_states = leb-true media 3 (and_left (leb media seeking) (within 1 8 p.mode.order) (front_kept p.mode mode_kept))

    pub order_from : 1 ≤ p.mode.order
    order_from = leb-true 1 p.mode.order (and_left (leb 1 p.mode.order) (leb p.mode.order 8) (order_kept p.mode mode_kept))

    pub order_to : p.mode.order ≤ 8
    order_to = leb-true p.mode.order 8 (and_right (leb 1 p.mode.order) (leb p.mode.order 8) (order_kept p.mode mode_kept))

    -- a rung while Seeking, and 0 outside
    pub speed_rung : media ≡ seeking → member p.mode.seeking rungs ≡ true
    speed_rung e = chosen (member p.mode.seeking rungs) (eqb p.mode.seeking 0) (eq-eqb _ _ e) (speed_kept p.mode mode_kept)

    pub speed_none : (media ≡ seeking → ⊥) → p.mode.seeking ≡ 0
    speed_none n =
        eqb-true _ _ (left_over (member p.mode.seeking rungs) (eqb p.mode.seeking 0) (ne_eqb _ _ n) (speed_kept p.mode mode_kept))

    -- an active player has a group, a track of it and a position up to the end
    module _ (active : inactive < media) where
      within_group : in_group groups group track ≡ true
      unfolding place_rule
      within_group =
          and_left (in_group groups group track) (leb position (end_of tracks track))
          (chosen (some_place groups tracks p.place) (no_place p.place) (lt-ltb inactive media active) place_kept)

      group_and_start : (ltb group (group_count groups) && leb first track) ≡ true
      group_and_start = and_left (ltb group (group_count groups) && leb first track) (ltb track (first + count)) within_group

      pub group_exists : group < group_count groups
      group_exists = ltb-true _ _ (and_left (ltb group (group_count groups)) (leb first track) group_and_start)

      pub track_from : first ≤ track
      track_from = leb-true _ _ (and_right (ltb group (group_count groups)) (leb first track) group_and_start)

      pub track_to : track < first + count
      track_to = ltb-true _ _ (and_right (ltb group (group_count groups) && leb first track) (ltb track (first + count)) within_group)

      pub position_held : position ≤ end_of tracks track
      unfolding place_rule
      position_held =
          leb-true _ _
          (and_right (in_group groups group track) (leb position (end_of tracks track))
          (chosen (some_place groups tracks p.place) (no_place p.place) (lt-ltb inactive media active) place_kept))

    -- an inactive one has none
    module _ (none : media ≡ inactive) where
      no_place_lem : no_place p.place ≡ true
      unfolding place_rule
      no_place_lem = left_over (some_place groups tracks p.place) (no_place p.place) (le-ltb inactive media (omega arith)) place_kept

      no_group_and_track : (eqb group 0 && eqb track 0) ≡ true
      no_group_and_track = and_left (eqb group 0 && eqb track 0) (eqb position 0) no_place_lem

      pub no_group : group ≡ 0
      no_group = eqb-true _ _ (and_left (eqb group 0) (eqb track 0) no_group_and_track)

      pub no_track : track ≡ 0
      no_track = eqb-true _ _ (and_right (eqb group 0) (eqb track 0) no_group_and_track)

      pub no_position : position ≡ 0
      no_position = eqb-true _ _ (and_right (eqb group 0 && eqb track 0) (eqb position 0) no_place_lem)

      pub no_speed : p.mode.seeking ≡ 0
      no_speed = speed_none (λ e. omega arith)
