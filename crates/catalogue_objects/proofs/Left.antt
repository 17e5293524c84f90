-- What is left to write of tracks, of child groups and of labels, as loops go over them: at first all, then the next one before the others, and at the end nothing.
-- Assumes nothing.
use mathlib.Core.Path.{◌≡◌, refl, ap}
use mathlib.Core.Bool.{true, false}
use mathlib.Core.List.{List, [], ◌∷◌, ◌++◌, map}
use Prim.Native.Nat.{ℕ, ◌+◌, ◌-◌, ◌<◌, ◌≤◌}
use native.Mathlib.Numerals.{add-one}
use native.Mathlib.Omega.{arith}
use lib.ListN.{length, get_or, drop, drop_of_length-le}
use lib.Seq.{drop-cons}
use Rattle.ground.specs.Lists.{span, those}
use Rattle.catalogue_tables.specs.Tables.{group_count}
use Rattle.catalogue_objects.specs.Entries.{Member, track_member, group_member, is_child, children_of, nameless, member_octets, label_octets, all_octets}
use Rattle.catalogue_objects.proofs.Spans.{span_opens, span_shuts, those_taken, those_passed}

-- the octets of members, and of labels without a name
abbrev pub members_octets : (ℕ → Member) → List ℕ → List ℕ
members_octets f s = all_octets member_octets (map f s)

abbrev pub labels_octets : List ℕ → List ℕ
labels_octets starts = all_octets label_octets (map nameless starts)

-- of a run of tracks, behind the first i of them
abbrev pub tracks_left : ℕ → ℕ → ℕ → List ℕ
tracks_left first count i = members_octets track_member (span (first + i) (count - i))

module _ (first count : ℕ) where
  pub tracks_all : tracks_left first count 0 ≡ members_octets track_member (span first count)
  tracks_all =
      let from : first + 0 ≡ first = omega arith in
      let all : count - 0 ≡ count = omega arith in
      λ k. members_octets track_member (span (from k) (all k))

  pub tracks_next : (i : ℕ) → i < count → tracks_left first count i ≡ member_octets (track_member (first + i)) ++ tracks_left first count (i + 1)
  unfolding all_octets
  tracks_next i h =
      let one : count - i ≡ count - (i + 1) + 1 = omega arith in
      let on : first + (i + 1) ≡ first + i + 1 = omega arith in
      ap (members_octets track_member) (span_opens (first + i) (count - i) (first + (i + 1)) (count - (i + 1)) one on)

  pub tracks_none : (i : ℕ) → count ≤ i → tracks_left first count i ≡ []
  unfolding all_octets
  tracks_none i h =
      let none : count - i ≡ 0 = omega arith in
      ap (members_octets track_member) (span_shuts (first + i) (count - i) none)

-- of the children of a group, from the group h on
abbrev pub those_left : List ℕ → ℕ → ℕ → List ℕ
those_left groups g h = those (is_child groups g) (span h (group_count groups - h))

module _ (groups : List ℕ) (g : ℕ) where
  pub children_all : those_left groups g 0 ≡ children_of groups g
  unfolding children_of
  children_all =
      let all : group_count groups - 0 ≡ group_count groups = omega arith in
      ap (λ (n : ℕ). those (is_child groups g) (span 0 n)) all

  module _ (h : ℕ) where
    pub child_taken : h < group_count groups → is_child groups g h ≡ true → those_left groups g h ≡ h ∷ those_left groups g (h + 1)
    child_taken k t =
        let left : group_count groups - h ≡ group_count groups - (h + 1) + 1 = omega arith in
        those_taken (is_child groups g) h _ (h + 1) (group_count groups - (h + 1)) left refl t

    pub child_passed : h < group_count groups → is_child groups g h ≡ false → those_left groups g h ≡ those_left groups g (h + 1)
    child_passed k t =
        let left : group_count groups - h ≡ group_count groups - (h + 1) + 1 = omega arith in
        those_passed (is_child groups g) h _ (h + 1) (group_count groups - (h + 1)) left refl t

    pub children_none : group_count groups ≤ h → those_left groups g h ≡ []
    children_none k =
        let none : group_count groups - h ≡ 0 = omega arith in
        ap (those (is_child groups g)) (span_shuts h _ none)

    -- and the octets of these children
    pub child_next : h < group_count groups → is_child groups g h ≡ true
        → members_octets group_member (those_left groups g h) ≡ member_octets (group_member h) ++ members_octets group_member (those_left groups g (h + 1))
    unfolding all_octets
    child_next k t = ap (members_octets group_member) (child_taken k t)

    pub children_end : group_count groups ≤ h → members_octets group_member (those_left groups g h) ≡ []
    unfolding all_octets
    children_end k = ap (members_octets group_member) (children_none k)

-- of labels, behind the first i of them
module _ (starts : List ℕ) (i : ℕ) where
  pub labels_next : i < length starts → labels_octets (drop i starts) ≡ label_octets (nameless (get_or starts i 0)) ++ labels_octets (drop (i + 1) starts)
  unfolding all_octets
  labels_next h = rw (add-one i, drop-cons starts i 0)

  pub labels_none : length starts ≤ i → labels_octets (drop i starts) ≡ []
  unfolding all_octets
  labels_none h = ap labels_octets (drop_of_length-le starts h)
