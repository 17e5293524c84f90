-- Where the groups of a move stand, and so where a move leads. Assumes nothing.
use mathlib.Core.Path.{◌≡◌, refl, sym, ap, ◌∙◌}
use mathlib.Core.Bool.{true, false}
use mathlib.Core.List.{List, [], ◌∷◌}
use Prim.Native.Nat.{ℕ, zero, suc, ◌+◌, ◌<◌}
use native.Mathlib.Nat.{not-suc-le-zero, le_of_suc-le-suc, lt_irrefl, zero-add}
use native.Mathlib.Omega.{arith}
use borrow.Author.Tests.{eq-eqb, ne_eqb, le-ltb}
use lib.ListN.{length, get_or}
use Rattle.std.specs.Prelude.{Option, Some}
use Rattle.ground.specs.Lists.{span, those}
use Rattle.catalogue_tables.specs.Tables.{group_count, parent_of, tracks_in}
use Rattle.player_walk.specs.Steps.{at, place, then, move_in}
use Rattle.player_walk.specs.Places.{way_of, goto_place, place_after}
use Rattle.player_walk.specs.Signed.{signed_word}
use Rattle.player_walk.specs.declared.Step.{Step}
use Rattle.player_walk.specs.declared.Step.TheVariants.{Previous, Next, First, Last, Goto}
use Rattle.player_walk.specs.declared.Way.{Way}
use Rattle.player_walk.specs.declared.Way.TheVariants.{Stay, Ahead, Back}
use Rattle.player_walk.proofs.Walk.{move_is}
use Rattle.player_groups.specs.Family.{is_sibling, siblings, Current}
use Rattle.player_groups.proofs.Rising.{placed, stands}

pub alone_is : (groups : List ℕ) (g : ℕ) → g ≡ 0 → siblings groups g ≡ 0 ∷ []
unfolding siblings
alone_is groups g e = rw (eq-eqb g 0 e)

pub line_is : (groups : List ℕ) (g : ℕ) → (g ≡ 0 → ⊥) → siblings groups g ≡ those (is_sibling groups g) (span 0 (group_count groups))
unfolding siblings
line_is groups g n = rw (ne_eqb g 0 n)

-- moves along a list of one element
pub lone_apart : (k : ℕ) → k < 1 → place (get_or (0 ∷ []) k 0) (0 ∷ []) ≡ k
lone_apart zero h = refl
lone_apart (suc k) h = absurd (not-suc-le-zero (le_of_suc-le-suc h))

lone_way : (w : Way) → then (goto_place false 1 0 w) (λ x. Some 0) ≡ then (goto_place false 1 0 w) (at (0 ∷ []))
lone_way Stay = refl
lone_way (Ahead zero) = refl
lone_way (Ahead (suc m)) = rw (le-ltb (suc m) 1 (omega arith))
lone_way (Back zero) = refl
lone_way (Back (suc m)) = rw (le-ltb (suc m) 1 (omega arith))

lone_place : (step : Step) → then (place_after step false 1 0) (λ x. Some 0) ≡ then (place_after step false 1 0) (at (0 ∷ []))
unfolding place_after
lone_place Previous = refl
lone_place Next = refl
lone_place First = refl
lone_place Last = refl
lone_place (Goto n) = lone_way (way_of (signed_word n))

pub lone_move : (groups : List ℕ) (g : ℕ) (step : Step) → g ≡ 0 → (p : Option ℕ) → p ≡ place_after step false 1 0 → then p (λ x. Some g) ≡ move_in step false (siblings groups g) g
lone_move groups g step e p h =
    rw (alone_is groups g e, e, h) (lone_place step ∙ sym (move_is (0 ∷ []) lone_apart step false 0 (omega arith)))

-- a group that has tracks and is not 0 stands among its siblings
module _ (groups : List ℕ) (g : ℕ) (current : Current groups g) (other : g ≡ 0 → ⊥) where
  own : is_sibling groups g (0 + g) ≡ true
  own =
      let u : 0 < tracks_in groups g = current.used in
      rw (zero-add, ne_eqb g 0 other, eq-eqb (parent_of groups g) (parent_of groups g) refl, ne_eqb (tracks_in groups g) 0 (λ e. lt_irrefl 0 (omega arith)))

  module _ (b k n : ℕ) (eb : b ≡ group_count groups) (ek : k ≡ length (those (is_sibling groups g) (span 0 g))) (en : n ≡ length (those (is_sibling groups g) (span 0 b))) where
    pub its_place : (k < n) × (get_or (those (is_sibling groups g) (span 0 b)) k 0 ≡ g)
    its_place =
        let t : g < group_count groups = current.there in
        let s = stands (is_sibling groups g) b 0 g (omega arith) own in
        rw (ek, en) ((s.0, s.1 ∙ zero-add g))

    pub place_within : k < n
    place_within = its_place.0

    pub sibling_move : (step : Step) (p : Option ℕ) → p ≡ place_after step false n k → then p (at (those (is_sibling groups g) (span 0 b))) ≡ move_in step false (siblings groups g) g
    sibling_move step p h =
        let l = those (is_sibling groups g) (span 0 b) in
        ap (λ (q : Option ℕ). then q (at l)) (h ∙ ap (λ (m : ℕ). place_after step false m k) en)
        ∙ sym (move_is l (placed (is_sibling groups g) b 0) step false k (omega (arith, its_place.0)))
        ∙ ap (move_in step false l) its_place.1
        ∙ ap (λ (s : List ℕ). move_in step false s g) (ap (λ (m : ℕ). those (is_sibling groups g) (span 0 m)) eb ∙ sym (line_is groups g other))
