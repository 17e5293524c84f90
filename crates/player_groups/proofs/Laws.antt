-- What a group move tells the layers above: from a group that is there and has tracks it leads to such a group, whose siblings are the same. Assumes nothing.
use mathlib.Core.Path.{◌≡◌, refl, sym, ap, ◌∙◌}
use mathlib.Core.Bool.{true, false, ◌&&◌, not}
use mathlib.Core.Logic.{⊎_elim}
use mathlib.Core.List.{List, [], ◌∷◌}
use Prim.Native.Nat.{ℕ, zero, suc, ◌+◌, ◌<◌, ◌≤◌, suc-le-suc}
use native.Mathlib.Nat.{lt_irrefl}
use native.Mathlib.Omega.{arith}
use borrow.Author.Tests.{eq-eqb, eqb-true}
use lib.Dec.{eqb}
use lib.ListN.{length, get_or}
use Rattle.std.specs.Prelude.{Option, Some, None}
use Rattle.ground.specs.Lists.{span, those}
use Rattle.ground.proofs.Cases.{le_or, clash, and_left, and_right}
use Rattle.catalogue_tables.specs.Tables.{group_count, parent_of, tracks_in}
use Rattle.player_walk.specs.Steps.{at, then, move_in}
use Rattle.player_walk.specs.Places.{place_after}
use Rattle.player_walk.specs.declared.Step.{Step}
use Rattle.player_groups.specs.Family.{is_sibling, siblings, Current}
use Rattle.player_groups.proofs.Rising.{each}
use Rattle.player_groups.proofs.Moves.{line_is, lone_move, sibling_move}

-- what was found in a list is one of its elements
from_at : (P : ℕ → Type 0) (l : List ℕ) (k h : ℕ) → ((j : ℕ) → j < length l → P (get_or l j 0)) → at l k ≡ Some h → P h
from_at P [] k h all e = let z : ◌≡◌ {A = ℕ} 0 1 = cc in absurd (omega arith)
from_at P (x ∷ l) zero h all e = let q : x ≡ h = cc in rw q at (all 0 (omega arith))
from_at P (x ∷ l) (suc k) h all e = from_at P l k h (λ j q. all (suc j) (suc-le-suc q)) e

from_then : (P : ℕ → Type 0) (l : List ℕ) (p : Option ℕ) (h : ℕ) → ((j : ℕ) → j < length l → P (get_or l j 0)) → then p (at l) ≡ Some h → P h
from_then P l (Some k) h all e = from_at P l k h all e
from_then P l None h all e = let z : ◌≡◌ {A = ℕ} 0 1 = cc in absurd (omega arith)

used : (n : ℕ) → not (eqb n 0) ≡ true → 0 < n
used n e = ⊎_elim (λ h. h) (λ h. let z : n ≡ 0 = omega arith in clash (rw (eq-eqb n 0 z) at e)) (le_or 1 n)

pub stays_current : (step : Step) (groups : List ℕ) (g h : ℕ) → Current groups g → move_in step false (siblings groups g) g ≡ Some h → Current groups h
stays_current step groups g h c e = ⊎_elim other lone (le_or 1 g)
  where
    lone : g < 1 → Current groups h
    lone q =
        let z : g ≡ 0 = omega arith in
        same (place_after step false 1 0) (lone_move groups g step z (place_after step false 1 0) refl ∙ e)
      where
        same : (p : Option ℕ) → then p (λ x. Some g) ≡ Some h → Current groups h
        same (Some x) e = let q : g ≡ h = cc in rw q at c
        same None e = let z : ◌≡◌ {A = ℕ} 0 1 = cc in absurd (omega arith)

    passes : (x : ℕ) → 0 ≤ x → x < 0 + group_count groups → is_sibling groups g x ≡ true → Current groups x
    passes x a b t = record {
      few = c.few;
      there = omega arith;
      used = used (tracks_in groups x) (and_right (not (eqb x 0) && eqb (parent_of groups x) (parent_of groups g)) (not (eqb (tracks_in groups x) 0)) t);
    }

    other : 1 ≤ g → Current groups h
    other q =
        let k = length (those (is_sibling groups g) (span 0 g)) in
        let n = length (those (is_sibling groups g) (span 0 (group_count groups))) in
        from_then (Current groups) (those (is_sibling groups g) (span 0 (group_count groups))) (place_after step false n k) h
        (λ j l. each (is_sibling groups g) (Current groups) (group_count groups) 0 j passes l)
        (sibling_move groups g c (λ z. lt_irrefl 0 (omega arith)) (group_count groups) k n refl refl refl step (place_after step false n k) refl ∙ e)

-- the siblings of a sibling are those of the group itself
pub same_siblings : (groups : List ℕ) (g h : ℕ) → (g ≡ 0 → ⊥) → is_sibling groups g h ≡ true → siblings groups h ≡ siblings groups g
same_siblings groups g h other t =
    let front = not (eqb h 0) && eqb (parent_of groups h) (parent_of groups g) in
    let both : front ≡ true = and_left front (not (eqb (tracks_in groups h) 0)) t in
    let far : h ≡ 0 → ⊥ = λ z. lt_irrefl 0 (omega (arith, used h (and_left (not (eqb h 0)) (eqb (parent_of groups h) (parent_of groups g)) both), z)) in
    let parent : parent_of groups h ≡ parent_of groups g = eqb-true _ _ (and_right (not (eqb h 0)) (eqb (parent_of groups h) (parent_of groups g)) both) in
    line_is groups h far
    ∙ ap (λ (q : ℕ). those (λ y. not (eqb y 0) && eqb (parent_of groups y) q && not (eqb (tracks_in groups y) 0)) (span 0 (group_count groups))) parent
    ∙ sym (line_is groups g other)
