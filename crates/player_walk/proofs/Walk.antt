-- A move along a list without repeated elements is a move on its places, so that a walk of many steps need not be walked (SCOPE 10.6). Assumes nothing.
use mathlib.Core.Path.{◌≡◌, refl, sym, ap, ◌∙◌}
use mathlib.Core.Bool.{Bool, true, false}
use mathlib.Core.Logic.{⊎_elim}
use mathlib.Core.List.{List, [], ◌∷◌}
use Prim.Native.Nat.{ℕ, zero, suc, ◌+◌, ◌-◌, ◌%◌, ◌<◌, ◌≤◌}
use native.Mathlib.Nat.{eq-or-lt_of_le, mod-eq_of_lt, mod-lt, add-mod_left, add-zero, zero-add, not-suc-le-zero}
use native.Mathlib.Numerals.{add-one}
use native.Mathlib.Omega.{arith}
use borrow.Author.Tests.{lt-ltb, le-ltb}
use lib.IntN.{ℤ, pos, negsuc}
use lib.ListN.{length, get_or}
use Rattle.std.specs.Prelude.{Option, Some, None}
use Rattle.ground.specs.Cases.{pick}
use Rattle.ground.proofs.Cases.{le_or}
use Rattle.player_walk.specs.declared.Step.{Step}
use Rattle.player_walk.specs.declared.Step.TheVariants.{Previous, Next, First, Last, Goto}
use Rattle.player_walk.specs.Signed.{signed_word}
use Rattle.player_walk.specs.Steps.{at, before, place, first_of, last_of, step_next, step_previous, then, walk, goto, move_in}
use Rattle.player_walk.specs.Places.{way_of, wrap, mirror, goto_place, place_after}

-- what stands at a place that is there, and at one that is not
pub at_is : (l : List ℕ) (k : ℕ) → k < length l → at l k ≡ Some (get_or l k 0)
at_is [] k h = absurd (not-suc-le-zero h)
at_is (x ∷ l) zero h = refl
at_is (x ∷ l) (suc k) h = at_is l k (omega arith)

pub at_none : (l : List ℕ) (k : ℕ) → length l ≤ k → at l k ≡ None
at_none [] k h = refl
at_none (x ∷ l) zero h = absurd (not-suc-le-zero h)
at_none (x ∷ l) (suc k) h = at_none l k (omega arith)

-- The elements `elem 0` to `elem (len - 1)` stand in the order of the step: the step leads from each to the next. From the last it leads to the first where the
-- list repeats, and else nowhere.
module _ (step : ℕ → Option ℕ) (len : ℕ) (elem : ℕ → ℕ) (on : (k : ℕ) → suc k < len → step (elem k) ≡ Some (elem (suc k))) where
  once : ((k : ℕ) → suc k ≡ len → step (elem k) ≡ None) → (m k : ℕ) → k < len → walk step m (elem k) ≡ then (wrap false len (k + m)) (λ p. Some (elem p))
  once over zero k h = rw (add-zero, lt-ltb k len h)
  once over (suc m) k h = ⊎_elim last (λ q. inner q (once over m (suc k) q)) (eq-or-lt_of_le h)
    where
      last : suc k ≡ len → walk step (suc m) (elem k) ≡ then (wrap false len (k + suc m)) (λ p. Some (elem p))
      last e = rw (over k e, le-ltb (k + suc m) len (omega arith))

      inner : suc k < len → walk step m (elem (suc k)) ≡ then (wrap false len (suc k + m)) (λ p. Some (elem p)) → walk step (suc m) (elem k) ≡ then (wrap false len (k + suc m)) (λ p. Some (elem p))
      inner q r =
          let e : k + suc m ≡ suc k + m = omega arith in
          rw (on k q, e) r

  round : ((k : ℕ) → suc k ≡ len → step (elem k) ≡ Some (elem 0)) → (m k : ℕ) → k < len → walk step m (elem k) ≡ Some (elem ((k + m) % len))
  round over zero k h = rw (add-zero, mod-eq_of_lt h)
  round over (suc m) k h = ⊎_elim (λ e. last e (round over m 0 (omega arith))) (λ q. inner q (round over m (suc k) q)) (eq-or-lt_of_le h)
    where
      last : suc k ≡ len → walk step m (elem 0) ≡ Some (elem ((0 + m) % len)) → walk step (suc m) (elem k) ≡ Some (elem ((k + suc m) % len))
      last e r =
          let q : k + suc m ≡ len + m = omega arith in
          rw (over k e, q, add-mod_left len m) (rw zero-add at r)

      inner : suc k < len → walk step m (elem (suc k)) ≡ Some (elem ((suc k + m) % len)) → walk step (suc m) (elem k) ≡ Some (elem ((k + suc m) % len))
      inner q r =
          let e : k + suc m ≡ suc k + m = omega arith in
          rw (on k q, e) r

  -- from the first, whether the list repeats or not: past the end as `over` says
  pub walked : (repeat : Bool) → ((k : ℕ) → suc k ≡ len → step (elem k) ≡ pick repeat (Some (elem 0)) None) → 0 < len → (m : ℕ)
      → walk step m (elem 0) ≡ then (wrap repeat len m) (λ p. Some (elem p))
  walked true over some m = round over m 0 some ∙ ap (λ (n : ℕ). Some (elem (n % len))) (zero-add m)
  walked false over some m = once over m 0 some ∙ ap (λ (n : ℕ). then (wrap false len n) (λ p. Some (elem p))) (zero-add m)

-- two functions that agree at every place of the list lead to the same
then_places : (repeat : Bool) (len m : ℕ) (f g : ℕ → Option ℕ) → 0 < len → ((p : ℕ) → p < len → f p ≡ g p) → then (wrap repeat len m) f ≡ then (wrap repeat len m) g
then_places true len m f g some h = h (m % len) (mod-lt m some)
then_places false len m f g some h = ⊎_elim (λ q. rw (le-ltb m len q)) (λ q. rw (lt-ltb m len q) (h m q)) (le_or len m)

mirror_places : (repeat : Bool) (len m : ℕ) (f : ℕ → Option ℕ) → 0 < len → then (mirror len (wrap repeat len m)) f ≡ then (wrap repeat len m) (λ p. f (len - 1 - p))
mirror_places true len m f some = rw (lt-ltb (m % len) len (mod-lt m some))
mirror_places false len m f some = ⊎_elim (λ q. rw (le-ltb m len q)) (λ q. rw (lt-ltb m len q, lt-ltb m len q)) (le_or len m)

module _ (l : List ℕ) (apart : (k : ℕ) → k < length l → place (get_or l k 0) l ≡ k) where
  elem : ℕ → ℕ
  elem k = get_or l k 0

  -- the elements counted from the end
  behind : ℕ → ℕ
  behind k = get_or l (length l - 1 - k) 0

  first_is : 0 < length l → first_of l ≡ Some (get_or l 0 0)
  first_is some = at_is l 0 some

  last_is : 0 < length l → last_of l ≡ Some (get_or l (length l - 1) 0)
  last_is some = let e : length l ≡ suc (length l - 1) = omega arith in ap (before l) e ∙ at_is l (length l - 1) (omega arith)

  next_is : (repeat : Bool) (k : ℕ) → suc k < length l → step_next repeat l (get_or l k 0) ≡ Some (get_or l (suc k) 0)
  next_is repeat k h = rw (apart k (omega arith), at_is l (suc k) h)

  next_over : (repeat : Bool) (k : ℕ) → suc k ≡ length l → step_next repeat l (get_or l k 0) ≡ pick repeat (Some (get_or l 0 0)) None
  next_over true k e = rw (apart k (omega arith), at_none l (suc k) (omega arith)) (first_is (omega arith))
  next_over false k e = rw (apart k (omega arith), at_none l (suc k) (omega arith))

  previous_is : (repeat : Bool) (k : ℕ) → suc k < length l → step_previous repeat l (get_or l (suc k) 0) ≡ Some (get_or l k 0)
  previous_is repeat k h = rw (apart (suc k) h, at_is l k (omega arith))

  previous_over : (repeat : Bool) → 0 < length l → step_previous repeat l (get_or l 0 0) ≡ pick repeat (Some (get_or l (length l - 1) 0)) None
  previous_over true some = rw (apart 0 some) (last_is some)
  previous_over false some = rw (apart 0 some)

  ahead_is : (repeat : Bool) (m : ℕ) → 0 < length l → walk (step_next repeat l) m (get_or l 0 0) ≡ then (wrap repeat (length l) m) (at l)
  unfolding elem
  ahead_is repeat m some =
      walked (step_next repeat l) (length l) elem (next_is repeat) repeat (next_over repeat) some m
      ∙ then_places repeat (length l) m (λ p. Some (elem p)) (at l) some (λ p h. sym (at_is l p h))

  back_is : (repeat : Bool) (m : ℕ) → 0 < length l → walk (step_previous repeat l) m (get_or l (length l - 1) 0) ≡ then (mirror (length l) (wrap repeat (length l) m)) (at l)
  unfolding behind
  back_is repeat m some =
      ap (λ (n : ℕ). walk (step_previous repeat l) m (get_or l n 0)) (let e : length l - 1 ≡ length l - 1 - 0 = omega arith in e)
      ∙ walked (step_previous repeat l) (length l) behind on repeat over some m
      ∙ then_places repeat (length l) m (λ p. Some (behind p)) (λ p. at l (length l - 1 - p)) some (λ p h. sym (at_is l (length l - 1 - p) (omega arith)))
      ∙ sym (mirror_places repeat (length l) m (at l) some)
    where
      on : (k : ℕ) → suc k < length l → step_previous repeat l (behind k) ≡ Some (behind (suc k))
      on k h =
          let e : length l - 1 - k ≡ suc (length l - 1 - suc k) = omega arith in
          rw e (previous_is repeat (length l - 1 - suc k) (omega arith))

      over : (k : ℕ) → suc k ≡ length l → step_previous repeat l (behind k) ≡ pick repeat (Some (behind 0)) None
      over k h =
          let e : length l - 1 - k ≡ 0 = omega arith in
          let z : length l - 1 - 0 ≡ length l - 1 = omega arith in
          rw (e, z) (previous_over repeat some)

  goto_is : (z : ℤ) (repeat : Bool) (k : ℕ) → k < length l
      → goto z (get_or l k 0) (first_of l) (step_next repeat l) (last_of l) (step_previous repeat l) ≡ then (goto_place repeat (length l) k (way_of z)) (at l)
  unfolding goto
  goto_is (pos zero) repeat k h = sym (at_is l k h)
  goto_is (pos (suc m)) repeat k h = rw (first_is (omega arith)) (ahead_is repeat m (omega arith))
  goto_is (negsuc m) repeat k h = rw (last_is (omega arith)) (back_is repeat m (omega arith))

  -- THE LAW: a move from the element at place k is the move from place k
  pub move_is : (step : Step) (repeat : Bool) (k : ℕ) → k < length l → move_in step repeat l (get_or l k 0) ≡ then (place_after step repeat (length l) k) (at l)
  unfolding move_in place_after
  move_is Previous repeat zero h = previous_over repeat h ∙ end repeat
    where
      end : (r : Bool) → pick r (Some (get_or l (length l - 1) 0)) None ≡ then (pick r (Some (length l - 1)) None) (at l)
      end true = sym (at_is l (length l - 1) (omega arith))
      end false = refl
  move_is Previous repeat (suc k) h =
      let e : suc k - 1 ≡ k = omega arith in
      rw (lt-ltb 0 (suc k) (omega arith), e) (previous_is repeat k h ∙ sym (at_is l k (omega arith)))
  move_is Next repeat k h =
      ⊎_elim
      (λ e. rw (le-ltb (k + 1) (length l) (omega arith)) (next_over repeat k e ∙ end repeat))
      (λ q. rw (lt-ltb (k + 1) (length l) (omega arith), add-one) (next_is repeat k q ∙ sym (at_is l (suc k) q)))
      (eq-or-lt_of_le h)
    where
      end : (r : Bool) → pick r (Some (get_or l 0 0)) None ≡ then (pick r (Some 0) None) (at l)
      end true = sym (at_is l 0 (omega arith))
      end false = refl
  move_is First repeat k h = refl
  move_is Last repeat k h = last_is (omega arith) ∙ sym (at_is l (length l - 1) (omega arith))
  move_is (Goto n) repeat k h = goto_is (signed_word n) repeat k h
