-- A walk along the starts: each step leads to the next in a row, so m steps lead to the m-th. Assumes nothing.
use mathlib.Core.Path.{◌≡◌, refl, sym, ap, ◌∙◌}
use mathlib.Core.Logic.{⊎_elim}
use mathlib.Core.List.{List}
use Prim.Native.Nat.{ℕ, zero, suc, ◌+◌, ◌-◌, ◌<◌, ◌≤◌}
use native.Mathlib.Nat.{add-zero, zero-add}
use native.Mathlib.Omega.{arith}
use lib.IntN.{ℤ, pos, negsuc}
use borrow.Author.Tests.{le-ltb}
use lib.Dec.{ltb}
use lib.ListN.{length, get_or}
use Rattle.std.specs.Prelude.{Option, Some, None}
use Rattle.ground.proofs.Cases.{le_or}
use Rattle.player_walk.specs.Places.{way_of}
use Rattle.player_walk.specs.Signed.{signed_word}
use Rattle.player_walk.specs.Steps.{then, walk, goto}
use Rattle.player_walk.specs.declared.Step.TheVariants.{Goto}
use Rattle.player_walk.specs.declared.Way.{Way}
use Rattle.player_walk.specs.declared.Way.TheVariants.{Stay, Ahead, Back}
use Rattle.player_segments.specs.Segments.{previous_start, next_start, first_start, last_start, move_along, segment_starts, segment_move, Rising, Past}
use Rattle.player_segments.specs.Closed.{start_ahead, start_back}
use Rattle.player_segments.proofs.Sides.{least_none}
use Rattle.player_segments.proofs.Cuts.{Rises, cut_at, previous_first, previous_before, next_past, next_here}
use Rattle.player_segments.proofs.Whole.{some, whole_rises, whole_within, from_zero, ahead_is, ahead_over, back_is, back_over}

-- going on from what was found, twice
then_then : (near : Option ℕ) (f g : ℕ → Option ℕ) → then near (λ x. then (f x) g) ≡ then (then near f) g
then_then (Some x) f g = refl
then_then None f g = refl

-- what f leads to from each of a row is the next of it, so m steps lead to the m-th
endless : (f : ℕ → Option ℕ) (row : ℕ → Option ℕ) → ((k : ℕ) → then (row k) f ≡ row (suc k)) → (m k : ℕ) → then (row k) (walk f m) ≡ row (k + m)
endless f row on zero k = rw add-zero (none (row k))
  where
    none : (near : Option ℕ) → then near (walk f zero) ≡ near
    none (Some x) = refl
    none None = refl
endless f row on (suc m) k =
    let e : k + suc m ≡ suc k + m = omega arith in
    rw (then_then (row k) f (walk f m), on k, e) (endless f row on m (suc k))

module _ (l : List ℕ) where
  pub last_is : 0 < length l → start_back l 0 ≡ last_start l
  last_is h = let e : length l - 1 - 0 ≡ length l - 1 = omega arith in back_is l 0 h ∙ ap (λ (n : ℕ). get_or l n 0) e

  module _ (rises : Rises l) where
    -- from a start a step back leads one segment back, since it is 0 past it, and from the first nowhere; so Goto, whose steps back begin on the last
    -- start, goes back by segments
    pub one_back : (j : ℕ) → suc j < length l → previous_start l (get_or l (suc j) 0) ≡ get_or l j 0
    one_back j h =
        let at : suc (suc j) - 1 ≡ suc j = omega arith in
        let to : suc (suc j) - 2 ≡ j = omega arith in
        rw to at (sym (previous_before l rises (get_or l (suc j) 0) (suc (suc j)) (cut_at l rises (suc j) h) (omega arith) (rw at (omega arith))))

    first_stays : 0 < length l → previous_start l (get_or l 0 0) ≡ get_or l 0 0
    first_stays h = sym (previous_first l rises (get_or l 0 0) 1 (cut_at l rises 0 h) refl)

    previous_on : 0 < length l → get_or l 0 0 ≡ 0 → (k : ℕ) → previous_start l (start_back l k) ≡ start_back l (suc k)
    previous_on some begin k = ⊎_elim
        (λ h. rw (back_over l k h, back_over l (suc k) (omega arith)) at_first)
        (λ h. ⊎_elim (last h) (inner h) (le_or (length l) (suc k)))
        (le_or (length l) k)
      where
        at_first : previous_start l 0 ≡ 0
        at_first = rw begin at (first_stays some)

        last : k < length l → length l ≤ suc k → previous_start l (start_back l k) ≡ start_back l (suc k)
        last h q =
            let e : length l - 1 - k ≡ 0 = omega arith in
            rw (back_is l k h, back_over l (suc k) q, e, begin) at_first

        inner : k < length l → suc k < length l → previous_start l (start_back l k) ≡ start_back l (suc k)
        inner h q =
            let e : length l - 1 - k ≡ suc (length l - 1 - suc k) = omega arith in
            rw (back_is l k h, back_is l (suc k) q, e) (one_back (length l - 1 - suc k) (omega arith))

    module _ (past : Option ℕ) (over : (d : ℕ) → past ≡ Some d → (i : ℕ) → i < length l → get_or l i 0 ≤ d) where
      -- from past the last there is nothing further
      stays_past : (near : Option ℕ) → past ≡ near → then near (next_start l past) ≡ near
      unfolding next_start
      stays_past (Some d) e = least_none (λ x. ltb d x) past l (λ i h. le-ltb d (get_or l i 0) (over d e i h)) ∙ e
      stays_past None e = refl

      next_on : (k : ℕ) → then (start_ahead l past k) (next_start l past) ≡ start_ahead l past (suc k)
      next_on k = ⊎_elim
          (λ h. rw (ahead_over l k past h, ahead_over l (suc k) past (omega arith)) (stays_past past refl))
          (λ h. ⊎_elim (last h) (inner h) (le_or (length l) (suc k)))
          (le_or (length l) k)
        where
          last : k < length l → length l ≤ suc k → then (start_ahead l past k) (next_start l past) ≡ start_ahead l past (suc k)
          last h q =
              rw (ahead_is l k past h, ahead_over l (suc k) past q)
              (sym (next_past l rises past (get_or l k 0) (suc k) (cut_at l rises k h) q))

          inner : k < length l → suc k < length l → then (start_ahead l past k) (next_start l past) ≡ start_ahead l past (suc k)
          inner h q =
              rw (ahead_is l k past h, ahead_is l (suc k) past q)
              (sym (next_here l rises past (get_or l k 0) (suc k) (cut_at l rises k h) q))

-- where Goto leads, by the way that its number says
abbrev by_way : List ℕ → Option ℕ → ℕ → Way → Option ℕ
by_way l past p Stay = Some p
by_way l past p (Ahead m) = start_ahead l past m
by_way l past p (Back m) = Some (start_back l m)

module _ (l : List ℕ) (rises : Rises l) (h : 0 < length l) (begin : get_or l 0 0 ≡ 0) (past : Option ℕ)
    (over : (d : ℕ) → past ≡ Some d → (i : ℕ) → i < length l → get_or l i 0 ≤ d) (p : ℕ) where
  goto_is : (z : ℤ) → by_way l past p (way_of z) ≡ goto z p (Some (first_start l)) (next_start l past) (Some (last_start l)) (λ q. Some (previous_start l q))
  unfolding goto
  goto_is (pos zero) = refl
  goto_is (pos (suc m)) =
      sym (rw (ahead_is l 0 past h, zero-add) at (endless (next_start l past) (start_ahead l past) (next_on l rises past over) m 0))
  goto_is (negsuc m) =
      sym (rw (last_is l h, zero-add) at (endless (λ q. Some (previous_start l q)) (λ k. Some (start_back l k)) (λ k. ap (λ (n : ℕ). Some n) (previous_on l rises h begin k)) m 0))

module _ (s : List ℕ) (past : Option ℕ) (p n : ℕ) (rising : Rising s) (over : Past s past) where
  leads : (w : Way) → w ≡ way_of (signed_word n) → by_way (segment_starts s) past p w ≡ segment_move (Goto n) s past p
  unfolding move_along
  leads w e =
      ap (by_way (segment_starts s) past p) e
      ∙ goto_is (segment_starts s) (whole_rises s rising) (some s) (from_zero s rising) past (λ d q. whole_within s d (over d q)) p (signed_word n)

  pub stays : Stay ≡ way_of (signed_word n) → Some p ≡ segment_move (Goto n) s past p
  stays e = leads Stay e

  pub goes_ahead : (m w : ℕ) (q : Option ℕ) → Ahead m ≡ way_of (signed_word n) → w ≡ m → q ≡ start_ahead (segment_starts s) past w → q ≡ segment_move (Goto n) s past p
  goes_ahead m w q e i h = rw (h, i) (leads (Ahead m) e)

  pub goes_back : (m w q : ℕ) → Back m ≡ way_of (signed_word n) → w ≡ m → q ≡ start_back (segment_starts s) w → Some q ≡ segment_move (Goto n) s past p
  goes_back m w q e i h = rw (h, i) (leads (Back m) e)
