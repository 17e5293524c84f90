-- A Goto by single steps along a list is one on the places of the list, with what stands there: the same outcome and the same count. Assumes nothing.
use mathlib.Core.Path.{◌≡◌, refl, sym, ap, ◌∙◌}
use mathlib.Core.Bool.{Bool}
use mathlib.Core.List.{List}
use Prim.Native.Nat.{ℕ, zero, suc, ◌+◌, ◌<◌, ◌≤◌}
use lib.IntN.{ℤ, pos, negsuc}
use lib.ListN.{length, get_or}
use Rattle.std.specs.Prelude.{Option, Some, None}
use Rattle.player_walk.specs.Signed.{signed_word}
use Rattle.player_walk.specs.Steps.{at, place, then, goto, move_in}
use Rattle.player_walk.specs.Places.{place_after}
use Rattle.player_walk.specs.declared.Step.{Step}
use Rattle.player_walk.specs.declared.Step.TheVariants.{Previous, Next, First, Last, Goto}
use Rattle.player_walk.proofs.Walk.{at_is, move_is}
use Rattle.player_manual.specs.Made.{more, counted, steps, from_end, goto_by_steps, by_steps, size, found}
use Rattle.player_manual.specs.Places.{on_places, landed, onto}
use Rattle.player_manual.specs.declared.Made.{Made}
use Rattle.player_manual.specs.declared.Made.TheVariants.{All, Stopped, RanOut}
use Rattle.player_manual.proofs.Places.{Holds, placed}
use Rattle.player_manual.proofs.Steps.{enough_steps}

-- One walk stands for another: in the one the number k stands for what is at the place k. `P` says which k are places.
module _ (what : ℕ → Option ℕ) (P : ℕ → Type 0) (there : (k : ℕ) → P k → (x : ℕ) × (what k ≡ Some x)) where
  onto_more : (k : ℕ) (r : Made ℕ) → more k (onto what r) ≡ onto what (more k r)
  onto_more k (All j n) = go (what j)
    where
      go : (p : Option ℕ) → more k (landed p n) ≡ landed p (k + n)
      go (Some x) = refl
      go None = refl
  onto_more k (Stopped n) = refl
  onto_more k (RanOut n) = refl

  onto_counted : (p : Option ℕ) (go on : ℕ → Made ℕ) → Holds P p → ((k x : ℕ) → P k → what k ≡ Some x → go x ≡ onto what (on k)) → counted (then p what) go ≡ onto what (counted p on)
  onto_counted (Some k) go on h e = let t = there k h in ap (λ (q : Option ℕ). counted q go) t.1 ∙ ap (more 1) (e k t.0 h t.1) ∙ onto_more 1 (on k)
  onto_counted None go on h e = refl

  module _ (f g : ℕ → Option ℕ) (same : (k x : ℕ) → P k → what k ≡ Some x → f x ≡ then (g k) what) (stay : (k : ℕ) → P k → Holds P (g k)) where
    same_steps : (allowed m k x : ℕ) → P k → what k ≡ Some x → steps f allowed m x ≡ onto what (steps g allowed m k)
    same_steps allowed zero k x h e = sym (ap (λ (q : Option ℕ). landed q 0) e)
    same_steps zero (suc m) k x h e = refl
    same_steps (suc allowed) (suc m) k x h e =
        ap (λ (q : Option ℕ). counted q (steps f allowed m)) (same k x h e)
        ∙ onto_counted (g k) (steps f allowed m) (steps g allowed m) (stay k h) (same_steps allowed m)

    same_from : (first first' : Option ℕ) → first ≡ then first' what → Holds P first' → (allowed m : ℕ) → from_end first f allowed m ≡ onto what (from_end first' g allowed m)
    same_from first first' e w zero m = refl
    same_from first first' e w (suc allowed) m =
        ap (λ (q : Option ℕ). counted q (steps f allowed m)) e
        ∙ onto_counted first' (steps f allowed m) (steps g allowed m) w (same_steps allowed m)

  -- so for two players of the five moves
  module _ (f g : Step → ℕ → Option ℕ) (same : (s : Step) (k x : ℕ) → P k → what k ≡ Some x → f s x ≡ then (g s k) what) (stay : (s : Step) (k : ℕ) → P k → Holds P (g s k)) where
    same_goto : (n allowed k x : ℕ) → P k → what k ≡ Some x → by_steps f n allowed x ≡ onto what (by_steps g n allowed k)
    unfolding by_steps goto_by_steps
    same_goto n allowed k x h e = go (signed_word n)
      where
        go : (z : ℤ) → goto_by_steps z allowed x (f First x) (f Next) (f Last x) (f Previous) ≡ onto what (goto_by_steps z allowed k (g First k) (g Next) (g Last k) (g Previous))
        go (pos zero) = sym (ap (λ (q : Option ℕ). landed q 0) e)
        go (pos (suc m)) = same_from (f Next) (g Next) (same Next) (stay Next) (f First x) (g First k) (same First k x h e) (stay First k h) allowed m
        go (negsuc m) = same_from (f Previous) (g Previous) (same Previous) (stay Previous) (f Last x) (g Last k) (same Last k x h e) (stay Last k h) allowed m

-- A player that moves along a list, from each of its elements. No element stands at two places, and x, from where the Goto starts, is one of them.
pub record Along (own : Step → ℕ → Option ℕ) (x : ℕ) : Type 0 where
  pub list : List ℕ
  pub repeat : Bool
  pub apart : (k : ℕ) → k < length list → place (get_or list k 0) list ≡ k
  pub moves : (s : Step) (k : ℕ) → k < length list → own s (get_or list k 0) ≡ move_in s repeat list (get_or list k 0)
  pub within : place x list < length list
  pub stands : get_or list (place x list) 0 ≡ x

-- x by the place at which it stands
unfoldable pub along_from : (own : Step → ℕ → Option ℕ) (x : ℕ) (l : List ℕ) (repeat : Bool) → ((k : ℕ) → k < length l → place (get_or l k 0) l ≡ k)
    → ((s : Step) (k : ℕ) → k < length l → own s (get_or l k 0) ≡ move_in s repeat l (get_or l k 0)) → (k : ℕ) × (k < length l) × (get_or l k 0 ≡ x) → Along own x
along_from own x l repeat apart moves i =
    let e : place x l ≡ i.0 = ap (λ (u : ℕ). place u l) (sym i.2) ∙ apart i.0 i.1 in
    record { list = l; repeat = repeat; apart = apart; moves = moves; within = rw e i.1; stands = rw e i.2 }

module _ (own : Step → ℕ → Option ℕ) (x : ℕ) (a : Along own x) where
  same : (s : Step) (k y : ℕ) → k < length a.list → at a.list k ≡ Some y → own s y ≡ then (place_after s a.repeat (length a.list) k) (at a.list)
  same s k y h e =
      let q : Some (get_or a.list k 0) ≡ Some y = sym (at_is a.list k h) ∙ e in
      let z : get_or a.list k 0 ≡ y = cc in
      ap (own s) (sym z) ∙ a.moves s k h ∙ move_is a.list a.apart s a.repeat k h

  -- its Goto by single steps is that on the list's places
  pub on_places_lem : (n allowed : ℕ) → by_steps own n allowed x ≡ onto (at a.list) (by_steps (on_places a.repeat (length a.list)) n allowed (place x a.list))
  on_places_lem n allowed =
      same_goto (at a.list) (λ j. j < length a.list) (λ j b. (get_or a.list j 0, at_is a.list j b)) own (on_places a.repeat (length a.list)) same
      (λ s j b. placed (length a.list) s a.repeat j b) n allowed (place x a.list) x a.within (at_is a.list (place x a.list) a.within ∙ ap Some a.stands)

-- so, with |n| or more allowed, it is its own Goto: the list's Goto is by definition that of its four single moves
by_definition : (l : List ℕ) (repeat : Bool) (n x : ℕ) → move_in (Goto n) repeat l x ≡ goto (signed_word n) x (move_in First repeat l x) (move_in Next repeat l) (move_in Last repeat l x) (move_in Previous repeat l)
unfolding move_in
by_definition l repeat n x = refl

pub along_agrees : (own : Step → ℕ → Option ℕ) (x : ℕ) → Along own x → (n allowed : ℕ) → size (signed_word n) ≤ allowed → found (by_steps own n allowed x) ≡ own (Goto n) x
along_agrees own x a n allowed enough =
    let l = a.list in
    let itself : Along (λ s. move_in s a.repeat l) x = record { list = l; repeat = a.repeat; apart = a.apart; moves = λ s k h. refl; within = a.within; stands = a.stands } in
    ap found (on_places_lem own x a n allowed ∙ sym (on_places_lem (λ s. move_in s a.repeat l) x itself n allowed))
    ∙ enough_steps (λ s. move_in s a.repeat l) n allowed x (by_definition l a.repeat n x) enough
    ∙ sym (ap (own (Goto n)) (sym a.stands) ∙ a.moves (Goto n) (place x l) a.within ∙ ap (move_in (Goto n) a.repeat l) a.stands)

-- the place that all steps led to, and what stands there
pub landing : (what : ℕ → Option ℕ) (j n : ℕ) (p : Option ℕ) (r : Made ℕ) → p ≡ what j → All j n ≡ r → landed p n ≡ onto what r
landing what j n p r e f = ap (λ (q : Option ℕ). landed q n) e ∙ ap (onto what) f
