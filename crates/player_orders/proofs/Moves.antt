-- The tracks in a playing order: the current one alone, or the run put in order, along which a move is a move on places. Assumes nothing.
use mathlib.Core.Path.{◌≡◌, sym, ap, ◌∙◌}
use mathlib.Core.Bool.{Bool}
use mathlib.Core.List.{List}
use Prim.Native.Nat.{ℕ, ◌+◌, ◌≤◌, ◌<◌}
use borrow.Author.Tests.{le-leb, lt-leb}
use lib.ListN.{get_or}
use Rattle.std.specs.Prelude.{Option}
use Rattle.ground.specs.Limits.{most_tracks}
use Rattle.ground.specs.Lists.{span}
use Rattle.player_walk.specs.Steps.{at, before, place, or_else, then, move_in}
use Rattle.player_walk.specs.Places.{place_after}
use Rattle.player_walk.specs.declared.Step.{Step}
use Rattle.player_walk.specs.declared.Step.TheVariants.{Previous, Next, First, Last}
use Rattle.player_walk.proofs.Walk.{move_is}
use Rattle.player_orders.specs.declared.By.{By}
use Rattle.player_orders.specs.Order.{ordered, by_of, repeats, tracks_in_order}
use Rattle.player_orders.specs.Keys.{key_of, below}
use Rattle.player_orders.proofs.Span.{how_many, apart_places, at_member, rank_is, after_is, below_top, below_zero}

module _ (by : By) (tracks : List ℕ) (first count : ℕ) (small : first + count ≤ most_tracks) where
  -- from t, whose place is k, by way of the place p
  pub moves : (step : Step) (repeat : Bool) (t k : ℕ) (p q : Option ℕ) → first ≤ t → t < first + count
      → k ≡ place t (ordered by tracks first count) → p ≡ place_after step repeat count k → p ≡ q
      → then q (at (ordered by tracks first count)) ≡ move_in step repeat (ordered by tracks first count) t
  moves step repeat t k p q a b ek ep eq =
      let l = ordered by tracks first count in
      let i = at_member by tracks first count small t a b in
      let ei : i.0 ≡ k = sym (apart_places by tracks first count small i.0 i.1) ∙ ap (λ (u : ℕ). place u l) i.2 ∙ sym ek in
      sym (ap (move_in step repeat l) (sym i.2)
      ∙ move_is l (apart_places by tracks first count small) step repeat i.0 i.1
      ∙ (λ j. then (place_after step repeat (how_many by tracks first count small j) (ei j)) (at l))
      ∙ ap (λ (x : Option ℕ). then x (at l)) (sym ep ∙ eq))

  -- the neighbours of t, whose key is x, and the ends, by how many keys are below a number
  module _ (words : (i : ℕ) → get_or tracks i 0 < 0x1_0000_0000) (t : ℕ) (low : first ≤ t) (high : t < first + count) (step : Step) (repeat : Bool) {x : ℕ} (ex : x ≡ key_of by tracks t) where
    pub to_previous : step ≡ Previous → or_else (before (ordered by tracks first count) (below (key_of by tracks) x (span first count))) repeat (before (ordered by tracks first count) (below (key_of by tracks) 0xFFFF_FFFF_FFFF_FFFF (span first count))) ≡ move_in step repeat (ordered by tracks first count) t
    unfolding move_in
    to_previous e = rw (e, ex, rank_is by tracks first count small words t low high, below_top by tracks first count small words)

    pub to_next : step ≡ Next → or_else (at (ordered by tracks first count) (below (key_of by tracks) (x + 1) (span first count))) repeat (at (ordered by tracks first count) (below (key_of by tracks) 0 (span first count))) ≡ move_in step repeat (ordered by tracks first count) t
    unfolding move_in
    to_next e = rw (e, ex, after_is by tracks first count small words t low high, below_zero (key_of by tracks) first count)

    pub to_first : step ≡ First → at (ordered by tracks first count) (below (key_of by tracks) 0 (span first count)) ≡ move_in step repeat (ordered by tracks first count) t
    unfolding move_in
    to_first e = rw (e, below_zero (key_of by tracks) first count)

    pub to_last : step ≡ Last → before (ordered by tracks first count) (below (key_of by tracks) 0xFFFF_FFFF_FFFF_FFFF (span first count)) ≡ move_in step repeat (ordered by tracks first count) t
    unfolding move_in
    to_last e = rw (e, below_top by tracks first count small words)

module _ (order : ℕ) (tracks : List ℕ) (first count t : ℕ) where
  -- in orders 1 and 2 the current track is alone (SCOPE 11.1)
  alone : (by : By) → order ≤ 2 → ordered by tracks t 1 ≡ tracks_in_order order tracks first count t
  unfolding ordered tracks_in_order
  alone by h = rw (le-leb order 2 h)

  pub many : 2 < order → ordered (by_of order) tracks first count ≡ tracks_in_order order tracks first count t
  unfolding tracks_in_order
  many h = rw (lt-leb order 2 h)

  -- a move along each of the two
  module _ (step : Step) (by : By) where
    pub along_one : order ≤ 2 → move_in step (repeats order) (ordered by tracks t 1) t ≡ move_in step (repeats order) (tracks_in_order order tracks first count t) t
    along_one h = ap (λ (l : List ℕ). move_in step (repeats order) l t) (alone by h)

    pub along_run : by ≡ by_of order → 2 < order
        → move_in step (repeats order) (ordered by tracks first count) t ≡ move_in step (repeats order) (tracks_in_order order tracks first count t) t
    along_run e h = ap (λ (l : List ℕ). move_in step (repeats order) l t) (ap (λ (b : By). ordered b tracks first count) e ∙ many h)
