-- By number the run stands in order as it is, so that a track's place is how far it lies from the first. Assumes nothing.
use mathlib.Core.Path.{◌≡◌, refl, sym, ap, ◌∙◌}
use mathlib.Core.List.{List, ◌∷◌}
use Prim.Native.Nat.{ℕ, zero, suc, ◌+◌, ◌-◌, ◌<◌, ◌≤◌}
use native.Mathlib.Omega.{arith}
use borrow.Author.Tests.{le-ltb}
use lib.ListN.{get_or}
use Rattle.std.specs.Prelude.{Some}
use Rattle.ground.specs.Limits.{most_tracks}
use Rattle.ground.specs.Lists.{span}
use Rattle.player_walk.specs.Steps.{at, place}
use Rattle.player_walk.proofs.Walk.{at_is}
use Rattle.player_orders.specs.declared.By.TheVariants.{Number}
use Rattle.player_orders.specs.Order.{comes_before, insert, sort, ordered}
use Rattle.player_orders.proofs.Span.{in_list, apart_places}

stands : (tracks : List ℕ) (i n : ℕ) → sort (comes_before Number tracks) (span i n) ≡ span i n
unfolding comes_before
stands tracks i zero = refl
stands tracks i (suc n) = ap (insert (comes_before Number tracks) i) (stands tracks (suc i) n) ∙ in_front n
  where
    in_front : (m : ℕ) → insert (comes_before Number tracks) i (span (suc i) m) ≡ i ∷ span (suc i) m
    in_front zero = refl
    in_front (suc m) = rw (le-ltb (suc i) i (omega arith))

span_at : (i n k : ℕ) → k < n → get_or (span i n) k 0 ≡ i + k
span_at i zero k h = elim h [ ]
span_at i (suc n) zero h = omega arith
span_at i (suc n) (suc k) h = span_at (suc i) n k (omega arith) ∙ omega arith

module _ (tracks : List ℕ) (first count : ℕ) (small : first + count ≤ most_tracks) where
  number_of_place : (k : ℕ) → k < count → get_or (ordered Number tracks first count) k 0 ≡ first + k
  unfolding ordered
  number_of_place k h = ap (λ (l : List ℕ). get_or l k 0) (stands tracks first count) ∙ span_at first count k h

  pub number_at_lem : (k : ℕ) → k < count → Some (first + k) ≡ at (ordered Number tracks first count) k
  number_at_lem k h = sym (at_is (ordered Number tracks first count) k (in_list Number tracks first count small k h) ∙ ap Some (number_of_place k h))

  pub number_place : (t : ℕ) → first ≤ t → t < first + count → t - first ≡ place t (ordered Number tracks first count)
  number_place t a b =
      let k = t - first in
      let h : k < count = omega arith in
      let e : get_or (ordered Number tracks first count) k 0 ≡ t = number_of_place k h ∙ omega arith in
      sym (rw e at (apart_places Number tracks first count small k (in_list Number tracks first count small k h)))
