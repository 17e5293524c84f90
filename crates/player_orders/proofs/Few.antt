-- The track at a place is the one that as many come before. Assumes nothing.
use mathlib.Core.Path.{◌≡◌, sym, ap, ◌∙◌}
use mathlib.Core.List.{List}
use Prim.Native.Nat.{ℕ, ◌+◌, ◌<◌, ◌≤◌}
use lib.ListN.{get_or}
use Rattle.std.specs.Prelude.{Some}
use Rattle.ground.specs.Limits.{most_tracks}
use Rattle.player_walk.specs.Steps.{at, place}
use Rattle.player_walk.proofs.Walk.{at_is}
use Rattle.player_orders.specs.declared.By.{By}
use Rattle.player_orders.specs.Order.{ordered}
use Rattle.player_orders.proofs.Span.{in_list, at_place_lem, apart_places, at_member}

module _ (by : By) (tracks : List ℕ) (first count : ℕ) (small : first + count ≤ most_tracks) (k : ℕ) (h : k < count) where
  pub placed : (t : ℕ) → first ≤ t → t < first + count → place t (ordered by tracks first count) ≡ k → Some t ≡ at (ordered by tracks first count) k
  placed t a b e =
      let l = ordered by tracks first count in
      let i = at_member by tracks first count small t a b in
      let p : place t l ≡ i.0 = rw i.2 at (apart_places by tracks first count small i.0 i.1) in
      ap Some (sym i.2 ∙ ap (λ (n : ℕ). get_or l n 0) (sym p ∙ e)) ∙ sym (at_is l k (in_list by tracks first count small k h))

  -- one track of the run has the place k
  pub some_placed : ((t : ℕ) → first ≤ t → t < first + count → place t (ordered by tracks first count) ≡ k → ⊥) → ⊥
  some_placed none =
      let l = ordered by tracks first count in
      let inside = at_place_lem by tracks first count small k h in
      none (get_or l k 0) inside.0 inside.1 (apart_places by tracks first count small k (in_list by tracks first count small k h))
