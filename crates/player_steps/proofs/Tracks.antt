-- The player moves along a group's tracks: along the current one alone in orders 1 and 2, else along the run put in order. Assumes nothing.
use mathlib.Core.Path.{◌≡◌, refl, sym, ap, ◌∙◌}
use mathlib.Core.Bool.{Bool}
use mathlib.Core.Logic.{⊎_elim}
use mathlib.Core.List.{List}
use Prim.Native.Nat.{ℕ, ◌+◌, ◌≤◌, ◌<◌}
use native.Mathlib.Omega.{arith}
use lib.ListN.{get_or}
use Rattle.std.specs.Prelude.{Option}
use Rattle.ground.specs.Limits.{most_tracks}
use Rattle.ground.proofs.Cases.{le_or}
use Rattle.player_walk.specs.Signed.{signed_word}
use Rattle.player_walk.specs.Steps.{at, place, move_in}
use Rattle.player_walk.specs.declared.Step.{Step}
use Rattle.player_walk.specs.declared.Step.TheVariants.{Goto}
use Rattle.player_manual.specs.Made.{by_steps, size, found}
use Rattle.player_manual.specs.Places.{on_places, onto}
use Rattle.player_manual.proofs.Along.{Along, along_from, on_places_lem, along_agrees}
use Rattle.player_orders.specs.declared.By.{By}
use Rattle.player_orders.specs.Order.{ordered, by_of, repeats, InRun}
use Rattle.player_orders.proofs.Span.{how_many, apart_places, at_member, at_place_lem}
use Rattle.player_orders.proofs.Moves.{along_one, along_run}
use Rattle.player_steps.specs.Stepping.{along_tracks}

-- a player that moves along a run put in order, from each of its tracks
module _ (by : By) (tracks : List ℕ) (first count : ℕ) (small : first + count ≤ most_tracks) (repeat : Bool) (own : Step → ℕ → Option ℕ)
    (moves : (s : Step) (u : ℕ) → first ≤ u → u < first + count → own s u ≡ move_in s repeat (ordered by tracks first count) u) where
  module _ (t : ℕ) (low : first ≤ t) (high : t < first + count) where
    in_line : Along own t
    in_line =
        along_from own t (ordered by tracks first count) repeat (apart_places by tracks first count small)
        (λ s k h. let b = at_place_lem by tracks first count small k (rw (how_many by tracks first count small) at h) in moves s (get_or (ordered by tracks first count) k 0) b.0 b.1)
        (at_member by tracks first count small t low high)

    walked : (n allowed : ℕ) → onto (at (ordered by tracks first count)) (by_steps (on_places repeat count) n allowed (place t (ordered by tracks first count))) ≡ by_steps own n allowed t
    unfolding in_line along_from
    walked n allowed =
        sym (on_places_lem own t in_line n allowed
        ∙ ap (λ (c : ℕ). onto (at (ordered by tracks first count)) (by_steps (on_places repeat c) n allowed (place t (ordered by tracks first count)))) (how_many by tracks first count small))

module _ (order : ℕ) (tracks : List ℕ) (words first count t : ℕ) (run : InRun words first count t) where
  -- the run of one track, and the group's run
  alone_small : t + 1 ≤ most_tracks
  alone_small = omega (arith, run.small, run.high)

  moves_alone : (by : By) → order ≤ 2 → (s : Step) (u : ℕ) → t ≤ u → u < t + 1 → along_tracks order tracks first count s u ≡ move_in s (repeats order) (ordered by tracks t 1) u
  moves_alone by h s u a b =
      let e : u ≡ t = omega arith in
      ap (along_tracks order tracks first count s) e ∙ sym (along_one order tracks first count t s by h) ∙ ap (move_in s (repeats order) (ordered by tracks t 1)) (sym e)

  moves_run : (by : By) → by ≡ by_of order → 2 < order → (s : Step) (u : ℕ) → first ≤ u → u < first + count
      → along_tracks order tracks first count s u ≡ move_in s (repeats order) (ordered by tracks first count) u
  moves_run by e h s u a b = sym (along_run order tracks first count u s by e h)

  -- what the code walks on is what the player walks along
  pub walked_alone : (by : By) → order ≤ 2 → (n allowed : ℕ)
      → onto (at (ordered by tracks t 1)) (by_steps (on_places (repeats order) 1) n allowed (place t (ordered by tracks t 1))) ≡ by_steps (along_tracks order tracks first count) n allowed t
  walked_alone by h n allowed = walked by tracks t 1 alone_small (repeats order) (along_tracks order tracks first count) (moves_alone by h) t (omega arith) (omega arith) n allowed

  pub walked_run : (by : By) → by ≡ by_of order → 2 < order → (n allowed : ℕ)
      → onto (at (ordered by tracks first count)) (by_steps (on_places (repeats order) count) n allowed (place t (ordered by tracks first count))) ≡ by_steps (along_tracks order tracks first count) n allowed t
  walked_run by e h n allowed = walked by tracks first count run.small (repeats order) (along_tracks order tracks first count) (moves_run by e h) t run.low run.high n allowed

  -- with |n| or more allowed, it is the player's own Goto Track (SCOPE 15.8)
  tracks_along : Along (along_tracks order tracks first count) t
  tracks_along =
      ⊎_elim
      (λ h. in_line (by_of order) tracks first count run.small (repeats order) (along_tracks order tracks first count) (moves_run (by_of order) refl h) t run.low run.high)
      (λ h. in_line (by_of order) tracks t 1 alone_small (repeats order) (along_tracks order tracks first count) (moves_alone (by_of order) (omega arith)) t (omega arith) (omega arith))
      (le_or 3 order)

  pub tracks_agree : (n allowed : ℕ) → size (signed_word n) ≤ allowed → found (by_steps (along_tracks order tracks first count) n allowed t) ≡ along_tracks order tracks first count (Goto n) t
  tracks_agree n allowed = along_agrees (along_tracks order tracks first count) t tracks_along n allowed
