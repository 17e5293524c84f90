-- The next track: the one that is named, or else that of the order (SCOPE 14.5). Assumes nothing.
use mathlib.Core.Path.{◌≡◌, refl, ap}
use mathlib.Core.List.{List}
use Prim.Native.Nat.{ℕ, zero, suc, ◌-◌}
use native.Mathlib.Omega.{arith}
use Rattle.std.specs.Prelude.{Option, Some}
use Rattle.player_walk.specs.declared.Step.TheVariants.{Next}
use Rattle.player_state.specs.declared.Player.{Player}
use Rattle.player_moves.specs.Moves.{track_after, named, or_in_order, next_track}

named_some : (n : ℕ) → (n ≡ 0 → ⊥) → named n ≡ Some (n - 1)
named_some zero some = absurd (some refl)
named_some (suc t) some =
    let e : t ≡ suc t - 1 = omega arith in
    ap Some e

module _ (groups tracks : List ℕ) (p : Player) where
  pub next_named : (p.upcoming ≡ 0 → ⊥) → next_track groups tracks p ≡ Some (p.upcoming - 1)
  unfolding next_track
  next_named some = ap (λ (n : Option ℕ). or_in_order n (track_after groups tracks Next p)) (named_some p.upcoming some)

  pub next_ordered : p.upcoming ≡ 0 → next_track groups tracks p ≡ track_after groups tracks Next p
  unfolding next_track
  next_ordered none = ap (λ (n : ℕ). or_in_order (named n) (track_after groups tracks Next p)) none
