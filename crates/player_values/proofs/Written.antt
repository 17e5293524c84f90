-- What is written to 11, 12 and 14 is what is then read of them (SCOPE 14.2 to 14.4, 16.5, 16.6). Assumes nothing.
use mathlib.Core.Path.{◌≡◌, ap, ◌∙◌}
use mathlib.Core.Bool.{true}
use mathlib.Core.List.{List}
use Prim.Native.Nat.{ℕ, ◌+◌, ◌-◌}
use native.Mathlib.Omega.{arith}
use Rattle.ground.specs.Cases.{pick}
use Rattle.catalogue_tables.specs.Objects.{track_object, group_object}
use Rattle.player_groups.specs.Family.{Current}
use Rattle.player_state.specs.declared.Player.{Player}
use Rattle.player_state.specs.Player.{is_active, naming}
use Rattle.player_moves.specs.Moves.{Shaped}
use Rattle.player_moves.specs.Clock.{track_written, group_written}
use Rattle.player_moves.proofs.Arrived.{track_arrives, group_arrives}
use Rattle.player_moves.proofs.Named.{next_named}
use Rattle.player_values.specs.Values.{track_found, track_now, next_now, group_now}

module _ (p : Player) (active : is_active p ≡ true) where
  pub track_shown : (t : ℕ) → track_now (track_written t p) ≡ track_object t
  unfolding track_now
  track_shown t = let on = track_arrives p active t in λ i. pick (on.active i) (track_object (on.track i)) 0

  pub next_shown : (groups tracks : List ℕ) (t : ℕ) → next_now groups tracks (naming t p) ≡ track_object t
  unfolding next_now
  next_shown groups tracks t =
      let named = next_named groups tracks (naming t p) (λ e. omega (arith, e)) in
      let back : t + 1 - 1 ≡ t = omega arith in
      (λ i. pick (active i) (track_found (named i)) 0) ∙ ap track_object back

  pub group_shown : (groups tracks segments : List ℕ) → Shaped groups tracks segments → (g : ℕ) → Current groups g
      → group_now (group_written groups tracks g p) ≡ group_object g
  unfolding group_now
  group_shown groups tracks segments s g there =
      let on = (group_arrives p active groups tracks segments s g there).1 in λ i. pick (on.active i) (group_object (on.group i)) 0
