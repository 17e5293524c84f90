-- Where a write of 11 and of 14 leads a player that is not Inactive: to that track, and to that group (SCOPE 14.2, 14.3). Assumes nothing.
use mathlib.Core.Path.{◌≡◌, refl, sym, subst}
use mathlib.Core.Bool.{true}
use mathlib.Core.List.{List}
use Prim.Native.Nat.{ℕ}
use lib.Dec.{eqb}
use lib.ListN.{length}
use Rattle.std.specs.Prelude.{Option}
use Rattle.catalogue_tables.specs.Tables.{first_track_of, tracks_in}
use Rattle.player_orders.proofs.Laws.{entry_finds}
use Rattle.player_groups.specs.Family.{Current}
use Rattle.player_state.specs.declared.Player.{Player}
use Rattle.player_state.specs.Player.{playing, seeking, is_active, in_mode, at_place}
use Rattle.player_state.specs.Modes.{moved_to}
use Rattle.player_moves.specs.Moves.{entry_of, Shaped}
use Rattle.player_moves.specs.Control.{success, onward}
use Rattle.player_moves.specs.Clock.{track_written, group_written}
use Rattle.player_moves.proofs.Choices.{by_test}
use Rattle.player_moves.proofs.Ready.{current_run}

-- an active player on this track of this group
pub record On (g t : ℕ) (p : Player) : Type 0 where
  pub active : is_active p ≡ true
  pub group : p.place.group.0 ≡ g
  pub track : p.place.track.0 ≡ t

module _ (p : Player) (active : is_active p ≡ true) where
  arrives : (g t : ℕ) → On g t (moved_to g t p)
  unfolding moved_to
  arrives g t =
      by_test (λ q. On g t (at_place g t 0 q)) (eqb p.mode.media seeking) (in_mode playing 0 p) p
      (λ e. record { active = refl; group = refl; track = refl })
      (λ e. record { active = active; group = refl; track = refl })

  pub track_arrives : (t : ℕ) → On p.place.group.0 t (track_written t p)
  unfolding track_written
  track_arrives t = arrives p.place.group.0 t

  pub group_arrives : (groups tracks segments : List ℕ) → Shaped groups tracks segments → (g : ℕ) → Current groups g
      → (t : ℕ) × On g t (group_written groups tracks g p)
  unfolding group_written entry_of
  group_arrives groups tracks segments s g there =
      let entry = entry_finds p.mode.order tracks (length tracks) (first_track_of groups g) (tracks_in groups g) (current_run groups tracks segments s g there) there.used in
      (entry.0, subst (λ (near : Option ℕ). On g entry.0 (onward near (λ t. success (moved_to g t p)) p).player) (sym entry.1) (arrives g entry.0))
