-- What holds where no row of the call applies: the service is there, the catalogue is shaped, and the service's player stands in it. Assumes nothing.
use mathlib.Core.Path.{◌≡◌}
use mathlib.Core.Bool.{true, false}
use mathlib.Core.List.{List, [], ◌∷◌}
use Prim.Native.Nat.{ℕ, ◌<◌}
use borrow.Author.Tests.{leb-false}
use Rattle.ground.specs.Refusals.{Row}
use Rattle.ground.proofs.Rows.{NoneApplies}
use Rattle.catalogue_titles.specs.Lent.{Lent, catalogue_of}
use Rattle.catalogue_titles.proofs.Laws.{fit_right}
use Rattle.player_check.specs.Standing.{player_rule}
use Rattle.player_moves.specs.Moves.{Shaped}
use Rattle.player_moves.proofs.Ready.{shaped}
use Rattle.desk_slots.specs.Slots.{service_count}
use Rattle.desk_state.specs.declared.Desk.{Desk}
use Rattle.desk_state.specs.Desk.{service_at}
use Rattle.desk_replies.specs.Replies.{service_row, on_service}
use Rattle.desk_replies.proofs.Gates.{fit, player}

module _ (k : Lent) (d : Desk) (service : ℕ) (passed : NoneApplies (on_service k d service)) where
  behind : List Row
  behind = service_row service ∷ []

  pub there : service < service_count
  there = leb-false _ _ passed.1.1.1.1.0

  pub shaped_now : Shaped k.groups k.tracks k.segments
  unfolding behind
  shaped_now = shaped (catalogue_of k) (fit_right k (fit k false d behind passed))

  pub player_now : player_rule k.groups k.tracks (service_at d service).player ≡ true
  unfolding behind
  player_now = player k false d behind passed service there
