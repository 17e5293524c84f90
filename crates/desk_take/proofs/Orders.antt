-- The rows of each call stand in the order of the table of refusals (SCOPE 20.2). Assumes nothing.
use mathlib.Core.Path.{◌≡◌, refl}
use mathlib.Core.Bool.{Bool, true}
use mathlib.Core.List.{List}
use Prim.Native.Nat.{ℕ}
use Rattle.ground.specs.Refusals.{table, in_order}
use Rattle.catalogue_titles.specs.Lent.{Lent}
use Rattle.player_state.specs.declared.Player.{Player}
use Rattle.desk_client.specs.declared.Client.{Client}
use Rattle.desk_state.specs.declared.Desk.{Desk}
use Rattle.desk_replies.specs.Replies.{fronted}
use Rattle.desk_take.specs.Serving.{own_rows}

module _ (k : Lent) where
  pub take_order : (small : Bool) (d : Desk) → in_order table (fronted k small d) ≡ true
  take_order small d = refl

  pub own_order : (room : ℕ) (players : List Player) (c : Client) → in_order table (own_rows k players c room) ≡ true
  own_order room players c = refl
