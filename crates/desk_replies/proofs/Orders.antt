-- The rows of a call on a service stand in the order of the table of refusals (SCOPE 20.2). Assumes nothing.
use mathlib.Core.Path.{◌≡◌, refl}
use mathlib.Core.Bool.{true}
use Prim.Native.Nat.{ℕ}
use Rattle.ground.specs.Refusals.{table, in_order}
use Rattle.catalogue_titles.specs.Lent.{Lent}
use Rattle.desk_state.specs.declared.Desk.{Desk}
use Rattle.desk_replies.specs.Replies.{on_service}

pub on_service_order : (k : Lent) (d : Desk) (service : ℕ) → in_order table (on_service k d service) ≡ true
on_service_order k d service = refl
