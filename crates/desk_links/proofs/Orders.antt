-- The rows of each call stand in the order of the table of refusals (SCOPE 20.2). Assumes nothing.
use mathlib.Core.Path.{◌≡◌, refl}
use mathlib.Core.Bool.{Bool, true, false}
use mathlib.Core.List.{◌++◌}
use Prim.Native.Nat.{ℕ}
use Rattle.ground.specs.Refusals.{table, in_order}
use Rattle.catalogue_titles.specs.Lent.{Lent}
use Rattle.desk_state.specs.declared.Desk.{Desk}
use Rattle.desk_replies.specs.Replies.{fronted}
use Rattle.desk_links.specs.Links.{connect_rows, disconnect_rows, slot_rows}

module _ (k : Lent) (d : Desk) (who : ℕ) (connected : Bool) where
  pub connect_order : (mtu : ℕ) → in_order table (fronted k false d ++ connect_rows who connected mtu) ≡ true
  connect_order mtu = refl

  pub disconnect_order : in_order table (fronted k false d ++ disconnect_rows who connected) ≡ true
  disconnect_order = refl

  pub slot_order : (service : ℕ) (encrypted : Bool) (characteristic : ℕ) → in_order table (fronted k false d ++ slot_rows who service connected encrypted characteristic) ≡ true
  slot_order service encrypted characteristic = refl
