-- The rows of each call stand in the order of the table of refusals (SCOPE 20.2). Assumes nothing.
use mathlib.Core.Path.{◌≡◌, refl}
use mathlib.Core.Bool.{Bool, true, false}
use mathlib.Core.List.{List, ◌++◌}
use Prim.Native.Nat.{ℕ}
use Rattle.ground.specs.Refusals.{table, in_order}
use Rattle.catalogue_titles.specs.Lent.{Lent}
use Rattle.desk_state.specs.declared.Desk.{Desk}
use Rattle.desk_replies.specs.Replies.{fronted}
use Rattle.desk_exchange.specs.Read.{read_rows}
use Rattle.desk_exchange.specs.Write.{write_rows}

module _ (k : Lent) (d : Desk) (who service characteristic : ℕ) where
  pub read_order : (small connected encrypted inMind : Bool) (offset size : ℕ)
      → in_order table (fronted k small d ++ read_rows who service connected encrypted inMind characteristic offset size) ≡ true
  read_order small connected encrypted inMind offset size = refl

  pub write_order : (connected encrypted may : Bool) (waiting : ℕ) (value : List ℕ)
      → in_order table (fronted k false d ++ write_rows who service connected encrypted may waiting characteristic value) ≡ true
  write_order connected encrypted may waiting value = refl
