-- The rows of each call stand in the order of the table of refusals (SCOPE 20.2). Assumes nothing.
use mathlib.Core.Path.{◌≡◌, refl}
use mathlib.Core.Bool.{true, false}
use mathlib.Core.List.{List, [], ◌∷◌, ◌++◌}
use Prim.Native.Nat.{ℕ}
use Rattle.ground.specs.Refusals.{table, in_order}
use Rattle.catalogue_titles.specs.Lent.{Lent}
use Rattle.player_check.specs.Standing.{name_row}
use Rattle.desk_state.specs.declared.Desk.{Desk}
use Rattle.desk_replies.specs.Replies.{lent_rows, fronted}
use Rattle.desk_console.specs.Console.{Beginning, name_rows, activate_rows, service_rows}

module _ (k : Lent) where
  -- start asks 207 of the one name and then of the other
  pub start_order : (named : Beginning) → in_order table (lent_rows k false ++ (name_row named.name ∷ [])) ≡ true
  start_order named = refl

  module _ (d : Desk) where
    pub name_order : (service : ℕ) (name : List ℕ) → in_order table (fronted k false d ++ name_rows service name) ≡ true
    name_order service name = refl

    pub activate_order : (service g : ℕ) → in_order table (fronted k false d ++ activate_rows k service g) ≡ true
    activate_order service g = refl

    pub service_order : (service : ℕ) → in_order table (fronted k false d ++ service_rows service) ≡ true
    service_order service = refl
