-- The rows of the calls stand in the table's order. Assumes nothing.
use mathlib.Core.Path.{◌≡◌, refl}
use mathlib.Core.Bool.{Bool, true}
use mathlib.Core.List.{List, ◌∷◌}
use Prim.Native.Nat.{ℕ}
use Rattle.ground.specs.Refusals.{table, in_order}
use Rattle.catalogue_tables.specs.Tables.{Tables}
use Rattle.catalogue_check.specs.Catalogue.{catalogue_row}
use Rattle.catalogue_objects.specs.declared.Kind.{Kind}
use Rattle.catalogue_objects.specs.Objects.{write_rows}
use Rattle.catalogue_objects.specs.Reading.{read_rows}

pub write_order : (k : Tables) (there : Bool) (octets : List ℕ) (room : ℕ) → in_order table (catalogue_row k ∷ write_rows there octets room) ≡ true
write_order k there octets room = refl

pub read_order : (kind : Kind) (octets : List ℕ) (room : ℕ) → in_order table (read_rows kind octets room) ≡ true
read_order kind octets room = refl
