-- The rows of the check stand in the order of the table of SCOPE 20.2. Assumes nothing.
use mathlib.Core.Path.{◌≡◌, refl}
use mathlib.Core.Bool.{true}
use Rattle.ground.specs.Refusals.{table, in_order}
use Rattle.catalogue_titles.specs.Lent.{Lent, fit_rows}

pub check_order : (k : Lent) → in_order table (fit_rows k) ≡ true
check_order k = refl
