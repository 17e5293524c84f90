-- `catalogue_titles::entries_right`: after i turns, the rule of the first i entries.
use mathlib.Core.Path.{◌≡◌}
use Rattle.catalogue_titles.specs.Titles.{entries_rule}
use Rattle.catalogue_titles.proofs.entries_right.Given as goal

abbrev pub invariant-loop-i : goal.invariant-loop-i
invariant-loop-i l = l.good ≡ entries_rule l.i l.renames l.office
