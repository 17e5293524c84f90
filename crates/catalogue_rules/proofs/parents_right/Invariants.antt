-- `catalogue_rules::parents_right`: after i turns, the rule of the first i groups.
use mathlib.Core.Path.{◌≡◌}
use Rattle.ground.specs.Lists.{all_below}
use Rattle.catalogue_tables.specs.Tables.{parent_of}
use Rattle.catalogue_rules.specs.Rules.{parent_right}
use Rattle.catalogue_rules.proofs.parents_right.Given as goal

abbrev pub invariant-loop-i : goal.invariant-loop-i
invariant-loop-i l = l.good ≡ all_below l.i (λ g. parent_right g (parent_of l.groups g))
