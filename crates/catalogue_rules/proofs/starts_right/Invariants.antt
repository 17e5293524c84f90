-- `catalogue_rules::starts_right`: after i turns, the rule of the first i tracks.
use mathlib.Core.Path.{◌≡◌}
use Rattle.ground.specs.Lists.{all_below}
use Rattle.catalogue_tables.specs.Tables.{starts_of, end_of}
use Rattle.catalogue_rules.specs.Rules.{starts_right}
use Rattle.catalogue_rules.proofs.starts_right.Given as goal

abbrev pub invariant-loop-i : goal.invariant-loop-i
invariant-loop-i l = l.good ≡ all_below l.i (λ t. starts_right (starts_of l.tracks l.segments t) (end_of l.tracks t))
