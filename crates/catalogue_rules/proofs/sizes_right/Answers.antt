-- `catalogue_rules::sizes_right`: the tests are the rule's own.
use mathlib.Core.Path.{refl}
use Rattle.catalogue_rules.specs.Rules.{sizes_rule}
use Rattle.catalogue_rules.proofs.sizes_right.Goals as goal

pub returns : goal.returns
unfolding sizes_rule
returns c =
    refl
