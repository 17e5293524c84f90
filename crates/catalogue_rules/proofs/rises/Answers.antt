-- `catalogue_rules::rises`: after i turns, the rule of the first i pairs of neighbours.
use mathlib.Core.Path.{refl}
use Rattle.ground.specs.Lists.{all_below}
use Rattle.ground.proofs.Bounded.{all_turn, all_end}
use Rattle.catalogue_rules.specs.Rules.{rise_rule}
use Rattle.catalogue_rules.proofs.rises.Goals as goal

pub loop-i-init : goal.loop-i-init
unfolding all_below
loop-i-init c =
    refl

pub loop-i-preserved : goal.loop-i-preserved
loop-i-preserved c =
    all_turn _ _ _ _ c.loop-i.invariant refl

pub returns : goal.returns
unfolding rise_rule
returns c =
    all_end _ c.loop-i.auto.i-end c.loop-i-test.false c.loop-i.invariant
