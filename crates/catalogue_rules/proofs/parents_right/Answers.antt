-- `catalogue_rules::parents_right`: after i turns, the rule of the first i groups.
use mathlib.Core.Path.{refl, ap, ◌∙◌}
use Rattle.ground.specs.Lists.{all_below}
use Rattle.ground.proofs.Bounded.{all_turn, all_end}
use Rattle.catalogue_rules.specs.Rules.{parent_right, parents_rule}
use Rattle.catalogue_rules.proofs.parents_right.Goals as goal

pub loop-i-init : goal.loop-i-init
unfolding all_below
loop-i-init c =
    refl

pub loop-i-preserved : goal.loop-i-preserved
loop-i-preserved c =
    let l = c.loop-i in
    all_turn _ _ _ _ l.invariant (c.parent_right-right.ensures ∙ ap (parent_right l.i) c.wide_word-parent.ensures.0)

pub returns : goal.returns
unfolding parents_rule
returns c =
    all_end _ c.loop-i.auto.i-end c.loop-i-test.false c.loop-i.invariant
