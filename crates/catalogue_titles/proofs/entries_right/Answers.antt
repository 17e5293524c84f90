-- `catalogue_titles::entries_right`: after i turns, the rule of the first i entries.
use mathlib.Core.Path.{refl}
use Rattle.ground.specs.Lists.{all_below}
use Rattle.ground.proofs.Bounded.{all_turn}
use Rattle.catalogue_titles.specs.Titles.{entries_rule}
use Rattle.catalogue_titles.proofs.entries_right.Goals as goal

pub loop-i-init : goal.loop-i-init
unfolding all_below entries_rule
loop-i-init c =
    refl

pub loop-i-preserved : goal.loop-i-preserved
unfolding entries_rule
loop-i-preserved c =
    all_turn _ _ _ _ c.loop-i.invariant c.entry_right-right.ensures
