-- `catalogue_titles::all_zero`: after i turns, whether the first i words are 0.
use mathlib.Core.Path.{refl}
use Rattle.ground.specs.Lists.{all_below}
use Rattle.ground.proofs.Bounded.{all_turn}
use Rattle.catalogue_titles.proofs.all_zero.Goals as goal

pub loop-word-init : goal.loop-word-init
unfolding all_below
loop-word-init c =
    refl

pub loop-word-preserved : goal.loop-word-preserved
loop-word-preserved c =
    all_turn _ _ _ _ c.loop-word.invariant refl
