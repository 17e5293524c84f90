-- `catalogue_cue::no_lf`: none of the octets so far is one.
use mathlib.Core.Path.{refl}
use Rattle.ground.specs.Lists.{all_below}
use Rattle.ground.proofs.Bounded.{all_turn}
use Rattle.catalogue_cue.proofs.no_lf.Goals as goal

pub loop-octet-init : goal.loop-octet-init
unfolding all_below
loop-octet-init c =
    refl

pub loop-octet-preserved : goal.loop-octet-preserved
loop-octet-preserved c =
    all_turn _ _ _ _ c.loop-octet.invariant refl
