-- `catalogue_cue::hundredths_of`: the sum of SCOPE 6.6, as it stands.
use mathlib.Core.Path.{refl}
use Rattle.catalogue_cue.specs.Sheet.{hundredths}
use Rattle.catalogue_cue.proofs.hundredths_of.Goals as goal

pub returns : goal.returns
unfolding hundredths
returns c =
    refl
