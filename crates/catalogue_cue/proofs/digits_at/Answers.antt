-- `catalogue_cue::digits_at`: both octets.
use mathlib.Core.Bool.{◌&&◌}
use Rattle.catalogue_cue.specs.Sheet.{digits_at}
use Rattle.catalogue_cue.proofs.digits_at.Goals as goal

pub returns : goal.returns
unfolding digits_at
returns c =
    λ i. c.is_digit.ensures i && c.is_digit-2.ensures i
