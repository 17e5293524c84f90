-- `catalogue_cue::is_index_01`: the nine octets, place by place.
use native.Mathlib.Omega.{arith}
use Rattle.ground.specs.Lists.{all_below}
use Rattle.catalogue_cue.specs.Sheet.{octets}
use Rattle.catalogue_cue.proofs.Form.{begins_by_places}
use Rattle.catalogue_cue.proofs.is_index_01.Goals as goal

pub returns : goal.returns
unfolding all_below
returns c =
    begins_by_places (octets "INDEX 01 ") c.args.line.now (omega (arith, c.requires))
