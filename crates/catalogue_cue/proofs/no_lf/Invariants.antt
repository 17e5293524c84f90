-- `catalogue_cue::no_lf`: none of the octets so far is one.
use mathlib.Core.Path.{◌≡◌}
use mathlib.Core.Bool.{not}
use lib.ListN.{get_or}
use Rattle.ground.specs.Lists.{all_below}
use Rattle.catalogue_cue.specs.Scan.{is_lf}
use Rattle.catalogue_cue.proofs.no_lf.Given as goal

abbrev pub invariant-loop-octet : goal.invariant-loop-octet
invariant-loop-octet l = l.good ≡ all_below l.octet-index (λ j. not (is_lf (get_or l.s j 0)))
