-- `catalogue_cue::first_from`: the octets so far do not pass.
use Rattle.catalogue_cue.specs.Scan.{is_it, Passes}
use Rattle.catalogue_cue.proofs.first_from.Given as goal

abbrev pub invariant-loop-i : goal.invariant-loop-i
invariant-loop-i l = Passes (is_it l.x l.equal) l.s l.at l.i
