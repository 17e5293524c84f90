-- `catalogue_cue::past_no_lf`: each piece is as many steps as it has octets, and what is still to come starts at the place.
use mathlib.Core.Path.{◌≡◌}
use lib.ListN.{drop}
use Rattle.std.specs.Slice.Iter.{chunks_exact_rest, chunks_exact_size}
use Rattle.catalogue_cue.specs.Scan.{is_lf, Passes}
use Rattle.catalogue_cue.proofs.past_no_lf.Given as goal

abbrev pub invariant-loop-piece : goal.invariant-loop-piece
invariant-loop-piece l = record {
  can_next : (goal.iterator-loop-piece).can_next l.piece-iterator;
  is_finite : (goal.iterator-loop-piece).is_finite l.piece-iterator;
  width : chunks_exact_size l.piece-iterator ≡ l.width;
  rest : chunks_exact_rest l.piece-iterator ≡ drop l.i l.sheet;
  passes : Passes is_lf l.sheet l.at l.i;
}
