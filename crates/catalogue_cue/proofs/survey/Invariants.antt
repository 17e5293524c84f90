-- `catalogue_cue::survey`: the loop's state is `Judging`.
use Prim.Native.Nat.{◌≤◌, ◌+◌, ◌-◌}
use lib.ListN.{length}
use Rattle.catalogue_cue.proofs.Said.{behind_of}
use Rattle.catalogue_cue.proofs.Judging.{Judging}
use Rattle.catalogue_cue.proofs.survey.Given as goal

abbrev pub invariant-loop-at : goal.invariant-loop-at
invariant-loop-at l = record {
  within : l.at ≤ length l.sheet + 1;
  numbered : l.number ≤ l.at + 1;
  few : l.starts.count ≤ l.number;
  judging : Judging l.sheet (behind_of l.sheet l.room) l.at l.number l.starts.count l.starts.last;
}

abbrev pub decreases-loop-at : goal.decreases-loop-at
decreases-loop-at l = length l.sheet + 1 - l.at
