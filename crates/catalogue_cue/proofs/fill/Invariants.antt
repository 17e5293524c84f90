-- `catalogue_cue::fill`: the loop's state is `Filling`.
use mathlib.Core.List.{map}
use Prim.Native.Nat.{◌≤◌, ◌+◌, ◌-◌}
use lib.ListN.{length}
use Rattle.ground.proofs.Filling.{Filling}
use Rattle.catalogue_cue.specs.Sheet.{line_of, sheet_lines, starts_of}
use Rattle.catalogue_cue.specs.Scan.{lines_from, AllUnderstood}
use Rattle.catalogue_cue.proofs.fill.Given as goal

abbrev pub invariant-loop-n : goal.invariant-loop-n
invariant-loop-n l = record {
  within : l.at ≤ length l.sheet + 1;
  filling : Filling (starts_of (sheet_lines l.sheet)) (starts_of (map line_of (lines_from l.sheet l.at))) l.initial.starts l.starts l.n;
  understood : AllUnderstood (map line_of (lines_from l.sheet l.at));
}

abbrev pub decreases-loop-n : goal.decreases-loop-n
decreases-loop-n l = length l.sheet + 1 - l.at
