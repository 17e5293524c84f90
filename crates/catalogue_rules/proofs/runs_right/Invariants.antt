-- `catalogue_rules::runs_right`: the loop's state is `Following`.
use Prim.Native.Nat.{◌+◌}
use Rattle.catalogue_tables.specs.Tables.{word_in}
use Rattle.catalogue_rules.proofs.Runs.{Following}
use Rattle.catalogue_rules.proofs.runs_right.Given as goal

abbrev pub invariant-loop-i : goal.invariant-loop-i
invariant-loop-i l = Following (λ j. word_in l.width l.table j l.at) (λ j. word_in l.width l.table j (l.at + 1)) l.n l.good l.sum l.i
