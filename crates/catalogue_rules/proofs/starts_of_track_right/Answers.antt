-- `catalogue_rules::starts_of_track_right`: the last start stands for all.
use mathlib.Core.Path.{sym}
use native.Mathlib.Omega.{arith}
use Rattle.catalogue_rules.proofs.Starts.{by_last, none_right}
use Rattle.catalogue_rules.proofs.starts_of_track_right.Goals as goal

pub returns-then-n-eq0 : goal.returns-then-n-eq0
returns-then-n-eq0 c =
    let a = c.args in
    sym (none_right a.starts.now a.end (omega arith))

pub returns : goal.returns
returns c =
    let a = c.args in
    by_last a.starts.now a.end (omega arith) c.rises-rising.ensures
