-- `catalogue_rules::runs_right`: the loop's state is `Following`.
use native.Mathlib.Omega.{arith}
use Rattle.catalogue_rules.proofs.Runs.{start, turn, end}
use Rattle.catalogue_rules.proofs.runs_right.Goals as goal

pub loop-i-init : goal.loop-i-init
loop-i-init c =
    start _ _ _

pub loop-i-preserved : goal.loop-i-preserved
loop-i-preserved c =
    let l = c.loop-i in
    turn _ _ _ c.wide_word-first.result c.wide_word-count.result c.wide_word-first.ensures.0 c.wide_word-count.ensures.0 c.wide_word-count.ensures.1 (omega arith) l.invariant

pub returns : goal.returns
returns c =
    end _ _ _ c.args.total c.loop-i-test.false c.loop-i.invariant
