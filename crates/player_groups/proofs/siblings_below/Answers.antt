-- `player_groups::siblings_below`: what is counted and what is left to count make up all of them.
use mathlib.Core.Path.{sym, ◌∙◌}
use native.Mathlib.Nat.{zero-add}
use native.Mathlib.Omega.{arith}
use Rattle.player_groups.specs.Family.{is_sibling}
use Rattle.player_groups.proofs.Scan.{all_left, counted, passed, count_ends}
use borrow.Author.Rules.{rules}
use Rattle.player_groups.proofs.siblings_below.Goals.{then-found, else-found}
use Rattle.player_groups.proofs.siblings_below.Goals as goal

pub loop-i-init : goal.loop-i-init
loop-i-init c =
    (search rules, rw (zero-add, all_left))

pub loop-i-preserved : goal.loop-i-preserved
loop-i-preserved c =
    let l = c.loop-i in
    let test = is_sibling c.args.groups.now c.args.g.0 in
    elim c.if-found.branch [
      | then-found w ↦ (omega (arith, w.n-is), counted test _ l.i l.n _ l.invariant.1 c.loop-i-test.true c.if-found.n (sym c.is_sibling-found.ensures ∙ w.if-found.true) w.n-is)
      | else-found w ↦ (omega (arith, w.n-is), passed test _ l.i l.n _ l.invariant.1 c.loop-i-test.true c.if-found.n (sym c.is_sibling-found.ensures ∙ w.if-found.false) w.n-is)
    ]

pub returns : goal.returns
returns c =
    (count_ends _ _ _ _ _ c.loop-i.invariant.1 c.loop-i-test.false, search rules)
