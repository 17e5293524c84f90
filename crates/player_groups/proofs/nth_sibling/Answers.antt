-- `player_groups::nth_sibling`: what is sought among the rest is what is sought among all.
use mathlib.Core.Path.{sym, ◌∙◌}
use Rattle.player_groups.specs.Family.{is_sibling}
use Rattle.player_groups.proofs.Scan.{all_left, found, nearer, skipped, search_ends}
use Rattle.player_groups.proofs.nth_sibling.Goals.{then-found+else-left-eq0, else-found}
use Rattle.player_groups.proofs.nth_sibling.Goals as goal

pub loop-i-init : goal.loop-i-init
loop-i-init c =
    rw all_left

pub returns-then-left-eq0 : goal.returns-then-left-eq0
returns-then-left-eq0 c =
    found _ _ _ _ _ c.loop-i.invariant c.loop-i-test.true (sym c.is_sibling-found.ensures ∙ c.if-found.true) c.if-left-eq0.true

pub loop-i-preserved : goal.loop-i-preserved
loop-i-preserved c =
    let l = c.loop-i in
    let test = is_sibling c.args.groups.now c.args.g.0 in
    elim c.if-found.branch [
      | then-found+else-left-eq0 w ↦ nearer test _ l.i l.left _ l.invariant c.loop-i-test.true c.if-found.left (sym c.is_sibling-found.ensures ∙ w.if-found.true) w.if-left-eq0.false w.left-is
      | else-found w ↦ skipped test _ l.i l.left _ l.invariant c.loop-i-test.true c.if-found.left (sym c.is_sibling-found.ensures ∙ w.if-found.false) w.left-is
    ]

pub returns : goal.returns
returns c =
    search_ends _ _ _ _ _ c.loop-i.invariant c.loop-i-test.false
