-- `player_orders::count_below`: what is counted so far and the keys below x in the rest of the run are together those of the whole run.
use borrow.Author.Tests.{lt-ltb, le-ltb}
use borrow.Author.Rules.{rules}
use Rattle.player_orders.specs.Keys.{key_of}
use Rattle.player_orders.proofs.Span.{counts, passes, whole, counted}
use Rattle.player_orders.proofs.count_below.Goals.{then-less, else-less}
use Rattle.player_orders.proofs.count_below.Goals as goal

pub loop-i-init : goal.loop-i-init
loop-i-init c =
    let a = c.args in
    (search rules, whole (key_of a.by a.tracks.now) a.x a.first.0 a.count)

pub loop-i-preserved : goal.loop-i-preserved
loop-i-preserved c =
    elim c.if-less.branch [
      | then-less w ↦ (search rules, rw w.n-is (counts _ _ _ _ _ _ _ c.loop-i-test.true c.key-y.ensures.0 c.loop-i.invariant.1 (lt-ltb _ _ w.if-less.true)))
      | else-less w ↦ (search rules, rw w.n-is (passes _ _ _ _ _ _ _ c.loop-i-test.true c.key-y.ensures.0 c.loop-i.invariant.1 (le-ltb _ _ w.if-less.false)))
    ]

pub returns : goal.returns
returns c =
    counted _ _ _ _ _ _ c.loop-i-test.false c.loop-i.invariant.1
