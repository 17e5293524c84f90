-- `player_orders::beside`: of the tracks before i, best is the least key at or above x, turned where the scan looks back.
use mathlib.Core.Path.{ap, ◌∙◌}
use mathlib.Core.Logic.{⊎_elim}
use native.Mathlib.Nat.{eq-or-lt_of_le}
use native.Mathlib.Omega.{arith}
use Rattle.player_orders.proofs.Nearest.{turn, least_none, least_more, least_all, beside_none, beside_some}
use Rattle.player_orders.proofs.beside.Goals as goal

pub loop-i-init : goal.loop-i-init
loop-i-init c =
    least_none _ _ _ (omega arith)

pub loop-i-preserved : goal.loop-i-preserved
loop-i-preserved c =
    let a = c.args in
    least_more _ _ _ _ _ _ _ c.loop-i.invariant c.loop-i.auto.i (c.turned-z.ensures ∙ ap (turn a.back 0xFFFF_FFFF_FFFF_FFFE) c.key-y.ensures.0) c.nearer-best.ensures

pub returns-then-best : goal.returns-then-best
returns-then-best c =
    let a = c.args in
    beside_none _ _ _ _ c.requires.small (λ i. (c.type_inv.tracks i).fits) a.x _ (omega arith) a.back (least_all _ _ _ _ _ _ _ c.turned-from.ensures (c.loop-i.auto.i-end (omega arith)) c.loop-i-test.false c.loop-i.invariant) c.if-best.true

pub turned-y-requires : goal.turned-y-requires
turned-y-requires c =
    ⊎_elim (λ e. absurd (c.if-best.false e)) (λ h. omega (arith, h)) (eq-or-lt_of_le c.loop-i.invariant.most)

pub returns : goal.returns
returns c =
    let a = c.args in
    rw c.turned-y.ensures (beside_some _ _ _ _ c.requires.small (λ i. (c.type_inv.tracks i).fits) a.x _ (omega arith) a.back (least_all _ _ _ _ _ _ _ c.turned-from.ensures (c.loop-i.auto.i-end (omega arith)) c.loop-i-test.false c.loop-i.invariant) c.if-best.false)
