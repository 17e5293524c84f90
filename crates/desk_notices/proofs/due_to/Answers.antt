-- `desk_notices::due_to`: after s turns, the slots below s.
use mathlib.Core.Path.{refl, ap, ◌∙◌}
use mathlib.Core.Bool.{not, ◌&&◌}
use native.Mathlib.Omega.{arith}
use Rattle.ground.specs.Cases.{has}
use Rattle.desk_slots.specs.Characteristics.{set_of}
use Rattle.desk_slots.proofs.SetLaws.{set_turn, set_end}
use Rattle.desk_notices.specs.Owed.{falls_due, spared, falls}
use Rattle.desk_notices.proofs.due_to.Goals as goal

pub loop-s-init : goal.loop-s-init
unfolding set_of
loop-s-init c =
    refl

pub loop-s-preserved : goal.loop-s-preserved
loop-s-preserved c =
    let l = c.loop-s in
    let a = c.args in
    let at = c.characteristic_of-c.ensures.1 in
    let changed = c.has_bit-changed.ensures ∙ ap (has a.altered) at in
    let spare = c.is_spared-spare.ensures ∙ ap (spared a.cause a.who) at in
    set_turn (falls a.altered a.track a.cause a.who) l.s l.due _ _ l.invariant (λ k. falls_due (changed k) a.track (at k) && not (spare k)) c.with_if-due.ensures

pub returns : goal.returns
returns c =
    set_end _ (omega arith) (omega arith) c.loop-s.invariant
