-- `catalogue_objects::count_children`: what is counted and what is left to count make up all of them.
use mathlib.Core.Path.{sym, ap, ◌∙◌}
use Prim.Native.Nat.{◌<◌}
use native.Mathlib.Omega.{arith}
use lib.ListN.{length}
use borrow.Author.Rules.{rules}
use Rattle.catalogue_tables.specs.Tables.{group_count}
use Rattle.catalogue_objects.proofs.Left.{children_all, child_taken, child_passed}
use Rattle.catalogue_objects.proofs.count_children.Goals as goal
use Rattle.catalogue_objects.proofs.count_children.Goals.{then-is_child, else-is_child}

pub loop-h-init : goal.loop-h-init
loop-h-init c =
    record { few = search rules; total = omega (arith, ap length (children_all c.args.groups.now c.args.g.0)) }

pub loop-h-preserved : goal.loop-h-preserved
loop-h-preserved c =
    let groups = c.args.groups.now in
    let g = c.args.g.0 in
    let h = c.loop-h.h in
    let inv = c.loop-h.invariant in
    let below : h < group_count groups = omega (arith, c.group_count-h-end.ensures) in
    elim c.if-is_child.branch [
      | then-is_child w ↦
          let e = child_taken groups g h below (sym c.is_child.ensures ∙ w.if-is_child.true) in
          record { few = omega (arith, w.n-is, inv.few); total = omega (arith, w.n-is, ap length e, inv.total) }
      | else-is_child w ↦
          let e = child_passed groups g h below (sym c.is_child.ensures ∙ w.if-is_child.false) in
          record { few = omega (arith, w.n-is, inv.few); total = omega (arith, w.n-is, ap length e, inv.total) }
    ]
