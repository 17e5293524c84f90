-- `catalogue_objects::put_children`: the records of the children below h are laid, and those from h on are left.
use mathlib.Core.Path.{◌≡◌, sym, ap, ◌∙◌}
use Prim.Native.Nat.{ℕ, ◌+◌, ◌*◌, ◌<◌}
use native.Mathlib.Omega.{arith}
use borrow.Author.Rules.{rules}
use Rattle.ground.specs.Lists.{laid}
use Rattle.ground.proofs.Laying.{laid_front}
use Rattle.catalogue_tables.specs.Tables.{group_count}
use Rattle.catalogue_objects.specs.Entries.{group_member, children_of, member_octets}
use Rattle.catalogue_objects.proofs.Octets.{member_long, members_long}
use Rattle.catalogue_objects.proofs.Left.{members_octets, those_left, children_all, child_passed, child_next, children_end}
use Rattle.catalogue_objects.proofs.Pieces.{pieces_start, pieces_end, pieces_room, pieces_go}
use Rattle.catalogue_objects.proofs.put_children.Goals as goal
use Rattle.catalogue_objects.proofs.put_children.Goals.{then-is_child, else-is_child}

pub loop-h-init : goal.loop-h-init
loop-h-init c =
    let a = c.args in
    record {
      few = search rules;
      pieces = pieces_start a.out.now 0 (ap (members_octets group_member) (children_all a.groups.now a.g.0))
          (omega (arith, members_long group_member (children_of a.groups.now a.g.0), c.requires.g_in_bounds));
    }

pub put_member-requires : goal.put_member-requires
put_member-requires c =
    let groups = c.args.groups.now in
    let g = c.args.g.0 in
    let h = c.loop-h.h in
    let next = child_next groups g h (omega (arith, c.group_count-h-end.ensures)) (sym c.is_child.ensures ∙ c.if-is_child.true) in
    omega (arith, member_long (group_member h), pieces_room c.loop-h.invariant.pieces (member_octets (group_member h)) (members_octets group_member (those_left groups g (h + 1))) next)

pub loop-h-preserved : goal.loop-h-preserved
loop-h-preserved c =
    let groups = c.args.groups.now in
    let g = c.args.g.0 in
    let h = c.loop-h.h in
    let at = c.loop-h.n * 7 in
    let inv = c.loop-h.invariant in
    let below : h < group_count groups = omega (arith, c.group_count-h-end.ensures) in
    elim c.if-is_child.branch [
      | then-is_child w ↦
          let next = child_next groups g h below (sym c.is_child.ensures ∙ w.if-is_child.true) in
          let e : w.put_member.new.out ≡ laid c.loop-h.out at (member_octets (group_member h)) =
          w.put_member.ensures ∙ ap (λ (x : ℕ). laid c.loop-h.out at (member_octets (record { kind = 1; object = x }))) w.group_object-object.ensures.0 in
          let laid_next = pieces_go inv.pieces (member_octets (group_member h)) (members_octets group_member (those_left groups g (h + 1))) next w.put_member.new.out at (at + 7)
          (omega arith) (omega (arith, member_long (group_member h))) e in
          let n : c.if-is_child.n * 7 ≡ at + 7 = omega (arith, w.n-is) in
          record { few = omega (arith, w.n-is, inv.few); pieces = rw (w.out-is, n) laid_next }
      | else-is_child w ↦
          let e = ap (members_octets group_member) (child_passed groups g h below (sym c.is_child.ensures ∙ w.if-is_child.false)) in
          record { few = omega (arith, w.n-is, inv.few); pieces = rw (w.out-is, w.n-is) (rw e at inv.pieces) }
    ]

pub returns : goal.returns
returns c =
    pieces_end c.loop-h.invariant.pieces (children_end c.args.groups.now c.args.g.0 c.loop-h.h (omega (arith, c.group_count-h-end.ensures))) ∙ laid_front c.args.out.now _
