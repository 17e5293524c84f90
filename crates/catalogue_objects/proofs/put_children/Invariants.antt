-- `catalogue_objects::put_children`: the records of the children below h are laid, and those from h on are left.
use Prim.Native.Nat.{◌*◌, ◌≤◌}
use Rattle.catalogue_objects.specs.Entries.{group_member, children_of}
use Rattle.catalogue_objects.proofs.Left.{members_octets, those_left}
use Rattle.catalogue_objects.proofs.Pieces.{Pieces}
use Rattle.catalogue_objects.proofs.put_children.Given as goal

abbrev pub invariant-loop-h : goal.invariant-loop-h
invariant-loop-h l = record {
  few : l.n ≤ l.h;
  pieces : Pieces (members_octets group_member (children_of l.groups l.g.0)) (members_octets group_member (those_left l.groups l.g.0 l.h)) l.initial.out l.out 0 (l.n * 7);
}
