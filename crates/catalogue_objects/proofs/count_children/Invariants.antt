-- `catalogue_objects::count_children`: what is counted and what is left to count make up all of them.
use mathlib.Core.Path.{◌≡◌}
use Prim.Native.Nat.{◌+◌, ◌≤◌}
use lib.ListN.{length}
use Rattle.catalogue_objects.specs.Entries.{children_of}
use Rattle.catalogue_objects.proofs.Left.{those_left}
use Rattle.catalogue_objects.proofs.count_children.Given as goal

abbrev pub invariant-loop-h : goal.invariant-loop-h
invariant-loop-h l = record {
  few : l.n ≤ l.h;
  total : l.n + length (those_left l.groups l.g.0 l.h) ≡ length (children_of l.groups l.g.0);
}
