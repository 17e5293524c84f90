-- `catalogue_objects::entries_over`: what is left is whole as all is, and what is counted and what is left make up all.
use Prim.Native.Nat.{◌-◌, ◌≤◌}
use lib.ListN.{length}
use Rattle.catalogue_objects.proofs.Counting.{Counting}
use Rattle.catalogue_objects.proofs.entries_over.Given as goal

abbrev pub invariant-loop-at : goal.invariant-loop-at
invariant-loop-at l = record {
  within : l.at ≤ length l.octets;
  few : l.count ≤ l.at;
  counting : Counting l.kind l.octets l.at l.count;
}

abbrev pub decreases-loop-at : goal.decreases-loop-at
decreases-loop-at l = length l.octets - l.at
