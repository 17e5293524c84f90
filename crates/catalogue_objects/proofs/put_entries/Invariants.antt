-- `catalogue_objects::put_entries`: the words of the entries before the place are laid, and those of the others are left.
use Prim.Native.Nat.{◌-◌}
use lib.ListN.{length}
use Rattle.catalogue_objects.proofs.Writing.{Writing}
use Rattle.catalogue_objects.proofs.put_entries.Given as goal

abbrev pub invariant-loop-at : goal.invariant-loop-at
invariant-loop-at l = Writing l.kind l.octets l.initial.out l.out l.at l.to

abbrev pub decreases-loop-at : goal.decreases-loop-at
decreases-loop-at l = length l.octets - l.at
