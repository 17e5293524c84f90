-- `catalogue_objects::put_labels`: the labels of the first i starts are laid, and the others are left.
use Prim.Native.Nat.{◌*◌}
use lib.ListN.{drop}
use Rattle.catalogue_objects.proofs.Left.{labels_octets}
use Rattle.catalogue_objects.proofs.Pieces.{Pieces}
use Rattle.catalogue_objects.proofs.put_labels.Given as goal

abbrev pub invariant-loop-i : goal.invariant-loop-i
invariant-loop-i l = Pieces (labels_octets l.starts) (labels_octets (drop l.i l.starts)) l.initial.out l.out 0 (l.i * 5)
