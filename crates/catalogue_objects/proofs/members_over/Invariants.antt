-- `catalogue_objects::members_over`: after i records, what is left is whole as all is, and i and what is left make up all.
use Prim.Native.Nat.{◌*◌}
use Rattle.catalogue_objects.specs.declared.Kind.TheVariants.{Group}
use Rattle.catalogue_objects.proofs.Counting.{Counting}
use Rattle.catalogue_objects.proofs.members_over.Given as goal

abbrev pub invariant-loop-i : goal.invariant-loop-i
invariant-loop-i l = Counting Group l.octets (l.i * 7) l.i
