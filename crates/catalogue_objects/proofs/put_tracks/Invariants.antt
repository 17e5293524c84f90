-- `catalogue_objects::put_tracks`: the records of the first i tracks are laid, and the others are left.
use Prim.Native.Nat.{◌*◌}
use Rattle.ground.specs.Lists.{span}
use Rattle.catalogue_objects.specs.Entries.{track_member}
use Rattle.catalogue_objects.proofs.Left.{members_octets, tracks_left}
use Rattle.catalogue_objects.proofs.Pieces.{Pieces}
use Rattle.catalogue_objects.proofs.put_tracks.Given as goal

abbrev pub invariant-loop-i : goal.invariant-loop-i
invariant-loop-i l = Pieces (members_octets track_member (span l.first l.count)) (tracks_left l.first l.count l.i) l.initial.out l.out l.at (l.i * 7)
