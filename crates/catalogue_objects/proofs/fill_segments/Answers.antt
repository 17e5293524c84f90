-- `catalogue_objects::fill_segments`: the room decides.
use mathlib.Core.Path.{sym}
use Prim.Native.Nat.{◌<◌, ◌≤◌}
use native.Mathlib.Omega.{arith}
use lib.ListN.{length}
use Rattle.catalogue_objects.proofs.Answers.{no_room, has_room}
use Rattle.catalogue_objects.proofs.Left.{labels_octets}
use Rattle.catalogue_objects.proofs.Octets.{labels_long}
use Rattle.catalogue_objects.proofs.fill_segments.Goals as goal

pub returns-then-out-size-clause-result_value : goal.returns-then-out-size-clause-result_value
returns-then-out-size-clause-result_value c =
    let short : length c.args.out.now < length (labels_octets c.args.starts.now) = omega (arith, labels_long c.args.starts.now, c.if-out-size.true) in
    no_room _ _ short _ c.from.ensures

pub returns-clause-result_value : goal.returns-clause-result_value
returns-clause-result_value c =
    let long = labels_long c.args.starts.now in
    let fits : length (labels_octets c.args.starts.now) ≤ length c.args.out.now = omega (arith, long, c.if-out-size.false) in
    has_room _ _ _ (sym long) fits
