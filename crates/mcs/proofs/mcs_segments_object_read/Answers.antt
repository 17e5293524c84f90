-- `mcs::mcs_segments_object_read`: `catalogue_objects::read`, and what it says.
use lib.ListN.{length}
use Rattle.catalogue_objects.specs.declared.Kind.TheVariants.{Segments}
use Rattle.catalogue_objects.specs.Reading.{entries_of, read_said}
use Rattle.mcs_told.proofs.Words.{front_as_said}
use Rattle.mcs.proofs.mcs_segments_object_read.Goals as goal

pub returns-clause-value : goal.returns-clause-value
returns-clause-value c =
    (front_as_said _ (read_said Segments c.args.octets.now (length c.args.positions.now)) c.read-a.ensures.result_value (entries_of Segments c.args.octets.now).words c.args.positions.now _
    c.args.count.now _ _ c.read-a.ensures.out_after (c.tell_count.ensures.value, c.tell_count.ensures.count_after)).0

pub returns-clause-positions_after : goal.returns-clause-positions_after
returns-clause-positions_after c =
    (front_as_said _ (read_said Segments c.args.octets.now (length c.args.positions.now)) c.read-a.ensures.result_value (entries_of Segments c.args.octets.now).words c.args.positions.now _
    c.args.count.now _ _ c.read-a.ensures.out_after (c.tell_count.ensures.value, c.tell_count.ensures.count_after)).1.0

pub returns-clause-count_after : goal.returns-clause-count_after
returns-clause-count_after c =
    (front_as_said _ (read_said Segments c.args.octets.now (length c.args.positions.now)) c.read-a.ensures.result_value (entries_of Segments c.args.octets.now).words c.args.positions.now _
    c.args.count.now _ _ c.read-a.ensures.out_after (c.tell_count.ensures.value, c.tell_count.ensures.count_after)).1.1
