-- `mcs::mcs_segments_object_write`: `catalogue_objects::write_segments`, and what it says.
use mathlib.Core.Path.{ap, ◌∙◌}
use lib.ListN.{length}
use Rattle.ground.specs.Refusals.{Said}
use Rattle.ground.specs.Lists.{table_after}
use Rattle.catalogue_tables.specs.Tables.{tables}
use Rattle.catalogue_objects.specs.Objects.{segments_octets, has_segments, write_said}
use Rattle.mcs_told.specs.declared.Told.{Told}
use Rattle.mcs_told.specs.Calls.{told_of, told_after}
use Rattle.mcs_told.proofs.Words.{told_as_said, place_as_said}
use Rattle.mcs.proofs.Short.{segments_words}
use Rattle.mcs.proofs.mcs_segments_object_write.Goals as goal

pub returns-clause-value : goal.returns-clause-value
returns-clause-value c =
    let a = c.args in
    let write = c.write_segments-a.ensures in
    let told = c.told_of_count-t.ensures ∙ ap told_of write.result_value in
    ap (λ (t : Told). t.number) told

pub returns-clause-out_after : goal.returns-clause-out_after
returns-clause-out_after c =
    let a = c.args in
    let write = c.write_segments-a.ensures in
    let k = tables a.groups.now a.tracks.now a.segments.now a.text.now in
    let octets = segments_octets k.tracks k.segments a.ofTrack in
    write.out_after ∙ ap (λ (x : Said). table_after x octets a.out.now) write.result_value

pub returns-clause-written_after : goal.returns-clause-written_after
returns-clause-written_after c =
    let a = c.args in
    let write = c.write_segments-a.ensures in
    let told = c.told_of_count-t.ensures ∙ ap told_of write.result_value in
    let k = tables a.groups.now a.tracks.now a.segments.now a.text.now in
    let octets = segments_octets k.tracks k.segments a.ofTrack in
    let said = write_said k (has_segments k a.ofTrack) octets (length a.out.now) in
    let small = segments_words k a.ofTrack (length a.out.now) in
    c.tell.ensures ∙ ap (λ (t : Told). told_after t.granted t.values a.written.now) told ∙ told_as_said said a.written.now small

pub returns-clause-track_after : goal.returns-clause-track_after
returns-clause-track_after c =
    let a = c.args in
    let write = c.write_segments-a.ensures in
    let told = c.told_of_count-t.ensures ∙ ap told_of write.result_value in
    let k = tables a.groups.now a.tracks.now a.segments.now a.text.now in
    let octets = segments_octets k.tracks k.segments a.ofTrack in
    let said = write_said k (has_segments k a.ofTrack) octets (length a.out.now) in
    let small = segments_words k a.ofTrack (length a.out.now) in
    (place_as_said _ said told small a.track.now a.octet.now _ _ (c.tell_place.ensures.track_after, c.tell_place.ensures.octet_after)).0

pub returns-clause-octet_after : goal.returns-clause-octet_after
returns-clause-octet_after c =
    let a = c.args in
    let write = c.write_segments-a.ensures in
    let told = c.told_of_count-t.ensures ∙ ap told_of write.result_value in
    let k = tables a.groups.now a.tracks.now a.segments.now a.text.now in
    let octets = segments_octets k.tracks k.segments a.ofTrack in
    let said = write_said k (has_segments k a.ofTrack) octets (length a.out.now) in
    let small = segments_words k a.ofTrack (length a.out.now) in
    (place_as_said _ said told small a.track.now a.octet.now _ _ (c.tell_place.ensures.track_after, c.tell_place.ensures.octet_after)).1
