-- `mcs::mcs_group_object_write`: `catalogue_objects::write_group`, and what it says.
use mathlib.Core.Path.{ap, ◌∙◌}
use lib.ListN.{length}
use Rattle.ground.specs.Refusals.{Said}
use Rattle.ground.specs.Lists.{table_after}
use Rattle.catalogue_tables.specs.Tables.{tables}
use Rattle.catalogue_objects.specs.Objects.{group_octets, has_group, write_said}
use Rattle.mcs_told.specs.declared.Told.{Told}
use Rattle.mcs_told.specs.Calls.{told_of, told_after}
use Rattle.mcs_told.proofs.Words.{told_as_said, place_as_said}
use Rattle.mcs.proofs.Short.{group_words_lem}
use Rattle.mcs.proofs.mcs_group_object_write.Goals as goal

pub returns-clause-value : goal.returns-clause-value
returns-clause-value c =
    let a = c.args in
    let write = c.write_group-a.ensures in
    let told = c.told_of_count-t.ensures ∙ ap told_of write.result_value in
    ap (λ (t : Told). t.number) told

pub returns-clause-out_after : goal.returns-clause-out_after
returns-clause-out_after c =
    let a = c.args in
    let write = c.write_group-a.ensures in
    let k = tables a.groups.now a.tracks.now a.segments.now a.text.now in
    let octets = group_octets k.groups a.group in
    write.out_after ∙ ap (λ (x : Said). table_after x octets a.out.now) write.result_value

pub returns-clause-written_after : goal.returns-clause-written_after
returns-clause-written_after c =
    let a = c.args in
    let write = c.write_group-a.ensures in
    let told = c.told_of_count-t.ensures ∙ ap told_of write.result_value in
    let k = tables a.groups.now a.tracks.now a.segments.now a.text.now in
    let octets = group_octets k.groups a.group in
    let said = write_said k (has_group k a.group) octets (length a.out.now) in
    let small = group_words_lem k a.group (length a.out.now) in
    c.tell.ensures ∙ ap (λ (t : Told). told_after t.granted t.values a.written.now) told ∙ told_as_said said a.written.now small

pub returns-clause-track_after : goal.returns-clause-track_after
returns-clause-track_after c =
    let a = c.args in
    let write = c.write_group-a.ensures in
    let told = c.told_of_count-t.ensures ∙ ap told_of write.result_value in
    let k = tables a.groups.now a.tracks.now a.segments.now a.text.now in
    let octets = group_octets k.groups a.group in
    let said = write_said k (has_group k a.group) octets (length a.out.now) in
    let small = group_words_lem k a.group (length a.out.now) in
    (place_as_said _ said told small a.track.now a.octet.now _ _ (c.tell_place.ensures.track_after, c.tell_place.ensures.octet_after)).0

pub returns-clause-octet_after : goal.returns-clause-octet_after
returns-clause-octet_after c =
    let a = c.args in
    let write = c.write_group-a.ensures in
    let told = c.told_of_count-t.ensures ∙ ap told_of write.result_value in
    let k = tables a.groups.now a.tracks.now a.segments.now a.text.now in
    let octets = group_octets k.groups a.group in
    let said = write_said k (has_group k a.group) octets (length a.out.now) in
    let small = group_words_lem k a.group (length a.out.now) in
    (place_as_said _ said told small a.track.now a.octet.now _ _ (c.tell_place.ensures.track_after, c.tell_place.ensures.octet_after)).1
