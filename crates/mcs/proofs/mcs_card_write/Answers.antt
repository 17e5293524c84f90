-- `mcs::mcs_card_write`: `card_write::write`, and what it says.
use mathlib.Core.Path.{ap, ◌∙◌}
use lib.ListN.{length}
use Rattle.ground.specs.Refusals.{Said}
use Rattle.ground.specs.Lists.{table_after}
use Rattle.catalogue_tables.specs.Tables.{tables}
use Rattle.card_write.specs.Card.{card_of}
use Rattle.card_write.specs.Write.{write_said}
use Rattle.mcs_told.specs.declared.Told.{Told}
use Rattle.mcs_told.specs.Calls.{told_of, told_after}
use Rattle.mcs_told.proofs.Words.{told_as_said, place_as_said}
use Rattle.mcs.proofs.Short.{write_words}
use Rattle.mcs.proofs.mcs_card_write.Goals as goal

pub returns-clause-value : goal.returns-clause-value
returns-clause-value c =
    let write = c.write-w.ensures in
    let told = c.told_of_count-t.ensures ∙ ap told_of write.result_value in
    ap (λ (t : Told). t.number) told

pub returns-clause-card_after : goal.returns-clause-card_after
returns-clause-card_after c =
    let a = c.args in
    let write = c.write-w.ensures in
    let k = tables a.groups.now a.tracks.now a.segments.now a.text.now in
    write.card_after ∙ ap (λ (x : Said). table_after x (card_of k) a.card.now) write.result_value

pub returns-clause-blocks_after : goal.returns-clause-blocks_after
returns-clause-blocks_after c =
    let a = c.args in
    let write = c.write-w.ensures in
    let told = c.told_of_count-t.ensures ∙ ap told_of write.result_value in
    let k = tables a.groups.now a.tracks.now a.segments.now a.text.now in
    let said = write_said k (length a.card.now) in
    let small = write_words k (length a.card.now) in
    c.tell.ensures ∙ ap (λ (t : Told). told_after t.granted t.values a.blocks.now) told ∙ told_as_said said a.blocks.now small

pub returns-clause-track_after : goal.returns-clause-track_after
returns-clause-track_after c =
    let a = c.args in
    let write = c.write-w.ensures in
    let told = c.told_of_count-t.ensures ∙ ap told_of write.result_value in
    let k = tables a.groups.now a.tracks.now a.segments.now a.text.now in
    let said = write_said k (length a.card.now) in
    let small = write_words k (length a.card.now) in
    (place_as_said _ said told small a.track.now a.octet.now _ _ (c.tell_place.ensures.track_after, c.tell_place.ensures.octet_after)).0

pub returns-clause-octet_after : goal.returns-clause-octet_after
returns-clause-octet_after c =
    let a = c.args in
    let write = c.write-w.ensures in
    let told = c.told_of_count-t.ensures ∙ ap told_of write.result_value in
    let k = tables a.groups.now a.tracks.now a.segments.now a.text.now in
    let said = write_said k (length a.card.now) in
    let small = write_words k (length a.card.now) in
    (place_as_said _ said told small a.track.now a.octet.now _ _ (c.tell_place.ensures.track_after, c.tell_place.ensures.octet_after)).1
