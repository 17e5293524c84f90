-- `mcs::mcs_card_load`: `card_load::load`, and what it says.
use mathlib.Core.Path.{ap, ◌∙◌}
use lib.ListN.{length}
use Rattle.ground.specs.Refusals.{Said}
use Rattle.ground.specs.Lists.{table_after}
use Rattle.ground.specs.Words.{words}
use Rattle.card_load.specs.Card.{blocks_of, gather, octets}
use Rattle.card_load.specs.Load.{load_said}
use Rattle.mcs_told.specs.declared.Told.{Told}
use Rattle.mcs_told.specs.Calls.{told_of, told_after}
use Rattle.mcs_told.proofs.Words.{told_as_said, carried_as_said}
use Rattle.mcs.proofs.Short.{load_words}
use Rattle.mcs.proofs.mcs_card_load.Goals as goal

pub returns-clause-value : goal.returns-clause-value
returns-clause-value c =
    let load = c.load-l.ensures in
    let told = c.told_of_load-t.ensures ∙ ap told_of load.result_value in
    ap (λ (t : Told). t.number) told

pub returns-clause-groups_after : goal.returns-clause-groups_after
returns-clause-groups_after c =
    let a = c.args in
    let load = c.load-l.ensures in
    let blocks = blocks_of a.card.now in
    load.groups_after ∙ ap (λ (x : Said). table_after x (gather words 1 blocks) a.groups.now) load.result_value

pub returns-clause-tracks_after : goal.returns-clause-tracks_after
returns-clause-tracks_after c =
    let a = c.args in
    let load = c.load-l.ensures in
    let blocks = blocks_of a.card.now in
    load.tracks_after ∙ ap (λ (x : Said). table_after x (gather words 2 blocks) a.tracks.now) load.result_value

pub returns-clause-segments_after : goal.returns-clause-segments_after
returns-clause-segments_after c =
    let a = c.args in
    let load = c.load-l.ensures in
    let blocks = blocks_of a.card.now in
    load.segments_after ∙ ap (λ (x : Said). table_after x (gather words 3 blocks) a.segments.now) load.result_value

pub returns-clause-text_after : goal.returns-clause-text_after
returns-clause-text_after c =
    let a = c.args in
    let load = c.load-l.ensures in
    let blocks = blocks_of a.card.now in
    load.text_after ∙ ap (λ (x : Said). table_after x (gather octets 4 blocks) a.text.now) load.result_value

pub returns-clause-counts_after : goal.returns-clause-counts_after
returns-clause-counts_after c =
    let a = c.args in
    let load = c.load-l.ensures in
    let told = c.told_of_load-t.ensures ∙ ap told_of load.result_value in
    let said = load_said a.card.now (length a.groups.now) (length a.tracks.now) (length a.segments.now) (length a.text.now) in
    let small = load_words a.card.now (length a.groups.now) (length a.tracks.now) (length a.segments.now) (length a.text.now) in c.tell.ensures ∙ ap (λ (t : Told). told_after t.granted t.values a.counts.now) told ∙ told_as_said said a.counts.now small

pub returns-clause-block_after : goal.returns-clause-block_after
returns-clause-block_after c =
    let a = c.args in
    let load = c.load-l.ensures in
    let told = c.told_of_load-t.ensures ∙ ap told_of load.result_value in
    let said = load_said a.card.now (length a.groups.now) (length a.tracks.now) (length a.segments.now) (length a.text.now) in
    let small = load_words a.card.now (length a.groups.now) (length a.tracks.now) (length a.segments.now) (length a.text.now) in c.tell-2.ensures ∙ ap (λ (t : Told). told_after t.carries t.values a.block.now) told ∙ carried_as_said said a.block.now small
