-- `card_write::write`: 200 is the check's; behind it the tables are short, and the room decides.
use mathlib.Core.Path.{refl, sym}
use Rattle.catalogue_tables.specs.Tables.{tables}
use Rattle.catalogue_check.proofs.Laws.{few_segments, few_text}
use Rattle.ground.proofs.Passed.{passed_on}
use Rattle.card_write.proofs.Answers.{says_catalogue, says_behind, short_groups, short_tracks}
use Rattle.card_write.proofs.write.Goals as goal

pub write_tables-requires-clause-groups_len_bound : goal.write_tables-requires-clause-groups_len_bound
write_tables-requires-clause-groups_len_bound c =
    let a = c.args in
    short_groups (tables a.groups.now a.tracks.now a.segments.now a.text.now) (sym c.in_ok-check.ensures)

pub write_tables-requires-clause-tracks_len_bound : goal.write_tables-requires-clause-tracks_len_bound
write_tables-requires-clause-tracks_len_bound c =
    let a = c.args in
    short_tracks (tables a.groups.now a.tracks.now a.segments.now a.text.now) (sym c.in_ok-check.ensures)

pub write_tables-requires-clause-segments_len_bound : goal.write_tables-requires-clause-segments_len_bound
write_tables-requires-clause-segments_len_bound c =
    let a = c.args in
    few_segments (tables a.groups.now a.tracks.now a.segments.now a.text.now) (sym c.in_ok-check.ensures)

pub write_tables-requires-clause-text_len_bound : goal.write_tables-requires-clause-text_len_bound
write_tables-requires-clause-text_len_bound c =
    let a = c.args in
    few_text (tables a.groups.now a.tracks.now a.segments.now a.text.now) (sym c.in_ok-check.ensures)

pub returns-in_err-check-clause-result_value : goal.returns-in_err-check-clause-result_value
returns-in_err-check-clause-result_value c =
    let a = c.args in
    passed_on _ _ _ c.from_residual.ensures.1 (says_catalogue (tables a.groups.now a.tracks.now a.segments.now a.text.now) _ _ c.in_err-check.ensures refl)

pub returns-clause-result_value : goal.returns-clause-result_value
returns-clause-result_value c =
    let a = c.args in
    says_behind (tables a.groups.now a.tracks.now a.segments.now a.text.now) _ (sym c.in_ok-check.ensures) _ c.write_tables.ensures.result_value
