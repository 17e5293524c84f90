-- `mcs::mcs_cue_sheet`: `catalogue_cue::read`, and what it says.
use mathlib.Core.Path.{ap, ◌∙◌}
use lib.ListN.{length}
use Rattle.ground.specs.Refusals.{Said}
use Rattle.ground.specs.Lists.{table_after}
use Rattle.catalogue_cue.specs.Sheet.{cue_said, sheet_lines, starts_of}
use Rattle.mcs_told.specs.declared.Told.{Told}
use Rattle.mcs_told.specs.Calls.{carries, told_of, told_after}
use Rattle.mcs_told.proofs.Words.{told_by_places}
use Rattle.mcs.proofs.Short.{cue_words}
use Rattle.mcs.proofs.mcs_cue_sheet.Goals as goal

pub returns-clause-value : goal.returns-clause-value
returns-clause-value c =
    let r = c.read-a.ensures in
    let told = c.told_of_count-t.ensures ∙ ap told_of r.result_value in
    ap (λ (x : Told). x.number) told

pub returns-clause-starts_after : goal.returns-clause-starts_after
returns-clause-starts_after c =
    let r = c.read-a.ensures in
    r.starts_after ∙ ap (λ (x : Said). table_after x (starts_of (sheet_lines c.args.sheet.now)) c.args.starts.now) r.result_value

pub returns-clause-count_after : goal.returns-clause-count_after
returns-clause-count_after c =
    let r = c.read-a.ensures in
    let said = cue_said c.args.sheet.now (length c.args.starts.now) in
    let told = c.told_of_count-t.ensures ∙ ap told_of r.result_value in
    let small = cue_words c.args.sheet.now (length c.args.starts.now) in c.tell.ensures ∙ ap (λ (x : Told). told_after x.granted x.values c.args.count.now) told ∙ told_by_places said.is_granted said c.args.count.now small

pub returns-clause-line_after : goal.returns-clause-line_after
returns-clause-line_after c =
    let r = c.read-a.ensures in
    let said = cue_said c.args.sheet.now (length c.args.starts.now) in
    let told = c.told_of_count-t.ensures ∙ ap told_of r.result_value in
    let small = cue_words c.args.sheet.now (length c.args.starts.now) in c.tell-2.ensures ∙ ap (λ (x : Told). told_after x.carries x.values c.args.line.now) told ∙ told_by_places (carries said) said c.args.line.now small
