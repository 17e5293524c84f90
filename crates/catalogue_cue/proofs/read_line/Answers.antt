-- `catalogue_cue::read_line`: behind the spaces, a start or another line.
use mathlib.Core.Path.{sym, ◌∙◌}
use Rattle.catalogue_cue.proofs.Reading.{start_read, passed_read, fault_read}
use Rattle.catalogue_cue.proofs.read_line.Goals as goal

pub returns-in-Some : goal.returns-in-Some
returns-in-Some c =
    start_read c.args.sheet.now c.args.at c.first_from-from.result c.requires c.first_from-from.ensures.0 c.first_from-from.ensures.1 _ c.in-Some.next c.in-Some.ensures c.start_of.ensures

pub returns-then-is_passed : goal.returns-then-is_passed
returns-then-is_passed c =
    passed_read c.args.sheet.now c.args.at c.first_from-from.result c.requires c.first_from-from.ensures.0 c.first_from-from.ensures.1 c.in_default.ensures
    c.line_at-cut.result.end c.line_at-cut.result.next c.line_at-cut.ensures (sym c.is_passed.ensures ∙ c.if-is_passed.true)

pub returns : goal.returns
returns c =
    fault_read c.args.sheet.now c.args.at c.first_from-from.result c.requires c.first_from-from.ensures.0 c.first_from-from.ensures.1 c.in_default.ensures
    c.line_at-cut.result.end c.line_at-cut.result.next c.line_at-cut.ensures (sym c.is_passed.ensures ∙ c.if-is_passed.false)
