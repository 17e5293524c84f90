-- `catalogue_cue::by_fours`: each octet is one step.
use mathlib.Core.Path.{sym, ◌∙◌}
use native.Mathlib.Omega.{arith}
use Rattle.catalogue_cue.proofs.Ahead.{passes_one}
use Rattle.catalogue_cue.proofs.by_fours.Goals as goal

pub returns-then-is_it-2 : goal.returns-then-is_it-2
returns-then-is_it-2 c =
    passes_one c.loop-i.invariant (omega arith) (sym c.is_it.ensures ∙ c.if-is_it.false)

pub returns-then-is_it-3 : goal.returns-then-is_it-3
returns-then-is_it-3 c =
    let one = passes_one c.loop-i.invariant (omega arith) (sym c.is_it.ensures ∙ c.if-is_it.false) in
    passes_one one (omega arith) (sym c.is_it-in-loop-i.ensures ∙ c.if-is_it-2.false)

pub returns-then-is_it-4 : goal.returns-then-is_it-4
returns-then-is_it-4 c =
    let one = passes_one c.loop-i.invariant (omega arith) (sym c.is_it.ensures ∙ c.if-is_it.false) in
    let two = passes_one one (omega arith) (sym c.is_it-in-loop-i.ensures ∙ c.if-is_it-2.false) in
    passes_one two (omega arith) (sym c.is_it-in-loop-i-2.ensures ∙ c.if-is_it-3.false)

pub loop-i-preserved : goal.loop-i-preserved
loop-i-preserved c =
    let one = passes_one c.loop-i.invariant (omega arith) (sym c.is_it.ensures ∙ c.if-is_it.false) in
    let two = passes_one one (omega arith) (sym c.is_it-in-loop-i.ensures ∙ c.if-is_it-2.false) in
    let three = passes_one two (omega arith) (sym c.is_it-in-loop-i-2.ensures ∙ c.if-is_it-3.false) in
    passes_one three (omega arith) (sym c.is_it-in-loop-i-3.ensures ∙ c.if-is_it-4.false)
