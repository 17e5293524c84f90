-- `catalogue_cue::survey`: the loop's state is `Judging`.
use mathlib.Core.Path.{sym, ap, ◌∙◌}
use mathlib.Core.List.{[], ◌∷◌}
use Prim.Native.Nat.{ℕ}
use native.Mathlib.Omega.{arith}
use borrow.Author.Tests.{lt-ltb, le-ltb}
use borrow.Author.Rules.{rules}
use Rattle.ground.specs.Refusals.{granted}
use Rattle.ground.proofs.Cases.{past, here}
use Rattle.catalogue_cue.proofs.Said.{cue_said_lem}
use Rattle.catalogue_cue.proofs.Judging.{judging_starts, judging_ends, all_counted, refuses, goes_on, counts}
use Rattle.catalogue_cue.proofs.survey.Goals as goal

pub returns-then-sheet-gt-MOST_SHEET : goal.returns-then-sheet-gt-MOST_SHEET
returns-then-sheet-gt-MOST_SHEET c =
    here _ (lt-ltb _ _ c.if-sheet-gt-MOST_SHEET.true) c.from.ensures ∙ sym (cue_said_lem _ _)

pub loop-at-init : goal.loop-at-init
loop-at-init c =
    record { within = search rules; numbered = search rules; few = search rules; judging = judging_starts _ _ }

pub returns-in-Err : goal.returns-in-Err
returns-in-Err c =
    past _ (le-ltb _ _ c.if-sheet-gt-MOST_SHEET.false)
    (c.at.ensures ∙ refuses c.loop-at.invariant.judging c.read_line-read.ensures _ c.in-Err.ensures)
    ∙ sym (cue_said_lem _ _)

pub loop-at-preserved : goal.loop-at-preserved
loop-at-preserved c =
    let J = c.loop-at.invariant.judging in
    let r = c.read_line-read.ensures in
    record { within = r.bound; numbered = omega (arith, r.onward); few = omega (arith, counts J r _ c.in-Ok.ensures); judging = goes_on J r _ c.in-Ok.ensures }

pub returns-then-room-starts : goal.returns-then-room-starts
returns-then-room-starts c =
    let J = c.loop-at.invariant.judging in
    let many = rw (all_counted J c.loop-at-test.false) at c.if-room-starts.true in
    past _ (le-ltb _ _ c.if-sheet-gt-MOST_SHEET.false) (here _ (lt-ltb _ _ many) c.from-then-room-starts.ensures ∙ sym (judging_ends J c.loop-at-test.false)) ∙ sym (cue_said_lem _ _)

pub returns : goal.returns
returns c =
    let J = c.loop-at.invariant.judging in
    let counted = all_counted J c.loop-at-test.false in
    let fits = rw counted at c.if-room-starts.false in
    past _ (le-ltb _ _ c.if-sheet-gt-MOST_SHEET.false) (past _ (le-ltb _ _ fits) (ap (λ (n : ℕ). granted (n ∷ [])) counted) ∙ sym (judging_ends J c.loop-at-test.false)) ∙ sym (cue_said_lem _ _)
