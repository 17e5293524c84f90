-- `catalogue_cue::start_line`: the three ways in which the line may end.
use mathlib.Core.Path.{sym, ◌∙◌}
use Prim.Native.Nat.{◌+◌}
use native.Mathlib.Omega.{arith}
use Rattle.std.proofs.lemmas.List.{get_or_past}
use Rattle.catalogue_cue.proofs.Starting.{ends_last, ends_lf, ends_cr_lf, no_room, no_form, no_end}
use Rattle.catalogue_cue.proofs.start_line.Goals as goal

pub returns-then-sheet-at-lt-START_OCTETS : goal.returns-then-sheet-at-lt-START_OCTETS
returns-then-sheet-at-lt-START_OCTETS c =
    no_room _ _ c.if-sheet-at-lt-START_OCTETS.true

pub returns-then-not-is_start : goal.returns-then-not-is_start
returns-then-not-is_start c =
    no_form _ _ (sym c.is_start.ensures ∙ c.if-not-is_start.true)

pub returns-then-end-sheet : goal.returns-then-end-sheet
returns-then-end-sheet c =
    ends_last _ _ (omega arith) (sym c.is_start.ensures ∙ c.if-not-is_start.false) c.if-end-sheet.true

pub returns-then-sheet-end-eq-LF : goal.returns-then-sheet-end-eq-LF
returns-then-sheet-end-eq-LF c =
    ends_lf _ _ (omega arith) (sym c.is_start.ensures ∙ c.if-not-is_start.false) (omega arith) c.if-sheet-end-eq-LF.true

pub returns-then-sheet-end-ne-CR : goal.returns-then-sheet-end-ne-CR
returns-then-sheet-end-ne-CR c =
    no_end _ _ (omega arith) c.if-sheet-end-eq-LF.false (λ q r. c.if-sheet-end-ne-CR.true q)

pub returns-then-sheet-end-lt2 : goal.returns-then-sheet-end-lt2
returns-then-sheet-end-lt2 c =
    no_end _ _ (omega arith) c.if-sheet-end-eq-LF.false (λ q r. omega (arith, r, get_or_past c.args.sheet.now (c.args.at + 17 + 1) 0 (omega arith)))

pub returns-then-sheet-end-eq-LF-2 : goal.returns-then-sheet-end-eq-LF-2
returns-then-sheet-end-eq-LF-2 c =
    ends_cr_lf _ _ (omega arith) (sym c.is_start.ensures ∙ c.if-not-is_start.false) (omega arith) c.if-sheet-end-ne-CR.false c.if-sheet-end-eq-LF-2.true

pub returns : goal.returns
returns c =
    no_end _ _ (omega arith) c.if-sheet-end-eq-LF.false (λ q r. c.if-sheet-end-eq-LF-2.false r)
