-- `catalogue_cue::line_at`: the ways in which a line ends.
use Rattle.catalogue_cue.proofs.Lines.{cut_last, cut_empty, cut_plain, cut_cr}
use Rattle.catalogue_cue.proofs.line_at.Goals as goal
use Rattle.catalogue_cue.proofs.line_at.Goals.{then-lf-sheet+then-at-lf+else-sheet-lf-eq-CR, then-lf-sheet+else-at-lf, else-lf-sheet}

pub returns-then-sheet-lf-eq-CR : goal.returns-then-sheet-lf-eq-CR
returns-then-sheet-lf-eq-CR c =
    let a = c.args in cut_cr a.sheet.now a.at c.requires c.lf_from-lf.result c.lf_from-lf.ensures.0 c.if-lf-sheet.true c.if-at-lf.true c.if-sheet-lf-eq-CR.true

pub returns : goal.returns
returns c =
    let a = c.args in
    elim c.if-lf-sheet.branch [
      | then-lf-sheet+then-at-lf+else-sheet-lf-eq-CR w ↦
          cut_plain a.sheet.now a.at c.requires c.lf_from-lf.result c.lf_from-lf.ensures.0 w.if-lf-sheet.true w.if-at-lf.true w.if-sheet-lf-eq-CR.false
      | then-lf-sheet+else-at-lf w ↦ cut_empty a.sheet.now a.at c.requires c.lf_from-lf.result c.lf_from-lf.ensures.0 w.if-lf-sheet.true w.if-at-lf.false
      | else-lf-sheet w ↦ cut_last a.sheet.now a.at c.requires c.lf_from-lf.result c.lf_from-lf.ensures.0 w.if-lf-sheet.false
    ]
