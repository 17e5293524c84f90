-- `catalogue_titles::cut`: the run is cut off at the end of its text, as `take` and `drop` are; where the part lies inside, nothing is cut off.
use Rattle.catalogue_titles.proofs.Parts.{cut_octets, cut_part}
use Rattle.catalogue_titles.proofs.cut.Goals as goal

pub returns-clause-result_value : goal.returns-clause-result_value
returns-clause-result_value c =
    let r = c.run_within-run in
    let t = c.text_for-whole in
    let a = c.args in cut_octets a.part a.text a.office t.result t.ensures r.result.start r.result.end r.ensures.0 r.ensures.1

pub returns-clause-part : goal.returns-clause-part
returns-clause-part c =
    let r = c.run_within-run in
    let t = c.text_for-whole in
    let a = c.args in λ inside. cut_part a.part a.text a.office t.result t.ensures r.result.start r.result.end r.ensures.0 r.ensures.1 inside
