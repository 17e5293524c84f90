-- `catalogue_tables::starts`: the run is cut off at the end of its table, as `take` and `drop` are.
use mathlib.Core.Path.{◌∙◌}
use lib.ListN.{take, drop}
use Rattle.catalogue_tables.specs.Tables.{starts_of}
use Rattle.catalogue_tables.proofs.Clip.{clipped}
use Rattle.catalogue_tables.proofs.starts.Goals as goal

pub returns : goal.returns
unfolding starts_of
returns c =
    let r = c.run_within-run in
    let f = c.first_segment-first in
    let n = c.segments_in-count in
    let s = c.args.segments.now in
    clipped s f.result.0 n.result r.result.start r.result.end r.ensures.0 r.ensures.1
    ∙ (λ k. take (n.ensures k) (drop (f.ensures k) s))
