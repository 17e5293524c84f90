-- `catalogue_tables::end`: by the word of the track's duration.
use mathlib.Core.Path.{ap, ◌∙◌}
use Rattle.catalogue_tables.specs.Tables.{end_by, end_of}
use Rattle.catalogue_tables.proofs.end.Goals as goal

pub returns : goal.returns
unfolding end_of
returns c =
    c.end_by-x.ensures ∙ ap end_by c.duration-d.ensures
