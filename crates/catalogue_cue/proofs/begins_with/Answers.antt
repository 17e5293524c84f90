-- `catalogue_cue::begins_with`: `starts_with` compares the word with the front of the line.
use Rattle.catalogue_cue.proofs.Words.{starts_begins}
use mathlib.Core.Path.{◌∙◌}
use Rattle.catalogue_cue.proofs.begins_with.Goals as goal

pub returns : goal.returns
returns c =
    c.starts_with.ensures.value ∙ starts_begins c.args.word.now c.args.line.now
