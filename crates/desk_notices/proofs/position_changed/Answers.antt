-- `desk_notices::position_changed`: the words are compared, each as its octets.
use mathlib.Core.Path.{◌∙◌}
use mathlib.Core.Bool.{not}
use Rattle.desk_notices.specs.Changes.{same_octets}
use Rattle.desk_notices.proofs.position_changed.Goals as goal

pub returns : goal.returns
returns c =
    c.words_differ.ensures ∙ (λ k. not (same_octets (c.position_word-a.ensures k) (c.position_word-b.ensures k)))
