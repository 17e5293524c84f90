-- `desk_notices::title_changed`: the two titles are compared.
use mathlib.Core.Path.{ap, ◌∙◌}
use mathlib.Core.Bool.{not}
use Rattle.desk_notices.specs.Changes.{same_octets}
use Rattle.desk_notices.proofs.title_changed.Goals as goal

pub returns : goal.returns
returns c =
    ap not (c.same.ensures ∙ (λ k. same_octets (c.title_of-a.ensures k) (c.title_of-b.ensures k)))
