-- `catalogue_objects::put_member`: seven stores are seven octets laid.
use mathlib.Core.Path.{◌∙◌}
use mathlib.Core.List.{[], ◌∷◌}
use lib.ListN.{get_or}
use Rattle.ground.specs.Lists.{laid}
use Rattle.ground.specs.Words.{six_octets}
use Rattle.catalogue_objects.specs.Entries.{member_octets}
use Rattle.catalogue_objects.proofs.Stores.{laid_seven}
use Rattle.catalogue_objects.proofs.put_member.Goals as goal

pub returns : goal.returns
unfolding member_octets six_octets
returns c =
    let a = c.args in
    let o = c.six_octets-o.ensures in
    laid_seven a.out.now a.at _ _ _ _ _ _ _ c.requires
    ∙ (λ i. laid a.out.now a.at (a.kind ∷ get_or (o i) 0 0 ∷ get_or (o i) 1 0 ∷ get_or (o i) 2 0 ∷ get_or (o i) 3 0 ∷ get_or (o i) 4 0 ∷ get_or (o i) 5 0 ∷ []))
