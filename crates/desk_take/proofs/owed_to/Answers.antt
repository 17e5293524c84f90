-- `desk_take::owed_to`: what the client's own record owes.
use mathlib.Core.Path.{◌≡◌, sym, ap, ◌∙◌, subst}
use mathlib.Core.Bool.{true}
use Rattle.desk_client.specs.declared.Client.{Client}
use Rattle.desk_client.specs.Client.{client_rule}
use Rattle.desk_take.specs.Serving.{places_owed}
use Rattle.desk_take.proofs.owed_to.Goals as goal

pub places_owed-requires : goal.places_owed-requires
places_owed-requires c =
    subst (λ (x : Client). client_rule x ≡ true) (sym c.client_at-c.ensures) c.requires.who_value

pub returns : goal.returns
returns c =
    c.places_owed.ensures.1 ∙ ap places_owed c.client_at-c.ensures
