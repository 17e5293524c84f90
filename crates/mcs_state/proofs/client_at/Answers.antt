-- `mcs_state::client_at`: its link, and its account with each service.
use mathlib.Core.List.{[], ◌∷◌}
use Rattle.desk_state.specs.Desk.{client_at}
use Rattle.mcs_state.proofs.client_at.Goals as goal

pub returns : goal.returns
unfolding client_at
returns c =
    λ k. record { link = c.link_at-link.ensures k; accounts = c.account_at-a.ensures k ∷ c.account_at-b.ensures k ∷ [] }
