-- `mcs_state::service_from`: the player from the front, and each account from its part.
use mathlib.Core.List.{[], ◌∷◌}
use Rattle.mcs_state.specs.Codec.{service_from}
use Rattle.mcs_state.proofs.service_from.Goals as goal

pub returns : goal.returns
unfolding service_from
returns c =
    λ i.
    record {
      player = c.player_from-player.ensures i;
      accounts = c.account_from-a.ensures i ∷ c.account_from-b.ensures i ∷ c.account_from-c.ensures i ∷ c.account_from-d.ensures i ∷ [];
    }
