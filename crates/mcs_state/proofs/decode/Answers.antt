-- `mcs_state::decode`: the turn, each link and each service from its part.
use mathlib.Core.List.{[], ◌∷◌}
use Rattle.mcs_state.specs.Codec.{desk_of}
use Rattle.mcs_state.proofs.decode.Goals as goal

pub returns : goal.returns
unfolding desk_of
returns c =
    λ i.
    record {
      services = c.service_from-generic.ensures i ∷ c.service_from-named.ensures i ∷ [];
      links = c.link_from-a.ensures i ∷ c.link_from-b.ensures i ∷ c.link_from-c.ensures i ∷ c.link_from-d.ensures i ∷ [];
      turn = c.turn_from-turn.ensures i;
    }
