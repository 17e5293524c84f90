-- `mcs_state::turn_of`: the turn at the front.
use Rattle.mcs_state.specs.Codec.{desk_of}
use Rattle.mcs_state.proofs.turn_of.Goals as goal

pub returns : goal.returns
unfolding desk_of
returns c =
    c.turn_from.ensures
