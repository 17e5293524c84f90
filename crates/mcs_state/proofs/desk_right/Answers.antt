-- `mcs_state::desk_right`: the services, the links, the turn.
use mathlib.Core.Bool.{◌&&◌}
use lib.Dec.{ltb}
use Rattle.desk_state.specs.Desk.{desk_rule}
use Rattle.mcs_state.proofs.desk_right.Goals as goal

pub returns : goal.returns
unfolding desk_rule
returns c =
    λ k. c.services_right-players.ensures k && c.links_right-clients.ensures k && ltb (c.turn_of-turn.ensures k) 4
