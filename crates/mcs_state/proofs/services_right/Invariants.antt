-- `mcs_state::services_right`: after v turns, the first v services.
use mathlib.Core.Path.{◌≡◌}
use lib.ListN.{get_or}
use Rattle.ground.specs.Lists.{all_below}
use Rattle.desk_state.specs.Desk.{no_service, service_rule}
use Rattle.mcs_state.specs.Codec.{desk_of}
use Rattle.mcs_state.proofs.services_right.Given as goal

abbrev pub invariant-loop-v : goal.invariant-loop-v
invariant-loop-v l =
    l.good ≡ all_below l.v (λ j. service_rule l.groups l.tracks (desk_of l.s).links (get_or (desk_of l.s).services j no_service))
