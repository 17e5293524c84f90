-- `mcs_state::links_right`: after i turns, the first i links.
use mathlib.Core.Path.{◌≡◌}
use Rattle.ground.specs.Lists.{all_below}
use Rattle.desk_state.specs.Desk.{link_at}
use Rattle.desk_client.specs.Client.{link_rule}
use Rattle.mcs_state.specs.Codec.{desk_of}
use Rattle.mcs_state.proofs.links_right.Given as goal

abbrev pub invariant-loop-i : goal.invariant-loop-i
invariant-loop-i l = l.good ≡ all_below l.i (λ j. link_rule (link_at (desk_of l.s).links j))
