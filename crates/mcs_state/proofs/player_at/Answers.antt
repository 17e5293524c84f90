-- `mcs_state::player_at`: the player at the front of the service.
use mathlib.Core.Path.{sym, ap, ◌∙◌}
use Rattle.desk_state.specs.declared.Service.{Service}
use Rattle.mcs_state.specs.Codec.{service_from}
use Rattle.mcs_state.proofs.Places.{service_there}
use Rattle.mcs_state.proofs.player_at.Goals as goal

pub returns : goal.returns
unfolding service_from
returns c =
    c.player_from.ensures ∙ sym (ap (λ (x : Service). x.player) (service_there c.args.s.now c.args.service c.requires.service_lt_service_count))
