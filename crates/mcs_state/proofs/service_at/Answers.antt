-- `mcs_state::service_at`: the service at its place.
use mathlib.Core.Path.{sym, ◌∙◌}
use Rattle.mcs_state.proofs.Places.{service_there}
use Rattle.mcs_state.proofs.service_at.Goals as goal

pub returns : goal.returns
returns c =
    c.service_from.ensures ∙ sym (service_there c.args.s.now c.args.service c.requires.service_lt_service_count)
