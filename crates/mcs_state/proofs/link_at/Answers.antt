-- `mcs_state::link_at`: the link at the client's place.
use mathlib.Core.Path.{sym, ◌∙◌}
use Rattle.mcs_state.proofs.Places.{link_there}
use Rattle.mcs_state.proofs.link_at.Goals as goal

pub returns : goal.returns
returns c =
    c.link_from.ensures ∙ sym (link_there c.args.s.now c.args.who c.requires.who_lt_client_count)
