-- `mcs_state::put_link`: the link of a client alone is another.
use Rattle.mcs_state.proofs.Stored.{link_stored}
use Rattle.mcs_state.proofs.put_link.Goals as goal

pub returns : goal.returns
returns c =
    let a = c.args in
    link_stored a.s.now _ c.requires.in_bounds c.requires.plain a.who a.l c.requires.who_lt_client_count c.lay_link.ensures
