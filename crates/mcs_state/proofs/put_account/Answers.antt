-- `mcs_state::put_account`: an account of a client alone is another.
use Rattle.mcs_state.proofs.Stored.{account_stored}
use Rattle.mcs_state.proofs.put_account.Goals as goal

pub returns : goal.returns
returns c =
    let a = c.args in
    let p = c.lay_account.ensures in
    account_stored a.s.now _ c.requires.in_bounds c.requires.plain a.service a.who a.a c.requires.service_lt_service_count c.requires.who_lt_client_count p.kept p.s_after
