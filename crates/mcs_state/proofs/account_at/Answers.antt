-- `mcs_state::account_at`: the account at the client's place in the service.
use mathlib.Core.Path.{sym, ◌∙◌}
use Rattle.mcs_state.proofs.Places.{account_there}
use Rattle.mcs_state.proofs.account_at.Goals as goal

pub returns : goal.returns
returns c =
    c.account_from.ensures ∙ sym (account_there c.args.s.now c.args.service c.args.who c.requires.service_lt_service_count c.requires.who_lt_client_count)
