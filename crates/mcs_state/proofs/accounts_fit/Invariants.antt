-- `mcs_state::accounts_fit`: after i turns, the first i accounts.
use mathlib.Core.Path.{◌≡◌}
use lib.ListN.{get_or}
use Rattle.ground.specs.Lists.{all_below}
use Rattle.desk_client.specs.Client.{account_fits, no_account}
use Rattle.desk_state.specs.Desk.{link_at, service_at}
use Rattle.mcs_state.specs.Codec.{desk_of}
use Rattle.mcs_state.proofs.accounts_fit.Given as goal

abbrev pub invariant-loop-i : goal.invariant-loop-i
invariant-loop-i l =
    l.good ≡ all_below l.i (λ j. account_fits (link_at (desk_of l.s).links j) (get_or (service_at (desk_of l.s) l.service).accounts j no_account))
