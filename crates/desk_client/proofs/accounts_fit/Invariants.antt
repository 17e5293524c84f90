-- `desk_client::accounts_fit`: after v turns, the accounts with the first v services.
use mathlib.Core.Path.{◌≡◌}
use lib.ListN.{get_or}
use Rattle.ground.specs.Lists.{all_below}
use Rattle.desk_client.specs.Client.{account_fits, no_account}
use Rattle.desk_client.proofs.accounts_fit.Given as goal

abbrev pub invariant-loop-a : goal.invariant-loop-a
invariant-loop-a l = l.good ≡ all_below l.a-index (λ j. account_fits l.l (get_or l.a-items j no_account))
