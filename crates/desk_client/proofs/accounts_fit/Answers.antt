-- `desk_client::accounts_fit`: after v turns, the accounts with the first v services.
use mathlib.Core.Path.{refl}
use native.Mathlib.Omega.{arith}
use Rattle.ground.specs.Lists.{all_below}
use Rattle.ground.proofs.Bounded.{all_turn, all_end}
use Rattle.desk_client.proofs.accounts_fit.Goals as goal

pub loop-a-init : goal.loop-a-init
unfolding all_below
loop-a-init c = refl

pub loop-a-preserved : goal.loop-a-preserved
loop-a-preserved c = all_turn _ _ _ _ c.loop-a.invariant c.account_fits-fits.ensures

pub returns : goal.returns
returns c = all_end _ (omega arith) (omega arith) c.loop-a.invariant
