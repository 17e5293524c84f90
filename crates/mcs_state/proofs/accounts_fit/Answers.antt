-- `mcs_state::accounts_fit`: after i turns, the first i accounts.
use mathlib.Core.Path.{refl, ◌∙◌}
use native.Mathlib.Omega.{arith}
use Rattle.ground.specs.Lists.{all_below}
use Rattle.ground.proofs.Bounded.{all_turn, all_end}
use Rattle.desk_client.specs.Client.{account_fits}
use Rattle.desk_state.specs.Desk.{accounts_fit}
use Rattle.mcs_state.proofs.accounts_fit.Goals as goal

pub loop-i-init : goal.loop-i-init
unfolding all_below
loop-i-init c =
    refl

pub loop-i-preserved : goal.loop-i-preserved
loop-i-preserved c =
    all_turn _ _ _ _ c.loop-i.invariant (c.account_fits-fits.ensures ∙ (λ k. account_fits (c.link_at-l.ensures k) (c.account_at-a.ensures k)))

pub returns : goal.returns
unfolding accounts_fit
returns c =
    all_end _ (omega arith) (omega arith) c.loop-i.invariant
