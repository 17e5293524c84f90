-- `mcs_state::services_right`: after v turns, the first v services.
use mathlib.Core.Path.{refl, ap, ◌∙◌}
use mathlib.Core.Bool.{◌&&◌}
use native.Mathlib.Omega.{arith}
use Rattle.ground.specs.Lists.{all_below}
use Rattle.ground.proofs.Bounded.{all_turn, all_end}
use Rattle.player_check.specs.Standing.{player_rule}
use Rattle.desk_state.specs.Desk.{service_rule, services_rule}
use Rattle.mcs_state.proofs.services_right.Goals as goal

pub loop-v-init : goal.loop-v-init
unfolding all_below
loop-v-init c =
    refl

pub loop-v-preserved : goal.loop-v-preserved
unfolding service_rule
loop-v-preserved c =
    all_turn _ _ _ _ c.loop-v.invariant (λ k. (c.player_right-player.ensures ∙ ap (player_rule c.args.groups.now c.args.tracks.now) c.player_at-p.ensures) k && c.accounts_fit-fit.ensures k)

pub returns : goal.returns
unfolding services_rule
returns c =
    all_end _ (omega arith) (omega arith) c.loop-v.invariant
