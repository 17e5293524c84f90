-- `mcs_state::links_right`: after i turns, the first i links.
use mathlib.Core.Path.{refl, ap, ◌∙◌}
use native.Mathlib.Omega.{arith}
use Rattle.ground.specs.Lists.{all_below}
use Rattle.ground.proofs.Bounded.{all_turn, all_end}
use Rattle.desk_state.specs.Desk.{links_rule}
use Rattle.desk_client.specs.Client.{link_rule}
use Rattle.mcs_state.proofs.links_right.Goals as goal

pub loop-i-init : goal.loop-i-init
unfolding all_below
loop-i-init c =
    refl

pub loop-i-preserved : goal.loop-i-preserved
loop-i-preserved c =
    all_turn _ _ _ _ c.loop-i.invariant (c.link_right-right.ensures ∙ ap link_rule c.link_at-l.ensures)

pub returns : goal.returns
unfolding links_rule
returns c =
    all_end _ (omega arith) (omega arith) c.loop-i.invariant
