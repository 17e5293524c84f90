-- `desk_take::players_right`: after v turns, the first v players.
use mathlib.Core.Path.{refl}
use native.Mathlib.Omega.{arith}
use Rattle.ground.specs.Lists.{all_below}
use Rattle.ground.proofs.Bounded.{all_turn, all_end}
use Rattle.desk_take.specs.Serving.{players_rule}
use Rattle.desk_take.proofs.players_right.Goals as goal

pub loop-p-init : goal.loop-p-init
unfolding all_below
loop-p-init c =
    refl

pub loop-p-preserved : goal.loop-p-preserved
loop-p-preserved c =
    all_turn _ _ _ _ c.loop-p.invariant c.player_right-right.ensures

pub returns : goal.returns
unfolding players_rule
returns c =
    all_end _ (omega arith) (omega arith) c.loop-p.invariant
