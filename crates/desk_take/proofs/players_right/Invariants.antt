-- `desk_take::players_right`: after v turns, the first v players.
use mathlib.Core.Path.{◌≡◌}
use Rattle.ground.specs.Lists.{all_below}
use Rattle.player_check.specs.Standing.{player_rule}
use Rattle.desk_take.specs.Serving.{player_at}
use Rattle.desk_take.proofs.players_right.Given as goal

abbrev pub invariant-loop-p : goal.invariant-loop-p
invariant-loop-p l = l.good ≡ all_below l.p-index (λ j. player_rule l.groups l.tracks (player_at l.p-items j))
