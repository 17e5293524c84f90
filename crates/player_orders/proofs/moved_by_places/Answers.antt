-- `player_orders::moved_by_places`: the move on places, from the place of t.
use mathlib.Core.Path.{◌∙◌}
use Rattle.player_orders.proofs.Moves.{moves}
use Rattle.player_orders.proofs.moved_by_places.Goals as goal

pub returns-in_err-j : goal.returns-in_err-j
returns-in_err-j c =
    rw c.from_residual.ensures (moves _ _ _ _ c.requires.small _ _ _ _ _ _ c.requires.low c.requires.high c.rank-k.ensures.0 c.place_after.ensures c.in_err-j.was)

pub returns : goal.returns
returns c =
    c.nth.ensures ∙ moves _ _ _ _ c.requires.small _ _ _ _ _ _ c.requires.low c.requires.high c.rank-k.ensures.0 c.place_after.ensures c.in_ok-j.was
