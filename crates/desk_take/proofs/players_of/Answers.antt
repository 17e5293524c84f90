-- `desk_take::players_of`: the player of each service.
use mathlib.Core.List.{[], ◌∷◌}
use Rattle.desk_take.proofs.players_of.Goals as goal

pub returns : goal.returns
returns c =
    λ k. c.player_at-p.ensures k ∷ c.player_at-q.ensures k ∷ []
