-- `desk_take::owed_sets`: of each client, what both services owe it.
use mathlib.Core.List.{[], ◌∷◌}
use native.Mathlib.Omega.{arith}
use Rattle.desk_take.specs.Take.{owed_sets}
use Rattle.desk_take.proofs.owed_sets.Goals as goal

pub owed_to-a-requires-clause-who_value : goal.owed_to-a-requires-clause-who_value
owed_to-a-requires-clause-who_value c =
    c.requires.all_right 0 (omega arith)

pub owed_to-b-requires-clause-who_value : goal.owed_to-b-requires-clause-who_value
owed_to-b-requires-clause-who_value c =
    c.requires.all_right 1 (omega arith)

pub owed_to-c-requires-clause-who_value : goal.owed_to-c-requires-clause-who_value
owed_to-c-requires-clause-who_value c =
    c.requires.all_right 2 (omega arith)

pub owed_to-d-requires-clause-who_value : goal.owed_to-d-requires-clause-who_value
owed_to-d-requires-clause-who_value c =
    c.requires.all_right 3 (omega arith)

pub returns : goal.returns
unfolding owed_sets
returns c =
    λ k. c.owed_to-a.ensures k ∷ c.owed_to-b.ensures k ∷ c.owed_to-c.ensures k ∷ c.owed_to-d.ensures k ∷ []
