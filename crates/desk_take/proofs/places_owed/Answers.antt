-- `desk_take::places_owed`: what each account owes.
use native.Mathlib.Omega.{arith}
use Rattle.desk_take.specs.Serving.{places_owed}
use Rattle.desk_take.proofs.Laws.{owed_set}
use Rattle.desk_take.proofs.places_owed.Goals as goal

pub places_of-requires : goal.places_of-requires
places_of-requires c =
    let generic = owed_set c.args.c c.requires 0 (omega arith) in
    let named = owed_set c.args.c c.requires 1 (omega arith) in
    search (generic, named)

pub returns : goal.returns
unfolding places_owed
returns c =
    c.places_of.ensures
