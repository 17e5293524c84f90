-- `desk_slots::characteristic_of`: what is left behind the rows of the table is the last slot.
use mathlib.Core.Path.{◌≡◌, sym, ap}
use native.Mathlib.Omega.{arith}
use Rattle.desk_slots.specs.Slots.{characteristic_of}
use Rattle.desk_slots.proofs.characteristic_of.Goals as goal

pub returns-in_default : goal.returns-in_default
unfolding characteristic_of
returns-in_default c =
    let last : c.args.slot ≡ 13 = omega arith in
    (omega arith, sym (ap characteristic_of last))
