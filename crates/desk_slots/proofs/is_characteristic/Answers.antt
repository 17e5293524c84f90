-- `desk_slots::is_characteristic`: the bits of the word are the characteristics.
use mathlib.Core.Path.{◌∙◌, refl}
use Rattle.desk_slots.specs.Slots.{insert}
use Rattle.desk_slots.specs.Characteristics.{every_one, is_in, set_of}
use Rattle.desk_slots.proofs.SetLaws.{listed}
use Rattle.desk_slots.proofs.is_characteristic.Goals as goal

pub returns : goal.returns
unfolding insert is_in set_of
returns c =
    c.in_word.ensures ∙ listed 32 every_one refl c.args.c
