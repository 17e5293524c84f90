-- `desk_slots::may_read`: the bits of the word are those that may be read.
use mathlib.Core.Path.{◌∙◌, refl}
use Rattle.desk_slots.specs.Slots.{insert}
use Rattle.desk_slots.specs.Characteristics.{readables, is_in, set_of}
use Rattle.desk_slots.proofs.SetLaws.{listed}
use Rattle.desk_slots.proofs.may_read.Goals as goal

pub returns : goal.returns
unfolding insert is_in set_of
returns c =
    c.in_word.ensures ∙ listed 32 readables refl c.args.c
