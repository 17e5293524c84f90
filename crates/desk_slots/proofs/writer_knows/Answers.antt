-- `desk_slots::writer_knows`: the bits of the word are those that their writer knows.
use mathlib.Core.Path.{◌∙◌, refl}
use Rattle.desk_slots.specs.Slots.{insert}
use Rattle.desk_slots.specs.Characteristics.{writer_knows, is_in, set_of}
use Rattle.desk_slots.proofs.SetLaws.{listed}
use Rattle.desk_slots.proofs.writer_knows.Goals as goal

pub returns : goal.returns
unfolding insert is_in set_of
returns c =
    c.in_word.ensures ∙ listed 32 writer_knows refl c.args.c
