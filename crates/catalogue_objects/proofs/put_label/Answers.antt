-- `catalogue_objects::put_label`: an octet, and the word behind it.
use mathlib.Core.Path.{refl}
use mathlib.Core.List.{[], ◌∷◌}
use Prim.Native.Nat.{◌+◌}
use native.Mathlib.Omega.{arith}
use Rattle.ground.specs.Words.{octets_of_word}
use Rattle.ground.proofs.Laying.{laid_one, turn}
use Rattle.catalogue_objects.specs.Entries.{label_octets}
use Rattle.catalogue_objects.proofs.put_label.Goals as goal

pub returns : goal.returns
unfolding label_octets
returns c =
    let a = c.args in
    turn a.out.now a.at (0 ∷ []) (octets_of_word a.position) _ c.put_word.new.b (a.at + 1) (laid_one a.out.now a.at 0 (omega (arith, c.requires))) c.put_word.ensures refl (omega (arith, c.requires))
