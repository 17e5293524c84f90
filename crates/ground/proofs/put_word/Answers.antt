-- `ground::put_word`: the octets of the word are laid as a part; of a word of 32 bits the last is an octet.
use mathlib.Core.Path.{◌≡◌, ◌∙◌}
use mathlib.Core.List.{[], ◌∷◌}
use Prim.Native.Nat.{◌/◌, ◌%◌}
use native.Mathlib.Omega.{arith}
use Rattle.ground.specs.Words.{octets_of_word}
use Rattle.ground.proofs.Laying.{part_laid}
use Rattle.ground.proofs.put_word.Goals as goal

pub returns : goal.returns
returns c =
    let w = c.args.w in
    let top : w / 16777216 % 256 ≡ w / 16777216 = omega arith in
    part_laid _ _ _ _ (octets_of_word w)
    (c.copy.ensures.after ∙ c.to_le_bytes.ensures ∙ (λ k. w % 256 ∷ w / 256 % 256 ∷ w / 65536 % 256 ∷ top k ∷ []))
    (omega arith)
