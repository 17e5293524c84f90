-- `text::eight_bits`: one octet more, seven times.
use mathlib.Core.List.{List}
use Prim.Native.Nat.{ℕ, zero, suc, ◌+◌}
use native.Mathlib.Omega.{arith}
use lib.Bits.{bit_or}
use lib.ListN.{get_or}
use Rattle.text.proofs.Bits.{Over, over_one, over_more}
use Rattle.text.proofs.eight_bits.Goals as goal

module _ (s : List ℕ) (at : ℕ) where
  -- the or of the octet at a place and the n behind it
  abbrev ored : ℕ → ℕ
  ored zero = get_or s at 0
  ored (suc n) = bit_or (ored n) (get_or s (at + suc n) 0)

  eight : Over s at (at + 8) (ored 7)
  eight = up 7
    where
      up : (n : ℕ) → Over s at (at + suc n) (ored n)
      up zero = over_one s at
      up (suc n) = over_more s at (at + suc n) (ored n) (at + suc (suc n)) (omega arith) (up n)

pub returns : goal.returns
returns c =
    let a = c.args in
    eight a.s.now a.at
