-- `ground::has_bit`: a mask of one bit is a remainder by 2.
use mathlib.Core.Path.{ap}
use Prim.Native.Nat.{ℕ, ◌/◌, ◌^◌}
use lib.Bits.{and_mask}
use lib.Dec.{eqb}
use Rattle.ground.specs.Cases.{has}
use Rattle.ground.proofs.has_bit.Goals as goal

pub returns : goal.returns
unfolding has
returns c =
    ap (λ (x : ℕ). eqb x 1) (and_mask (c.args.w / 2 ^ c.args.s) 1)
