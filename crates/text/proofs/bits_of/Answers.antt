-- `text::bits_of`: no octet that was passed exceeds the number.
use mathlib.Core.Path.{refl}
use Prim.Native.Nat.{◌+◌}
use Rattle.text.proofs.Bits.{over_more}
use Rattle.text.proofs.bits_of.Goals as goal

pub loop-x-preserved : goal.loop-x-preserved
loop-x-preserved c =
    over_more c.args.s.now 0 c.loop-x.x-index c.loop-x.bits (c.loop-x.x-index + 1) refl c.loop-x.invariant
