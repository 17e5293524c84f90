-- `text::bits_of`: no octet that was passed exceeds the number.
use Rattle.text.proofs.Bits.{Over}
use Rattle.text.proofs.bits_of.Given as goal

abbrev pub invariant-loop-x : goal.invariant-loop-x
invariant-loop-x l = Over l.s 0 l.x-index l.bits
