-- `text::plain_from`: the last k times eight octets are plain.
use Prim.Native.Nat.{ℕ, ◌-◌, ◌*◌, ◌≤◌, ◌<◌}
use lib.ListN.{length, get_or}
use Rattle.text.proofs.plain_from.Given as goal

abbrev pub invariant-loop-k : goal.invariant-loop-k
invariant-loop-k l = (i : ℕ) → length l.s - l.k * 8 ≤ i → i < length l.s → get_or l.s i 0 ≤ 0x7F
