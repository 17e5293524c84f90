-- `card_block::half_sums`: what is summed so far, with what the rest sums to, is the whole; and the whole fits.
use Prim.Native.Nat.{◌+◌}
use mathlib.Core.Path.{◌≡◌}
use lib.ListN.{drop}
use Rattle.card_block.specs.Sums.{sum_of}
use Rattle.card_block.proofs.SumLaws.{weighted}
use Rattle.card_block.proofs.half_sums.Given as goal

abbrev pub invariant-loop-octet : goal.invariant-loop-octet
invariant-loop-octet l =
    (l.weight + l.octet-index ≡ 255)
    × (l.plain + sum_of (drop l.octet-index l.s) ≡ sum_of l.s)
    × (l.running + weighted (drop l.octet-index l.s) ≡ weighted l.s)
