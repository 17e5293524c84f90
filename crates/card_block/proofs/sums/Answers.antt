-- `card_block::sums`: the sums of the two halves are those of the whole, and they fit; so the remainders are those of SCOPE 3.4.
use Prim.Native.Nat.{◌%◌}
use native.Mathlib.Omega.{arith}
use Rattle.card_block.specs.Sums.{sums_of}
use Rattle.card_block.proofs.SumLaws.{from_halves}
use Rattle.card_block.proofs.sums.Goals as goal

pub overflow_add-plain : goal.overflow_add-plain
overflow_add-plain c =
    omega (arith, from_halves c.args.s.now _ _ _ _ (λ i. omega (arith, c.type_inv.s i)) c.requires c.half_sums-first.ensures c.half_sums-second.ensures)

pub overflow_mul-running : goal.overflow_mul-running
overflow_mul-running c =
    omega (arith, from_halves c.args.s.now _ _ _ _ (λ i. omega (arith, c.type_inv.s i)) c.requires c.half_sums-first.ensures c.half_sums-second.ensures)

pub overflow_add-running : goal.overflow_add-running
overflow_add-running c =
    omega (arith, from_halves c.args.s.now _ _ _ _ (λ i. omega (arith, c.type_inv.s i)) c.requires c.half_sums-first.ensures c.half_sums-second.ensures)

pub overflow_add-running-2 : goal.overflow_add-running-2
overflow_add-running-2 c =
    omega (arith, from_halves c.args.s.now _ _ _ _ (λ i. omega (arith, c.type_inv.s i)) c.requires c.half_sums-first.ensures c.half_sums-second.ensures)

pub returns : goal.returns
unfolding sums_of
returns c =
    let w = from_halves c.args.s.now _ _ _ _ (λ i. omega (arith, c.type_inv.s i)) c.requires c.half_sums-first.ensures c.half_sums-second.ensures in
    λ k. record { plain = w.plain k % 255; running = w.running k % 255 }
