-- `card_block::half_sums`: what is summed so far, with what the rest sums to, is the whole; and the whole fits.
use Prim.Native.Nat.{ℕ, ◌≤◌}
use mathlib.Core.Path.{◌≡◌}
use mathlib.Core.List.{List}
use native.Mathlib.Omega.{arith}
use lib.ListN.{length, drop_of_length-le}
use Rattle.card_block.specs.Sums.{sum_of}
use Rattle.card_block.proofs.SumLaws.{Octets, weighted, running_is_weighted, sum_turn, weighted_turn, sums_most}
use Rattle.card_block.proofs.half_sums.Goals as goal

half_fits : (s : List ℕ) → length s ≡ 255 → Octets s → (sum_of s ≤ 65025) × (weighted s ≤ 8323200)
half_fits s h o =
    let m = sums_most s 255 o (omega arith) in
    (m.0, omega (arith, m.1, running_is_weighted s))

pub overflow_add-plain : goal.overflow_add-plain
overflow_add-plain c =
    let s = c.args.s.now in
    omega (arith, half_fits s c.requires (λ i. omega (arith, c.type_inv.s i)), sum_turn s c.loop-octet.octet-index c.loop-octet-test.true)

pub overflow_add-running : goal.overflow_add-running
overflow_add-running c =
    let s = c.args.s.now in
    let l = c.loop-octet in
    omega (arith, half_fits s c.requires (λ i. omega (arith, c.type_inv.s i)), weighted_turn s l.octet-index l.weight c.loop-octet-test.true (omega arith))

pub loop-octet-preserved : goal.loop-octet-preserved
loop-octet-preserved c =
    let s = c.args.s.now in
    let l = c.loop-octet in
    let h = c.loop-octet-test.true in (
      omega arith,
      omega (arith, sum_turn s l.octet-index h),
      omega (arith, weighted_turn s l.octet-index l.weight h (omega arith)),
    )

pub returns : goal.returns
unfolding sum_of weighted
returns c =
    let s = c.args.s.now in
    let l = rw (drop_of_length-le s c.loop-octet-test.false) at c.loop-octet.invariant in
    (omega arith, omega (arith, running_is_weighted s))
