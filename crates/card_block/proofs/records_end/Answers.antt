-- `card_block::records_end`: a count that has room makes an end of at most 510.
use mathlib.Core.Path.{◌≡◌}
use Prim.Native.Nat.{ℕ, ◌*◌, ◌≤◌}
use native.Mathlib.Omega.{arith}
use Rattle.card_block.specs.Block.{record_size, most_records}
use Rattle.card_block.proofs.Records.{records_room}
use Rattle.card_block.proofs.records_end.Goals as goal

used : (kind n : ℕ) → n ≤ most_records kind → (count size : ℕ) → count ≡ n → size ≡ record_size kind → count * size ≤ 505
used kind n h count size e q = rw (e, q) (records_room kind n h)

pub overflow_mul-result : goal.overflow_mul-result
overflow_mul-result c =
    omega (arith, used _ _ c.requires.b_bound _ _ c.half_at-count.ensures.0 c.record_size-size.ensures)

pub overflow_add-result : goal.overflow_add-result
overflow_add-result c =
    omega (arith, used _ _ c.requires.b_bound _ _ c.half_at-count.ensures.0 c.record_size-size.ensures)

pub returns : goal.returns
returns c =
    let u = used _ _ c.requires.b_bound _ _ c.half_at-count.ensures.0 c.record_size-size.ensures in
    (rw (c.half_at-count.ensures.0, c.record_size-size.ensures), omega (arith, u), omega (arith, u))
