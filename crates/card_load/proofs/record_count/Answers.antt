-- `card_load::record_count`: the sum so far and the records that are left are all records.
use Prim.Native.Nat.{ℕ, ◌<◌, ◌+◌}
use mathlib.Core.Path.{◌≡◌}
use mathlib.Core.List.{List}
use native.Mathlib.Omega.{arith}
use borrow.Author.Tests.{eq-eqb, ne_eqb}
use lib.Dec.{eqb}
use lib.ListN.{drop}
use Rattle.ground.specs.Cases.{pick}
use Rattle.card_block.specs.Block.{kind_of, count_of}
use Rattle.card_load.specs.Card.{blocks, block_at, record_count}
use Rattle.card_load.proofs.Blocks.{blocks_cons, blocks_end, block_length}
use Rattle.card_load.proofs.record_count.Goals as goal
use Rattle.card_load.proofs.record_count.Goals.{then-b-kind, else-b-kind}

-- one more block
step : (n : ℕ) (card : List ℕ) (kind i : ℕ) → i < n → let b = block_at card i in
    record_count kind (drop i (blocks n card)) ≡ pick (eqb (kind_of b) kind) (count_of b) 0 + record_count kind (drop (i + 1) (blocks n card))
unfolding record_count
step n card kind i h = rw (blocks_cons n card i h)

pub bounds-b-2 : goal.bounds-b-2
bounds-b-2 c =
    omega (arith, block_length c.args.n c.args.card.now c.loop-i.i c.loop-i-test.true c.requires.block_size_in_bounds)

pub half_at-sum-requires : goal.half_at-sum-requires
half_at-sum-requires c =
    omega (arith, block_length c.args.n c.args.card.now c.loop-i.i c.loop-i-test.true c.requires.block_size_in_bounds)

pub loop-i-preserved : goal.loop-i-preserved
loop-i-preserved c =
    let l = c.loop-i in
    let a = c.args in
    let st = step a.n a.card.now a.kind l.i c.loop-i-test.true in
    elim c.if-b-kind.branch [
      | then-b-kind w ↦ let s1 = rw (eq-eqb _ _ w.if-b-kind.true) at st in (omega arith, omega (arith, s1, l.invariant.1))
      | else-b-kind w ↦ let s1 = rw (ne_eqb _ _ w.if-b-kind.false) at st in (omega arith, omega (arith, s1, l.invariant.1))
    ]

pub returns : goal.returns
unfolding record_count
returns c =
    let a = c.args in
    (omega (arith, rw (blocks_end a.n a.card.now c.loop-i.i c.loop-i-test.false) at c.loop-i.invariant.1), omega arith)
