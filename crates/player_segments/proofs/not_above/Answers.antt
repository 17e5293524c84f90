-- `player_segments::not_above`: the starts rise, so those not above x stand before the others.
use Rattle.std.proofs.Common.{leb, leb-true, leb-false, arith, rules}
use Rattle.std.proofs.lemmas.List.Sorted.{IsPartitionPoint-from_clause, IsPartitionedBy-leb, IsNonDecreasingBy-from_default}
use Rattle.player_segments.proofs.Cuts.{rises_le}
use Rattle.player_segments.proofs.not_above.Goals as goal

pub returns : goal.returns
returns c =
    let s = c.args.starts.now in
    let parted = IsPartitionedBy-leb (λ y. y) s c.args.x.0 (IsNonDecreasingBy-from_default (λ y. y) s 0 (λ i j. rises_le s c.requires.rise j i)) in
    let point = IsPartitionPoint-from_clause (λ y. leb y c.args.x.0) s _ c.partition_point.ensures.partitioned parted (λ a r q k. search rules) in
    record {
      within = c.partition_point.ensures.bound;
      low = λ k h. leb-true _ _ (point.0 k 0 (omega arith) h);
      high = λ k a h. leb-false _ _ (point.1 k 0 a h);
    }
