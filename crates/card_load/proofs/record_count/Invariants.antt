-- `card_load::record_count`: the sum so far and the records that are left are all records.
use Prim.Native.Nat.{◌≤◌, ◌+◌, ◌*◌}
use mathlib.Core.Path.{◌≡◌}
use lib.ListN.{drop}
use Rattle.card_load.specs.Card.{blocks, record_count}
use Rattle.card_load.proofs.record_count.Given as goal

abbrev pub invariant-loop-i : goal.invariant-loop-i
invariant-loop-i l =
    (l.sum ≤ l.i * 65536) × (l.sum + record_count l.kind (drop l.i (blocks l.n l.card)) ≡ record_count l.kind (blocks l.n l.card))
