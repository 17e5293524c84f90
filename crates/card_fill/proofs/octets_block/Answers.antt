-- `card_fill::octets_block`: head, records and check octets, laid in one after the other, are the block.
use mathlib.Core.Path.{ap, ◌∙◌}
use mathlib.Core.List.{List}
use Prim.Native.Nat.{ℕ, ◌+◌, ◌-◌}
use native.Mathlib.Omega.{arith}
use lib.ListN.{take, drop}
use Rattle.ground.specs.Lists.{laid}
use Rattle.ground.proofs.Laying.{part_laid, part_length}
use Rattle.card_fill.proofs.Making.{made}
use Rattle.card_fill.proofs.octets_block.Goals as goal

pub returns : goal.returns
returns c =
    let a = c.args in
    let records = take (a.from + a.n - a.from) (drop a.from a.src.now) in
    let n = part_length a.src.now a.from a.n (omega arith) in
    made a.number a.kind a.count records (omega arith) _ c.put_checks.new.b
    (part_laid 5 _ _ _ records c.copy.ensures.after (omega arith) ∙ ap (λ (l : List ℕ). laid l 5 records) c.headed-b.ensures) c.put_checks.ensures
