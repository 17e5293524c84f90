-- `card_fill::words_block`: head, records and check octets, laid in one after the other, are the block.
use mathlib.Core.Path.{ap, ◌∙◌}
use mathlib.Core.List.{List}
use Prim.Native.Nat.{ℕ, ◌+◌, ◌-◌}
use native.Mathlib.Omega.{arith}
use lib.ListN.{take, drop}
use Rattle.ground.specs.Lists.{laid}
use Rattle.ground.specs.Words.{octets_of}
use Rattle.ground.proofs.Laying.{part_length}
use Rattle.card_fill.proofs.Making.{made}
use Rattle.ground.proofs.Words.{octets_length}
use Rattle.card_fill.proofs.words_block.Goals as goal

pub returns : goal.returns
returns c =
    let h = c.headed-b in
    let a = c.args in
    let s = take (a.from + a.n - a.from) (drop a.from a.src.now) in
    let records = octets_of s in
    let n = part_length a.src.now a.from a.n (omega arith) in
    made a.number a.kind a.count records (omega (arith, octets_length s)) c.put_words.new.b c.put_checks.new.b
    (c.put_words.ensures ∙ ap (λ (l : List ℕ). laid l 5 records) h.ensures) c.put_checks.ensures
