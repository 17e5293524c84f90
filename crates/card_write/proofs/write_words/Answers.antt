-- `card_write::write_words`: the first i blocks are laid (`Laying`), and a turn lays the next.
use mathlib.Core.Path.{◌∙◌}
use native.Mathlib.Omega.{arith}
use Rattle.card_write.specs.Card.{word_blocks}
use Rattle.card_write.proofs.Joining.{laying_start, laying_next, laying_end, words_many, words_long, words_next}
use Rattle.card_write.proofs.write_words.Goals as goal

pub loop-i-init : goal.loop-i-init
loop-i-init c =
    let a = c.args in
    laying_start (word_blocks a.kind a.unit a.first a.src.now) a.first a.card.now

pub loop-i-preserved : goal.loop-i-preserved
loop-i-preserved c =
    let p = c.put_block in
    let b = c.words_block-b in
    let a = c.args in
    let n = words_many a.kind a.unit a.first a.src.now in
    laying_next (word_blocks a.kind a.unit a.first a.src.now) a.first a.card.now (words_long a.kind a.unit a.first a.src.now) (omega arith) c.loop-i.card c.loop-i.i c.loop-i.invariant
    b.result p.new.card (omega arith)
    (b.ensures ∙ words_next a.kind a.unit a.first a.src.now c.loop-i.i _ (omega arith) c.min-m.ensures) p.ensures

pub returns : goal.returns
returns c =
    let a = c.args in
    let n = words_many a.kind a.unit a.first a.src.now in
    laying_end (word_blocks a.kind a.unit a.first a.src.now) a.first a.card.now (words_long a.kind a.unit a.first a.src.now) (omega arith) c.loop-i.card c.loop-i.i c.loop-i.invariant (omega arith)
