-- `card_load::fill_octets`: the loop's state is `Filling`.
use mathlib.Core.Path.{refl, ◌∙◌}
use native.Mathlib.Omega.{arith}
use Rattle.std.proofs.lemmas.Slice.{put_mid-paste}
use Rattle.card_block.proofs.Records.{cut_octets}
use Rattle.card_load.specs.Card.{block_at, octets}
use Rattle.card_load.proofs.Filling.{start, skip, room, put, end}
use Rattle.card_load.proofs.fill_octets.Goals as goal
use Rattle.card_load.proofs.fill_octets.Goals.{then-b-kind, else-b-kind}

pub loop-i-init : goal.loop-i-init
loop-i-init c =
    start octets _ _ _ _

pub slice_bounds-copy-end : goal.slice_bounds-copy-end
slice_bounds-copy-end c =
    let l = c.loop-i in
    let a = c.args in
    let b = block_at a.card.now l.i in
    room octets a.kind a.n a.card.now a.dst.now l.dst l.i l.at c.loop-i-test.true l.invariant c.if-b-kind.true _ _
    (cut_octets b c.records_end.result c.records_end.ensures.0) c.requires.card_in_bounds

pub loop-i-preserved : goal.loop-i-preserved
loop-i-preserved c =
    let l = c.loop-i in
    let a = c.args in
    elim c.if-b-kind.branch [
      | then-b-kind w ↦
          let q = cut_octets (block_at a.card.now l.i) w.records_end.result w.records_end.ensures.0 in
          rw w.at-is (put octets a.kind a.n a.card.now a.dst.now l.dst l.i l.at c.loop-i-test.true l.invariant w.if-b-kind.true _ _ q _ c.requires.card_in_bounds
          (w.dst-is ∙ put_mid-paste _ _ _ _ _ _ w.copy.ensures.after (omega arith) refl))
      | else-b-kind w ↦ rw (w.dst-is, w.at-is) (skip octets a.kind a.n a.card.now a.dst.now l.dst l.i l.at c.loop-i-test.true l.invariant w.if-b-kind.false)
    ]

pub returns : goal.returns
returns c =
    let l = c.loop-i in
    let a = c.args in
    end octets a.kind a.n a.card.now a.dst.now l.dst l.i l.at c.loop-i-test.false l.invariant
