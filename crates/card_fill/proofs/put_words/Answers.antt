-- `card_fill::put_words`: the octets of the first i words are laid, and a turn lays the next word's behind them.
use mathlib.Core.Path.{◌≡◌, sym, ap, ◌∙◌}
use Prim.Native.Nat.{◌+◌, ◌*◌}
use native.Mathlib.Omega.{arith}
use borrow.Author.Rules.{rules}
use lib.ListN.{length, get_or, take}
use lib.Seq.{length-take-le}
use Rattle.ground.specs.Lists.{laid}
use Rattle.ground.specs.Words.{octets_of_word, octets_of}
use Rattle.ground.proofs.Laying.{laid_nothing, laid_length, turn}
use Rattle.ground.proofs.Words.{octets_more, octets_length}
use Rattle.card_fill.proofs.put_words.Goals as goal

pub loop-i-init : goal.loop-i-init
unfolding octets_of
loop-i-init c =
    let a = c.args in
    (search rules, laid_nothing a.b.now a.at)

pub loop-i-preserved : goal.loop-i-preserved
loop-i-preserved c =
    let p = c.put_word in
    let a = c.args in
    let l = c.loop-i in
    let s = a.src.now in
    let next = octets_of_word (get_or s l.i 0) in
    let n : length (octets_of (take l.i s)) ≡ l.i * 4 = omega (arith, octets_length (take l.i s), length-take-le l.i s (omega arith)) in (
      ap length p.ensures ∙ laid_length l.b (a.at + l.i * 4) next (omega arith) ∙ l.invariant.0,
      turn a.b.now a.at (octets_of (take l.i s)) next l.b p.new.b (a.at + l.i * 4) l.invariant.1 p.ensures (omega arith) (omega arith)
          ∙ ap (laid a.b.now a.at) (sym (octets_more s l.i c.loop-i-test.true)),
    )
