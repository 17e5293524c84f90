-- `text::scan`: what is left from a place on says the whole.
use mathlib.Core.Path.{refl}
use native.Mathlib.Omega.{arith}
use borrow.Author.Rules.{rules}
use Rattle.text.specs.Utf8.{text_of}
use Rattle.text.proofs.Run.{stopped, turned, plain_rest}
use Rattle.text.proofs.scan.Goals as goal

pub loop-i-init : goal.loop-i-init
unfolding text_of
loop-i-init c =
    (search rules, refl)

pub returns-then-n-eq0 : goal.returns-then-n-eq0
returns-then-n-eq0 c =
    stopped c.args.s.now c.loop-i.i c.loop-i.invariant.1 (omega arith) c.char_at-n.ensures.value c.if-n-eq0.true

pub loop-i-preserved : goal.loop-i-preserved
loop-i-preserved c =
    (search rules, turned c.args.s.now c.loop-i.i c.loop-i.invariant.1 (omega arith) c.char_at-n.ensures.value (omega arith))

pub returns : goal.returns
returns c =
    plain_rest c.args.s.now c.loop-i.i c.loop-i.invariant.1 (λ k l h. c.plain_from-end.ensures.by_index k (omega arith) h)
