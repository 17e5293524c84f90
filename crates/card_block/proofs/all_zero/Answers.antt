-- `card_block::all_zero`: what was seen so far, and whether what is left is all zero, say whether the whole is.
use Prim.Native.Nat.{ℕ, ◌<◌, ◌+◌}
use mathlib.Core.Path.{◌≡◌, sym, ap, ◌∙◌}
use mathlib.Core.List.{List}
use mathlib.Core.Bool.{Bool, ◌&&◌}
use native.Mathlib.Numerals.{add-one}
use lib.Dec.{eqb}
use lib.ListN.{length, get_or, drop, drop_of_length-le}
use lib.Seq.{drop-cons}
use Rattle.std.proofs.Math.Bool.{and_assoc, and-true}
use Rattle.card_block.specs.Block.{all_zero}
use Rattle.card_block.proofs.all_zero.Goals as goal

-- one more octet
step : (s : List ℕ) (i : ℕ) → i < length s → all_zero (drop i s) ≡ (eqb (get_or s i 0) 0 && all_zero (drop (i + 1) s))
unfolding all_zero
step s i h = rw (add-one, drop-cons s i 0)

pub loop-x-preserved : goal.loop-x-preserved
loop-x-preserved c =
    let l = c.loop-x in
    and_assoc l.good _ _ ∙ sym (ap (λ (rest : Bool). l.good && rest) (step c.args.s.now l.x-index c.loop-x-test.true)) ∙ l.invariant

pub returns : goal.returns
unfolding all_zero
returns c =
    let l = c.loop-x in
    sym (and-true l.good) ∙ rw (drop_of_length-le c.args.s.now c.loop-x-test.false) at l.invariant
