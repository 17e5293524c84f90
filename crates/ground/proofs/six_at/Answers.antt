-- `ground::six_at`: the word from a place on, and the half word behind it.
use native.Mathlib.Omega.{arith}
use Rattle.ground.specs.Words.{six_at}
use Rattle.ground.proofs.six_at.Goals as goal

pub returns : goal.returns
unfolding six_at
returns c =
    let low = c.wide_word-low.ensures in
    let high = c.half_at-high.ensures in
    let word = c.word_at.ensures in
    (rw (low.0, high.0, word), omega arith)
