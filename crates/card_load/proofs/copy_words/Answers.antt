-- `card_load::copy_words`: the first i words are written.
use Prim.Native.Nat.{◌≤◌, ◌<◌, ◌+◌, ◌*◌, ◌/◌}
use mathlib.Core.Path.{◌≡◌, sym, ◌∙◌}
use mathlib.Core.List.{[], ◌∷◌, ◌++◌}
use native.Mathlib.Numerals.{add-one}
use native.Mathlib.Omega.{arith}
use lib.ListN.{length, get_or}
use lib.Seq.{take-suc, take-suc-set, take_all}
use Rattle.ground.specs.Words.{words}
use Rattle.ground.proofs.Words.{words_length, words_at, words_whole}
use Rattle.card_load.proofs.copy_words.Goals as goal

pub loop-i-preserved : goal.loop-i-preserved
loop-i-preserved c =
    let l = c.loop-i in
    let s = c.args.src.now in
    let n : (l.i + 1) * 4 ≤ length s = omega arith in
    let long : l.i < length (words s) = omega (arith, words_length s (l.i + 1) n) in
    let next : c.word_at.result ≡ get_or (words s) l.i 0 = c.word_at.ensures ∙ sym (words_at s l.i (omega arith)) in
    rw (add-one l.i, take-suc-set l.dst l.i c.word_at.result (omega arith), take-suc (words s) l.i 0 long)
    (λ k. l.invariant k ++ (next k ∷ []))

pub returns : goal.returns
returns c =
    let l = c.loop-i in
    let s = c.args.src.now in
    let e : l.i ≡ length s / 4 = omega arith in
    sym (take_all _ l.dst (omega arith)) ∙ rw (e, words_whole s) at l.invariant
