-- `card_load::copy_words`: the first i words are written.
use mathlib.Core.Path.{◌≡◌}
use lib.ListN.{take}
use Rattle.ground.specs.Words.{words}
use Rattle.card_load.proofs.copy_words.Given as goal

abbrev pub invariant-loop-i : goal.invariant-loop-i
invariant-loop-i l = take l.i l.dst ≡ take l.i (words l.src)
