-- `card_load::fill_words`: the loop's state is `Filling`.
use Rattle.ground.specs.Words.{words}
use Rattle.card_load.proofs.Filling.{Filling}
use Rattle.card_load.proofs.fill_words.Given as goal

abbrev pub invariant-loop-i : goal.invariant-loop-i
invariant-loop-i l = Filling words l.kind l.n l.card l.initial.dst l.dst l.i l.at
