-- `card_load::fill_octets`: the loop's state is `Filling`.
use Rattle.card_load.specs.Card.{octets}
use Rattle.card_load.proofs.Filling.{Filling}
use Rattle.card_load.proofs.fill_octets.Given as goal

abbrev pub invariant-loop-i : goal.invariant-loop-i
invariant-loop-i l = Filling octets l.kind l.n l.card l.initial.dst l.dst l.i l.at
