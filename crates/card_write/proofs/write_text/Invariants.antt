-- `card_write::write_text`: the first i blocks are laid (`Laying`), and a turn lays the next.
use Rattle.card_write.specs.Card.{text_blocks}
use Rattle.card_write.proofs.Joining.{Laying}
use Rattle.card_write.proofs.write_text.Given as goal

abbrev pub invariant-loop-i : goal.invariant-loop-i
invariant-loop-i l = Laying (text_blocks l.first l.src) l.first l.initial.card l.card l.i
