-- `card_fill::put_words`: the octets of the first i words are laid, and a turn lays the next word's behind them.
use mathlib.Core.Path.{◌≡◌}
use lib.ListN.{length, take}
use Rattle.ground.specs.Lists.{laid}
use Rattle.ground.specs.Words.{octets_of}
use Rattle.card_fill.proofs.put_words.Given as goal

abbrev pub invariant-loop-i : goal.invariant-loop-i
invariant-loop-i l = (length l.b ≡ length l.initial.b) × (l.b ≡ laid l.initial.b l.at (octets_of (take l.i l.src)))
