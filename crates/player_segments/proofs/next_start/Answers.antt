-- `player_segments::next_start`: the start at the cut at the position.
use mathlib.Core.Path.{◌∙◌}
use Rattle.player_segments.proofs.Cuts.{next_past, next_here}
use Rattle.player_segments.proofs.Whole.{next_same}
use Rattle.player_segments.proofs.next_start.Goals as goal

pub returns-then-starts-k : goal.returns-then-starts-k
returns-then-starts-k c =
    next_past _ c.requires.rise _ _ _ c.not_above-k.ensures c.if-starts-k.true ∙ next_same _ _ _

pub returns : goal.returns
returns c =
    next_here _ c.requires.rise _ _ _ c.not_above-k.ensures c.if-starts-k.false ∙ next_same _ _ _
