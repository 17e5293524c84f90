-- `player_steps::goto_segment`: the three ways.
use Rattle.player_manual.specs.Made.{by_steps}
use Rattle.player_manual.proofs.Steps.{by_way_lem}
use Rattle.player_steps.proofs.goto_segment.Goals as goal

pub returns-in-Stay : goal.returns-in-Stay
unfolding by_steps
returns-in-Stay c =
    rw (← by_way_lem, ← c.way_of-way.ensures, c.in-Stay.is)

pub returns-in-Ahead : goal.returns-in-Ahead
unfolding by_steps
returns-in-Ahead c =
    rw (← by_way_lem, ← c.way_of-way.ensures, c.in-Ahead.is) c.segments_from_end.ensures

pub returns-in-Back : goal.returns-in-Back
unfolding by_steps
returns-in-Back c =
    rw (← by_way_lem, ← c.way_of-way.ensures, c.in-Back.is) c.segments_from_end-in-Back.ensures
