-- `player_segments::goto_start`: the steps lead where the closed form says.
use mathlib.Core.Path.{sym, ◌∙◌}
use Rattle.player_segments.proofs.Steps.{stays, goes_ahead, goes_back}
use Rattle.player_segments.proofs.goto_start.Goals as goal

pub returns-in-Stay : goal.returns-in-Stay
returns-in-Stay c =
    stays _ _ _ _ c.requires.rising c.requires.past (sym c.in-Stay.is ∙ c.way_of-way.ensures)

pub returns-in-Ahead : goal.returns-in-Ahead
returns-in-Ahead c =
    goes_ahead _ _ c.args.p.0 _ c.requires.rising c.requires.past _ _ _ (sym c.in-Ahead.is ∙ c.way_of-way.ensures) c.wide_word.ensures.0 c.start_ahead.ensures

pub returns-in-Back : goal.returns-in-Back
returns-in-Back c =
    goes_back _ _ _ _ c.requires.rising c.requires.past _ _ _ (sym c.in-Back.is ∙ c.way_of-way.ensures) c.wide_word-in-Back.ensures.0 c.start_back-x.ensures
