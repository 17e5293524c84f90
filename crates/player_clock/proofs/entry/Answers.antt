-- `player_clock::entry` meets its contract. Assumes nothing.
use Rattle.player_clock.proofs.Factors.{factors, factor_is}
use Rattle.player_clock.proofs.entry.Goals as goal

pub returns : goal.returns
returns c =
    let a = c.args in
    factor_is a.place _ (factors a.table.now c.requires.table_value a.place c.requires.place_in_bounds)
