-- `mcs_state::put_turn`: the turn alone is another.
use Rattle.mcs_state.proofs.Stored.{turn_stored}
use Rattle.mcs_state.proofs.put_turn.Goals as goal

pub returns : goal.returns
returns c =
    turn_stored c.args.s.now _ c.requires.in_bounds c.requires.plain c.args.turn c.lay_turn.ensures
