-- `mcs::mcs_activate`: `desk_console::activate`, then what C is told.
use Rattle.mcs.proofs.Leaving.{ends, small_said}
use Rattle.mcs.proofs.Short.{activate_words}
use Rattle.mcs.proofs.mcs_activate.Goals as goal

pub finish-requires-clause-all_words : goal.finish-requires-clause-all_words
finish-requires-clause-all_words c =
    small_said c.activate-o.ensures (activate_words _ _ _ _)

pub returns : goal.returns
returns c =
    ends c.activate-o.ensures (c.finish.ensures.value, (c.finish.ensures.track_after, c.finish.ensures.octet_after))
