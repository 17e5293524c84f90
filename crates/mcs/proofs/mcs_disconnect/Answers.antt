-- `mcs::mcs_disconnect`: `desk_links::disconnect`, then what C is told.
use Rattle.mcs.proofs.Leaving.{ends, small_said}
use Rattle.mcs.proofs.Short.{disconnect_words}
use Rattle.mcs.proofs.mcs_disconnect.Goals as goal

pub finish-requires-clause-all_words : goal.finish-requires-clause-all_words
finish-requires-clause-all_words c =
    small_said c.disconnect-o.ensures (disconnect_words _ _ _)

pub returns : goal.returns
returns c =
    ends c.disconnect-o.ensures (c.finish.ensures.value, (c.finish.ensures.track_after, c.finish.ensures.octet_after))
