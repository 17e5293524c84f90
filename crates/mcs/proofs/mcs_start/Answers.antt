-- `mcs::mcs_start`: `desk_console::start`, then what C is told.
use Rattle.mcs.proofs.Leaving.{ends, small_said}
use Rattle.mcs.proofs.Short.{start_words}
use Rattle.mcs.proofs.mcs_start.Goals as goal

pub finish-requires-clause-all_words : goal.finish-requires-clause-all_words
finish-requires-clause-all_words c =
    small_said c.start-o.ensures (start_words _ _ _)

pub returns : goal.returns
returns c =
    ends c.start-o.ensures (c.finish.ensures.value, (c.finish.ensures.track_after, c.finish.ensures.octet_after))
