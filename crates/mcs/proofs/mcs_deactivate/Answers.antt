-- `mcs::mcs_deactivate`: `desk_console::deactivate`, then what C is told.
use Rattle.mcs.proofs.Leaving.{ends, small_said}
use Rattle.mcs.proofs.Short.{deactivate_words}
use Rattle.mcs.proofs.mcs_deactivate.Goals as goal

pub finish-requires-clause-all_words : goal.finish-requires-clause-all_words
finish-requires-clause-all_words c =
    small_said c.deactivate-o.ensures (deactivate_words _ _ _)

pub returns : goal.returns
returns c =
    ends c.deactivate-o.ensures (c.finish.ensures.value, (c.finish.ensures.track_after, c.finish.ensures.octet_after))
