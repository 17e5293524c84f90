-- `mcs::mcs_set_name`: `desk_console::set_name`, then what C is told.
use Rattle.mcs.proofs.Leaving.{ends, small_said}
use Rattle.mcs.proofs.Short.{set_name_words}
use Rattle.mcs.proofs.mcs_set_name.Goals as goal

pub finish-requires-clause-all_words : goal.finish-requires-clause-all_words
finish-requires-clause-all_words c =
    small_said c.set_name-o.ensures (set_name_words _ _ _ _)

pub returns : goal.returns
returns c =
    ends c.set_name-o.ensures (c.finish.ensures.value, (c.finish.ensures.track_after, c.finish.ensures.octet_after))
