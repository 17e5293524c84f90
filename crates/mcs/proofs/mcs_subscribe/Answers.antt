-- `mcs::mcs_subscribe`: `desk_links::subscribe`, then what C is told.
use Rattle.mcs.proofs.Leaving.{ends, small_said}
use Rattle.mcs.proofs.Short.{slot_words}
use Rattle.desk_client.specs.Duties.{joined}
use Rattle.mcs.proofs.mcs_subscribe.Goals as goal

pub finish-requires-clause-all_words : goal.finish-requires-clause-all_words
finish-requires-clause-all_words c =
    small_said c.subscribe-o.ensures (slot_words _ _ _ _ _ joined)

pub returns : goal.returns
returns c =
    ends c.subscribe-o.ensures (c.finish.ensures.value, (c.finish.ensures.track_after, c.finish.ensures.octet_after))
