-- `mcs::mcs_unsubscribe`: `desk_links::unsubscribe`, then what C is told.
use Rattle.mcs.proofs.Leaving.{ends, small_said}
use Rattle.mcs.proofs.Short.{slot_words}
use Rattle.desk_client.specs.Duties.{dropped}
use Rattle.mcs.proofs.mcs_unsubscribe.Goals as goal

pub finish-requires-clause-all_words : goal.finish-requires-clause-all_words
finish-requires-clause-all_words c =
    small_said c.unsubscribe-o.ensures (slot_words _ _ _ _ _ dropped)

pub returns : goal.returns
returns c =
    ends c.unsubscribe-o.ensures (c.finish.ensures.value, (c.finish.ensures.track_after, c.finish.ensures.octet_after))
