-- `mcs::mcs_connect`: `desk_links::connect`, then what C is told.
use Rattle.mcs.proofs.Leaving.{ends, small_said}
use Rattle.mcs.proofs.Short.{connect_words}
use Rattle.mcs.proofs.mcs_connect.Goals as goal

pub finish-requires-clause-all_words : goal.finish-requires-clause-all_words
finish-requires-clause-all_words c =
    small_said c.connect-o.ensures (connect_words _ _ _ _ _)

pub returns : goal.returns
returns c =
    ends c.connect-o.ensures (c.finish.ensures.value, (c.finish.ensures.track_after, c.finish.ensures.octet_after))
