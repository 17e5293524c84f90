-- `desk_slots::with`: a bit set by a mask of one bit is a slot put in.
use lib.Dec.{lit≤}
use Rattle.desk_slots.proofs.CodeLaws.{insert_code}
use Rattle.desk_slots.proofs.with.Goals as goal

pub returns : goal.returns
returns c =
    (insert_code 32 32 c.args.w c.args.s (lit≤ tt) c.ranges.w.fits c.requires).1
