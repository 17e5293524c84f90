-- `desk_slots::without`: a bit cleared by the complement of one bit is a slot taken out.
use lib.Dec.{lit≤}
use Rattle.desk_slots.proofs.CodeLaws.{remove_code}
use Rattle.desk_slots.proofs.without.Goals as goal

pub returns : goal.returns
returns c =
    (remove_code 32 32 c.args.w c.args.s (lit≤ tt) c.ranges.w.fits c.requires).1
