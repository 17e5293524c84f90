-- `desk_slots::difference`: `&` with the complement leaves what is not in the other.
use Rattle.desk_slots.proofs.CodeLaws.{minus_code}
use Rattle.desk_slots.proofs.difference.Goals as goal

pub returns : goal.returns
returns c =
    minus_code 32 c.args.w c.args.v c.ranges.w.fits c.ranges.v.fits
