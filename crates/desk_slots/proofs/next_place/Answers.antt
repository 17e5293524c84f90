-- `desk_slots::next_place`: the trailing zeros of the turned word are the places passed over.
use native.Mathlib.Omega.{arith}
use lib.Dec.{lit≤}
use Rattle.desk_slots.specs.Slots.{place_count}
use Rattle.desk_slots.proofs.Turned.{next_code}
use Rattle.desk_slots.proofs.next_place.Goals as goal

pub returns : goal.returns
returns c =
    (omega arith, next_code place_count 32 c.args.w c.args.after (lit≤ tt) c.requires.2 c.requires.0 c.requires.1)
