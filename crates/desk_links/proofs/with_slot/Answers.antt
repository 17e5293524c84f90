-- `desk_links::with_slot`: put in, or taken out.
use Rattle.desk_links.proofs.with_slot.Goals as goal

pub returns-then-on : goal.returns-then-on
returns-then-on c =
    rw c.if-on.true c.join.ensures

pub returns : goal.returns
returns c =
    rw c.if-on.false c.leave.ensures
