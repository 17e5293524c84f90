-- `desk_notices::due_to`: after s turns, the slots below s.
use mathlib.Core.Path.{◌≡◌}
use Rattle.desk_slots.specs.Characteristics.{set_of}
use Rattle.desk_notices.specs.Owed.{falls}
use Rattle.desk_notices.proofs.due_to.Given as goal

abbrev pub invariant-loop-s : goal.invariant-loop-s
invariant-loop-s l = l.due ≡ set_of l.s (falls l.altered l.track l.cause l.who)
