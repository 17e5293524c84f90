-- `desk_notices::note_all`: after i turns, the first i accounts are told.
use mathlib.Core.Path.{◌≡◌}
use lib.ListN.{length}
use Rattle.ground.proofs.Sweep.{up_to}
use Rattle.desk_notices.specs.Owed.{noticed}
use Rattle.desk_notices.proofs.note_all.Given as goal

abbrev pub invariant-loop-i : goal.invariant-loop-i
invariant-loop-i l = record {
  four : length l.initial.out ≡ 4;
  told : l.out ≡ up_to (noticed l.altered l.track l.cause) 0 l.i l.initial.out;
}
