-- `desk_slots::next_client`: what the search finds from distance d on is still the answer.
use mathlib.Core.Path.{◌≡◌}
use Rattle.desk_slots.specs.Slots.{client_count, owing}
use Rattle.desk_slots.specs.Round.{next}
use Rattle.desk_slots.proofs.Scan.{scan}
use Rattle.desk_slots.proofs.next_client.Given as goal

abbrev pub invariant-loop-d : goal.invariant-loop-d
invariant-loop-d l = next client_count (owing l.owed) l.after ≡ scan client_count (owing l.owed) l.after l.d
