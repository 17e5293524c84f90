-- SCOPE 21.11: "once only takes with enough room are called, after at most 168 takes nothing more is owed"
-- Assumes nothing.
use Rattle.std.specs.Prelude.{◌≡◌, false, List, [], ◌∷◌, ℕ, ◌+◌, ◌-◌, ◌*◌, ◌≤◌, ◌<◌}
use Rattle.ground.specs.Limits.{least_output}
use Rattle.desk_slots.specs.Slots.{slot_count, service_count, client_count}
use Rattle.desk_client.specs.Client.{most_results}
use Rattle.desk_history.specs.Calls.{Call, take}
use Rattle.desk_history.specs.Ledger.{Ledger, owes}

-- only takes, each lent enough room
pub data OnlyTakes : List Call → Type 0 where
  no_call : OnlyTakes []
  a_take : {room : ℕ} {ks : List Call} → least_output ≤ room → OnlyTakes ks → OnlyTakes (take room ∷ ks)

-- nothing is owed to anybody, by the ledger
abbrev pub Quiet : Ledger → Type 0
Quiet L = (who v s : ℕ) → who < client_count → v < service_count → s < slot_count → owes ((L.service v).account who) s ≡ false

-- the most that can be owed, "4 clients times (2 times 13 values plus 2 times 8 results)" (SCOPE 21.11): the values of all slots but 18, and as many results as
-- may wait
abbrev pub most_owed : ℕ
most_owed = client_count * (service_count * (slot_count - 1) + service_count * most_results)
