-- The results that wait in an account. SCOPE 18.7: "Slot 18 holds up to 8 results for a client in a service, oldest first."
-- Assumes nothing.
use Rattle.std.specs.Prelude.{List, [], ◌∷◌, ◌++◌, ℕ, ◌+◌, ◌-◌, eqb, ltb, take, drop, set}
use Rattle.ground.specs.Cases.{pick}
use Rattle.desk_client.specs.Client.{most_results, blank_entry}
use Rattle.desk_client.specs.Setters.{with_queue}
use Rattle.desk_client.specs.declared.Entry.{Entry}
use Rattle.desk_client.specs.declared.Account.{Account}

-- those that wait
abbrev pub queue_of : Account → List Entry
queue_of a = take a.waiting a.results

-- one more behind those that wait, where there is room
unfoldable pub pushed : ℕ → ℕ → Account → Account
pushed opcode code a =
    pick (ltb a.waiting most_results)
    (with_queue (a.waiting + 1) (set a.results a.waiting (record { opcode = opcode; code = code })) a)
    a

-- without the oldest
abbrev pub without_oldest : List Entry → List Entry
without_oldest results = drop 1 results ++ (blank_entry ∷ [])

unfoldable pub popped : Account → Account
popped a =
    pick (eqb a.waiting 0) a
    (with_queue (a.waiting - 1) (without_oldest a.results) a)
