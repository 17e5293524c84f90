-- A history after which as much is owed as can be: one track, four clients that are subscribed to everything of every service, every value owed to all of
-- them, and as many results waiting for each of them at each service as may wait.
-- Assumes nothing.
use Rattle.std.specs.Prelude.{List, [], ◌∷◌, ◌++◌, ℕ, ◌-◌, replicate}
use Rattle.desk_client.specs.Client.{most_results}
use Rattle.desk_history.specs.Calls.{Call, write}
use Rattle.desk_history.specs.History.{onward}
use Rattle.desk_history.specs.Reached.{one_track, plain, every_change}

-- one result waits for each client already
abbrev presses : ℕ → ℕ → List Call
presses who v = replicate (most_results - 1) (write who v 18 (4 ∷ []))

abbrev pub more_presses : List Call
more_presses =
    presses 0 0 ++ (presses 1 0 ++ (presses 2 0 ++ (presses 3 0 ++ (presses 0 1 ++ (presses 1 1 ++ (presses 2 1 ++ presses 3 1))))))

-- newest call first
abbrev pub full_history : List Call
full_history = onward one_track plain plain (onward one_track plain plain [] every_change) more_presses
