-- A history in which a value waits for the last answered take that is allowed (SCOPE 21.4): one track, four clients that are subscribed to everything of every
-- service, and everything owed to all of them, the value that was served last once more.
-- Assumes nothing.
use Rattle.std.specs.Prelude.{true, List, [], ◌∷◌, ◌++◌, map, ℕ, replicate}
use Rattle.catalogue_titles.specs.Lent.{Lent, lending}
use Rattle.desk_slots.specs.Slots.{slot_table}
use Rattle.player_moves.specs.Cases01.{every_opcode}
use Rattle.desk_console.specs.Console.{Beginning}
use Rattle.desk_history.specs.Calls.{Call, set_name, activate, connect, subscribe, write, take}
use Rattle.desk_history.specs.History.{onward}

-- a group with one track of a second, named A and not renamed
abbrev pub one_track : Lent
one_track = lending (0 ∷ 0 ∷ 1 ∷ []) (100 ∷ 0 ∷ 0 ∷ 0 ∷ 0 ∷ 1 ∷ []) [] (0x41 ∷ []) (0 ∷ 0 ∷ []) []

-- a player without a name that offers every opcode
abbrev pub plain : Beginning
plain = record { name = []; mask = every_opcode; ccid = 0 }

-- the calls of one client: it connects, and subscribes to every slot of both services
abbrev pub comes : ℕ → List Call
comes who = connect who 23 true ∷ (map (subscribe who 0) slot_table ++ map (subscribe who 1) slot_table)

-- every value of a service changes: the name, those of the track, the group and the state, both speeds, the order, and with it the next track; each client
-- writes to the control point
abbrev pub everything : ℕ → List Call
everything v =
    set_name v (0x42 ∷ []) ∷ activate v 0
    ∷ write 0 v 8 (1 ∷ []) ∷ write 1 v 8 (2 ∷ []) ∷ write 0 v 15 (1 ∷ []) ∷ write 1 v 15 (2 ∷ [])
    ∷ write 0 v 18 (4 ∷ []) ∷ write 1 v 18 (4 ∷ []) ∷ write 2 v 18 (4 ∷ []) ∷ write 3 v 18 (4 ∷ [])
    ∷ []

abbrev pub takes : ℕ → List Call
takes n = replicate n (take 128)

-- all four come, and every value of both services changes
abbrev pub every_change : List Call
every_change = comes 0 ++ (comes 1 ++ (comes 2 ++ (comes 3 ++ (everything 0 ++ everything 1))))

-- the generic service's name is handed to all four, and changes again
abbrev before : List Call
before = every_change ++ (takes 4 ++ (set_name 0 (0x43 ∷ []) ∷ []))

-- newest call first
abbrev pub reached_history : List Call
reached_history = onward one_track plain plain [] before
