-- A call on the state, with all its arguments; and what the desk's contracts make of it.
-- Assumes nothing.
use Rattle.std.specs.Prelude.{Bool, List, ℕ}
use Rattle.catalogue_titles.specs.Lent.{Lent}
use Rattle.ground.specs.Refusals.{Left}
use Rattle.desk_state.specs.declared.Desk.{Desk}
use Rattle.desk_links.specs.Links.{connect_call, disconnect_call, subscribe_call, unsubscribe_call}
use Rattle.desk_console.specs.Console.{name_call, activate_call, deactivate_call, advance_call}
use Rattle.desk_exchange.specs.Read.{read_call}
use Rattle.desk_exchange.specs.Write.{write_call}
use Rattle.desk_take.specs.Take.{take_call}

-- the calls on the state (SCOPE 17.5), but for start, which begins a history, and for title and manual Goto, which alter nothing. Each has a client, then a
-- service, then what else it is told; a read and a take have the octets of room that they are lent.
pub data Call : Type 0 where
  set_name : ℕ → List ℕ → Call
  activate : ℕ → ℕ → Call
  deactivate : ℕ → Call
  advance : ℕ → ℕ → Call
  connect : ℕ → ℕ → Bool → Call
  disconnect : ℕ → Call
  subscribe : ℕ → ℕ → ℕ → Call
  unsubscribe : ℕ → ℕ → ℕ → Call
  read : ℕ → ℕ → ℕ → ℕ → ℕ → Call
  write : ℕ → ℕ → ℕ → List ℕ → Call
  take : ℕ → Call

-- what a call says and leaves, by its contract
abbrev pub left : Lent → Call → Desk → Left Desk
left k (set_name v name) d = name_call k d v name
left k (activate v g) d = activate_call k d v g
left k (deactivate v) d = deactivate_call k d v
left k (advance v step) d = advance_call k d v step
left k (connect who mtu encrypted) d = connect_call k d who mtu encrypted
left k (disconnect who) d = disconnect_call k d who
left k (subscribe who v c) d = subscribe_call k d who v c
left k (unsubscribe who v c) d = unsubscribe_call k d who v c
left k (read who v c offset room) d = read_call k d who v c offset room
left k (write who v c value) d = write_call k d who v c value
left k (take room) d = take_call k d room
