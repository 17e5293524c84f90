-- SCOPE 17.4: "A call to one service never alters the replies, the state or the owed values of the other." Here are the calls that go to a service, and desks
-- that agree on it (SCOPE 21.10).
-- Assumes nothing.
use Rattle.std.specs.Prelude.{◌≡◌, Bool, List, ℕ}
use Rattle.desk_client.specs.declared.Link.{Link}
use Rattle.desk_client.specs.Setters.{with_mark}
use Rattle.desk_state.specs.declared.Desk.{Desk}
use Rattle.desk_state.specs.Desk.{link_at, service_at}
use Rattle.desk_history.specs.Calls.{Call, set_name, activate, deactivate, advance, connect, disconnect, subscribe, unsubscribe, read, write}

-- the call goes to service v; a take "is a call to neither service" (SCOPE 19.1)
pub data To (v : ℕ) : Call → Type 0 where
  naming : (name : List ℕ) → To v (set_name v name)
  activating : (g : ℕ) → To v (activate v g)
  deactivating : To v (deactivate v)
  advancing : (step : ℕ) → To v (advance v step)
  subscribing : (who c : ℕ) → To v (subscribe who v c)
  unsubscribing : (who c : ℕ) → To v (unsubscribe who v c)
  reading : (who c offset room : ℕ) → To v (read who v c offset room)
  writing : (who c : ℕ) (value : List ℕ) → To v (write who v c value)

-- the call acts on every service
pub data Both : Call → Type 0 where
  connecting : (who mtu : ℕ) (encrypted : Bool) → Both (connect who mtu encrypted)
  disconnecting : (who : ℕ) → Both (disconnect who)

-- what a client's link is but for the mark of its round: "Only the order of takes is shared." (SCOPE 17.4)
abbrev pub unmarked : Desk → ℕ → Link
unmarked d who = with_mark 0 (link_at d.links who)

-- two desks agree on a service and on the links
pub record SameFor (v : ℕ) (d e : Desk) : Type 0 where
  pub service : service_at d v ≡ service_at e v
  pub link : (who : ℕ) → unmarked d who ≡ unmarked e who
