-- An account or a link with one part changed. antt has no record update.
-- Assumes nothing.
use Rattle.std.specs.Prelude.{List, ℕ}
use Rattle.desk_client.specs.declared.Entry.{Entry}
use Rattle.desk_client.specs.declared.Link.{Link}
use Rattle.desk_client.specs.declared.Account.{Account}

-- what the slots hold: subscribed and owed, and the waiting results
abbrev pub with_slots : ℕ → ℕ → ℕ → List Entry → Account → Account
with_slots subscribed owed waiting results a =
    record { subscribed = subscribed; owed = owed; fresh = a.fresh; waiting = waiting; results = results }

abbrev pub with_subscribed : ℕ → Account → Account
with_subscribed subscribed a = with_slots subscribed a.owed a.waiting a.results a

abbrev pub with_owed : ℕ → Account → Account
with_owed owed a = with_slots a.subscribed owed a.waiting a.results a

abbrev pub with_queue : ℕ → List Entry → Account → Account
with_queue waiting results a = with_slots a.subscribed a.owed waiting results a

abbrev pub with_fresh : ℕ → Account → Account
with_fresh fresh a =
    record { subscribed = a.subscribed; owed = a.owed; fresh = fresh; waiting = a.waiting; results = a.results }

abbrev pub with_mark : ℕ → Link → Link
with_mark mark l = record { connected = l.connected; encrypted = l.encrypted; mtu = l.mtu; mark = mark }
