-- What becomes of an account when its client subscribes and unsubscribes (SCOPE 17.10 and 17.11), when values change (SCOPE 18.1 and 18.6), when it reads
-- (SCOPE 17.14), when a result falls due (SCOPE 18.7), and when a slot is served (SCOPE 19.4).
-- Assumes nothing.
use Rattle.std.specs.Prelude.{ℕ, ltb, set}
use Rattle.ground.specs.Cases.{pick, has}
use Rattle.desk_slots.specs.Slots.{service_of, slot_at, insert, remove, union, inter, minus}
use Rattle.desk_client.specs.Client.{control_slot, is_control, account_with}
use Rattle.desk_client.specs.Setters.{with_subscribed, with_owed, with_mark, with_queue, with_fresh}
use Rattle.desk_client.specs.Queue.{pushed, popped}
use Rattle.desk_client.specs.declared.Account.{Account}
use Rattle.desk_client.specs.declared.Client.{Client}

-- SCOPE 17.10: "makes a slot one of the client's in that service. Subscribing twice changes nothing."
unfoldable pub joined : ℕ → Account → Account
joined s a = with_subscribed (insert a.subscribed s) a

-- SCOPE 17.11: "drops what the slot owes; of 18 these are the waiting results"
unfoldable pub dropped : ℕ → Account → Account
dropped s a =
    with_subscribed (remove a.subscribed s)
    (with_owed (remove a.owed s) (with_queue (pick (is_control s) 0 a.waiting) a.results a))

-- a call changed values: of the slots that fell due those are owed that are subscribed, and "What is already owed stays owed" (SCOPE 18.6); what was altered
-- is no longer as it was read (SCOPE 17.14)
unfoldable pub noted : ℕ → ℕ → Account → Account
noted due altered a = with_owed (union a.owed (inter a.subscribed due)) (with_fresh (minus a.fresh altered) a)

-- SCOPE 17.14: "An accepted read at 0 sets the mark for this."
unfoldable pub was_read : ℕ → Account → Account
was_read characteristic a = with_fresh (insert a.fresh characteristic) a

-- SCOPE 18.7: "There is one for each accepted control write by a client that is subscribed to 18 at the time."
unfoldable pub resulted : ℕ → ℕ → Account → Account
resulted opcode code a =
    pick (has a.subscribed control_slot) (with_owed (insert a.owed control_slot) (pushed opcode code a)) a

-- the oldest result was handed out, and "18 is owed while results wait" (SCOPE 18.7)
unfoldable pub result_taken : Account → Account
result_taken a = with_owed (pick (ltb 1 a.waiting) a.owed (remove a.owed control_slot)) (popped a)

-- what was owed of a slot was handed out
unfoldable pub served : ℕ → Account → Account
served s a = pick (is_control s) (result_taken a) (with_owed (remove a.owed s) a)

-- a client was served the slot of a place, and its round goes on behind it (SCOPE 19.3)
unfoldable pub passed_on : ℕ → Client → Client
passed_on place c =
    record {
      link = with_mark place c.link;
      accounts = set c.accounts (service_of place) (served (slot_at place) (account_with c (service_of place)));
    }
