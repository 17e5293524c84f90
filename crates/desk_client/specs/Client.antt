-- A client's record, which is its link and its account with each service (SCOPE 17.2 and 17.3), and what 201 asks of it (SCOPE 20.5).
-- Assumes nothing.
use Rattle.std.specs.Prelude.{Bool, true, false, ◌&&◌, ◌||◌, not, List, [], ℕ, ◌-◌, eqb, ltb, leb, get_or, replicate}
use Rattle.std.specs.Int.Bits.{bit_and}
use Rattle.ground.specs.Cases.{pick, within, has}
use Rattle.ground.specs.Lists.{all_below}
use Rattle.desk_slots.specs.Slots.{service_count, place_count, only_slots, inter}
use Rattle.desk_slots.specs.Characteristics.{readables, is_in, set_of}
use Rattle.desk_client.specs.declared.Entry.{Entry}
use Rattle.desk_client.specs.declared.Link.{Link}
use Rattle.desk_client.specs.declared.Account.{Account}
use Rattle.desk_client.specs.declared.Client.{Client}

-- SCOPE 17.8: "its ATT_MTU, 23 to 517"
abbrev pub least_mtu : ℕ
least_mtu = 23

abbrev pub most_mtu : ℕ
most_mtu = 517

abbrev pub mtu_right : ℕ → Bool
mtu_right mtu = within least_mtu most_mtu mtu

-- the slot of the control point, 18, stands last in the table
abbrev pub control_slot : ℕ
control_slot = 13

abbrev pub is_control : ℕ → Bool
is_control slot = eqb slot control_slot

abbrev pub most_results : ℕ
most_results = 8

-- the marks of what was read are of characteristics that may be read
abbrev pub only_readable : ℕ → Bool
only_readable w = eqb (bit_and w (set_of 32 (is_in readables))) w

abbrev pub blank_entry : Entry
blank_entry = record { opcode = 0; code = 0 }

-- each result that waits has a code from 1 to 4 (SCOPE 20.5)
abbrev pub codes_right : ℕ → List Entry → Bool
codes_right waiting results = all_below waiting (λ i. within 1 4 (get_or results i blank_entry).code)

abbrev pub alike : Bool → Bool → Bool
alike a b = pick a b (not b)

-- the account of a connected client (SCOPE 20.5): no bit stands outside the slots or the readable characteristics; no slot is owed but not subscribed; 18 is
-- owed just when results wait; and these are at most 8, with codes from 1 to 4
unfoldable pub account_rule : Account → Bool
account_rule a =
    only_slots a.subscribed
    && only_slots a.owed
    && only_readable a.fresh
    && eqb (inter a.owed a.subscribed) a.owed
    && alike (has a.owed control_slot) (ltb 0 a.waiting)
    && leb a.waiting most_results
    && codes_right a.waiting a.results

-- the account in start's record: "nothing subscribed, nothing owed, no result and no mark" (SCOPE 17.7). What stands where results would wait means nothing.
unfoldable pub blank_rule : Account → Bool
blank_rule a = eqb a.subscribed 0 && eqb a.owed 0 && eqb a.fresh 0 && eqb a.waiting 0

-- a link (SCOPE 20.5): connected, its ATT_MTU is right and the place of its round is one of the 28; not connected, it is that of start's record (SCOPE 17.7)
unfoldable pub link_rule : Link → Bool
link_rule l =
    pick l.connected (mtu_right l.mtu && ltb l.mark place_count)
    (not l.encrypted && eqb l.mtu least_mtu && eqb l.mark (place_count - 1))

-- an account of that client (SCOPE 20.5): no slot is subscribed while the connection is unencrypted
unfoldable pub account_fits : Link → Account → Bool
account_fits l a = pick l.connected (account_rule a && (l.encrypted || eqb a.subscribed 0)) (blank_rule a)

-- what stands behind the end of the accounts
abbrev pub no_account : Account
no_account = record { subscribed = 0; owed = 0; fresh = 0; waiting = 0; results = [] }

-- its account with a service
abbrev pub account_with : Client → ℕ → Account
account_with c service = get_or c.accounts service no_account

-- the whole record: its link, and its account with each service (SCOPE 20.5)
unfoldable pub client_rule : Client → Bool
client_rule c = link_rule c.link && all_below service_count (λ v. account_fits c.link (account_with c v))

-- an account with nothing subscribed, nothing owed, no result and no mark
unfoldable pub blank_account : Account
blank_account = record { subscribed = 0; owed = 0; fresh = 0; waiting = 0; results = replicate most_results blank_entry }

-- SCOPE 17.8: "the round of its slots begins at service 0's lowest"; the mark is the place that was served last, so that the lowest comes next
abbrev pub link_of : Bool → Bool → ℕ → Link
link_of connected encrypted mtu = record { connected = connected; encrypted = encrypted; mtu = mtu; mark = place_count - 1 }

-- the link in start's record (SCOPE 17.7)
unfoldable pub start_link : Link
start_link = link_of false false least_mtu

unfoldable pub connected_link : ℕ → Bool → Link
connected_link mtu encrypted = link_of true encrypted mtu

abbrev pub blank_client : Link → Client
blank_client l = record { link = l; accounts = replicate service_count blank_account }
