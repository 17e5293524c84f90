-- Read at an offset. SCOPE 17.13: "hands out the value from the offset on, up to ATT_MTU − 1 octets. Octets of the output behind the answer stay."
-- Assumes nothing.
use Rattle.std.specs.Prelude.{Bool, not, ◌&&◌, List, [], ◌∷◌, ◌++◌, ℕ, ◌-◌, eqb, ltb, length}
use Rattle.ground.specs.Lists.{part_from}
use Rattle.ground.specs.Cases.{pick, has}
use Rattle.ground.specs.Limits.{least_output}
use Rattle.ground.specs.Refusals.{granted, Left, leaves, Row, row}
use Rattle.catalogue_titles.specs.Lent.{Lent}
use Rattle.desk_slots.specs.Characteristics.{readables, is_in}
use Rattle.player_values.specs.Values.{source_of, value_of}
use Rattle.desk_client.specs.declared.Account.{Account}
use Rattle.desk_client.specs.Duties.{was_read}
use Rattle.desk_state.specs.declared.Desk.{Desk}
use Rattle.desk_state.specs.Desk.{service_at, with_account, with_service}
use Rattle.desk_replies.specs.Replies.{of_caller, of_characteristic, asked, link_of, account_of}

-- the value that is read
abbrev pub value_now : Lent → Desk → ℕ → ℕ → List ℕ
value_now k d service characteristic = value_of (source_of k) (service_at d service).player characteristic

-- 202, 219, 203, 0x01, 0x02, 0x0F; 0x80 "where some call has changed the value since the client's last accepted read of it at 0, even if it changed back, and
-- where there was no such read since connecting" (SCOPE 17.14); 0x07, "the offset is above the value's length" (SCOPE 20.2)
abbrev pub read_rows : ℕ → ℕ → Bool → Bool → Bool → ℕ → ℕ → ℕ → List Row
read_rows who service connected encrypted inMind characteristic offset size =
    of_caller who service connected
    ++ (of_characteristic encrypted characteristic 0x02 (is_in readables characteristic)
    ++ (row 0x80 (ltb 0 offset && not inMind) ∷ row 0x07 (ltb size offset) ∷ []))

-- of the client that reads
abbrev pub reader_rows : Desk → ℕ → ℕ → ℕ → ℕ → ℕ → List Row
reader_rows d who service characteristic offset size =
    read_rows who service (link_of d who).connected (link_of d who).encrypted (has (account_of d who service).fresh characteristic) characteristic offset size

-- what is handed out
unfoldable pub read_octets : Lent → Desk → ℕ → ℕ → ℕ → ℕ → List ℕ
read_octets k d who service characteristic offset = part_from offset ((link_of d who).mtu - 1) (value_now k d service characteristic)

-- SCOPE 17.14: "An accepted read at 0 sets the mark for this. A read above 0 neither sets nor clears it."
abbrev pub after_read : ℕ → ℕ → Account → Account
after_read characteristic offset a = pick (eqb offset 0) (was_read characteristic a) a

unfoldable pub read_call : Lent → Desk → ℕ → ℕ → ℕ → ℕ → ℕ → Left Desk
read_call k d who service characteristic offset room =
    asked k (ltb room least_output) d (reader_rows d who service characteristic offset (length (value_now k d service characteristic)))
    (leaves (granted (length (read_octets k d who service characteristic offset) ∷ []))
    (with_service service (with_account who (after_read characteristic offset (account_of d who service)) (service_at d service)) d))
