-- Connect, disconnect, subscribe and unsubscribe (SCOPE 17.8 to 17.12).
-- Assumes nothing.
use Rattle.std.specs.Prelude.{Bool, false, not, List, [], ◌∷◌, ◌++◌, ℕ}
use Rattle.ground.specs.Refusals.{granted, Left, leaves, Row, row}
use Rattle.catalogue_titles.specs.Lent.{Lent}
use Rattle.desk_slots.specs.Slots.{slot_of, has_slot}
use Rattle.desk_client.specs.declared.Account.{Account}
use Rattle.desk_client.specs.declared.Client.{Client}
use Rattle.desk_client.specs.Client.{mtu_right, start_link, connected_link, blank_client}
use Rattle.desk_client.specs.Duties.{joined, dropped}
use Rattle.desk_state.specs.declared.Desk.{Desk}
use Rattle.desk_state.specs.Desk.{service_at, with_account, with_service, with_client}
use Rattle.desk_replies.specs.Replies.{client_row, connected_row, of_caller, of_characteristic, asked, link_of, account_of}

-- that client's record becomes another
abbrev pub changing : Desk → ℕ → Client → Left Desk
changing d who c = leaves (granted []) (with_client who c d)

-- SCOPE 20.2: 202; 204, "connect, and the client is connected"; 206, "ATT_MTU is not 23 to 517"
abbrev pub connect_rows : ℕ → Bool → ℕ → List Row
connect_rows who connected mtu = client_row who ∷ row 204 connected ∷ row 206 (not (mtu_right mtu)) ∷ []

-- SCOPE 17.9: "Connect and disconnect act on both services, and leave the round of the clients where it stood."
unfoldable pub connect_call : Lent → Desk → ℕ → ℕ → Bool → Left Desk
connect_call k d who mtu encrypted = asked k false d (connect_rows who (link_of d who).connected mtu) (changing d who (blank_client (connected_link mtu encrypted)))

-- 202, 203; "Disconnect gives start's record." (SCOPE 17.9)
abbrev pub disconnect_rows : ℕ → Bool → List Row
disconnect_rows who connected = client_row who ∷ connected_row connected ∷ []

unfoldable pub disconnect_call : Lent → Desk → ℕ → Left Desk
disconnect_call k d who = asked k false d (disconnect_rows who (link_of d who).connected) (changing d who (blank_client start_link))

-- 202, 219, 203, 0x01, 209, 0x0F; of these 209 is "subscribe or unsubscribe to what is no slot" (SCOPE 20.2)
abbrev pub slot_rows : ℕ → ℕ → Bool → Bool → ℕ → List Row
slot_rows who service connected encrypted characteristic =
    of_caller who service connected ++ of_characteristic encrypted characteristic 209 (has_slot characteristic)

-- what becomes of the caller's account with the service, by the slot; "every round" stays "where it stood" (SCOPE 17.12)
unfoldable pub slot_call : Lent → Desk → ℕ → ℕ → ℕ → (ℕ → Account → Account) → Left Desk
slot_call k d who service characteristic f =
    asked k false d (slot_rows who service (link_of d who).connected (link_of d who).encrypted characteristic)
    (leaves (granted []) (with_service service (with_account who (f (slot_of characteristic) (account_of d who service)) (service_at d service)) d))

abbrev pub subscribe_call : Lent → Desk → ℕ → ℕ → ℕ → Left Desk
subscribe_call k d who service characteristic = slot_call k d who service characteristic joined

abbrev pub unsubscribe_call : Lent → Desk → ℕ → ℕ → ℕ → Left Desk
unsubscribe_call k d who service characteristic = slot_call k d who service characteristic dropped
