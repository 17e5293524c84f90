-- Write (SCOPE 17.15): what may be written (SCOPE 20.6 and 14.8), what the player becomes by it (SCOPE 9 and 14), and who is told (SCOPE 18).
-- Assumes nothing.
use Rattle.std.specs.Prelude.{Bool, true, false, not, ◌&&◌, ◌||◌, List, [], ◌∷◌, ◌++◌, ℕ, ◌-◌, eqb, leb, length, get_or}
use Rattle.ground.specs.Cases.{pick, within}
use Rattle.ground.specs.Refusals.{granted, Left, leaves, Row, row}
use Rattle.ground.specs.Words.{word_at, six_at}
use Rattle.catalogue_tables.specs.Tables.{Tables}
use Rattle.catalogue_titles.specs.Lent.{Lent, catalogue_of}
use Rattle.catalogue_tables.specs.Objects.{track_objects, group_objects}
use Rattle.desk_slots.specs.Table.{size_of}
use Rattle.desk_slots.specs.Characteristics.{writables, is_in}
use Rattle.player_opcodes.specs.Opcodes.{parameter_length}
use Rattle.player_state.specs.declared.Player.{Player}
use Rattle.player_state.specs.Player.{is_active, naming, with_order, with_speed}
use Rattle.player_check.specs.Standing.{in_group, group_rule}
use Rattle.player_moves.specs.declared.Controlled.{Controlled}
use Rattle.player_moves.specs.Control.{controlled}
use Rattle.player_moves.specs.Clock.{positioned, track_written, group_written}
use Rattle.desk_client.specs.Client.{most_results}
use Rattle.desk_client.specs.Duties.{resulted}
use Rattle.desk_state.specs.declared.Service.{Service}
use Rattle.desk_state.specs.declared.Desk.{Desk}
use Rattle.desk_state.specs.Desk.{service_at, account_in, with_account, with_service}
use Rattle.desk_notices.specs.Owed.{settled, by_writer}
use Rattle.player_values.specs.Values.{source_of}
use Rattle.desk_replies.specs.Replies.{of_caller, of_characteristic, asked, link_of, account_of}

-- the first octet: of 18 the opcode
abbrev pub first_octet : List ℕ → ℕ
first_octet value = get_or value 0 0

-- 0x0D (SCOPE 20.6): "For 18 it has 1 to 5 octets; of a known opcode it has 5 where the opcode carries a number (9.3), and else 1."; parameterLength is 0 of
-- no opcode
unfoldable pub control_length : List ℕ → Bool
control_length value =
    within 1 5 (length value)
    && (eqb (parameter_length (first_octet value)) 0 || eqb (parameter_length (first_octet value)) (length value))

unfoldable pub length_right : ℕ → List ℕ → Bool
length_right characteristic value =
    pick (eqb characteristic 18) (control_length value) (eqb (length value) (size_of characteristic))

-- the object that is written, by its number, "of which all 48 bits count" (SCOPE 14.1)
abbrev pub object_of : List ℕ → ℕ
object_of value = six_at value 0

-- the track and the group of an object
abbrev pub track_at : List ℕ → ℕ
track_at value = object_of value - track_objects

abbrev pub group_at : List ℕ → ℕ
group_at value = object_of value - group_objects

-- 0x13: "the written order is not 1 to 8" (SCOPE 20.2); and of object numbers "one that is no track of the current group, in 11 and 12; one that is no group or
-- a group without tracks, in 14; and every number while Inactive" (SCOPE 14.8)
unfoldable pub own_track : List ℕ → Player → List ℕ → Bool
own_track groups p value = is_active p && leb track_objects (object_of value) && in_group groups p.place.group.0 (track_at value)

unfoldable pub any_group : List ℕ → Player → List ℕ → Bool
any_group groups p value = is_active p && leb group_objects (object_of value) && group_rule groups (group_at value)

unfoldable pub allowed : List ℕ → Player → ℕ → List ℕ → Bool
allowed groups p characteristic value =
    pick (eqb characteristic 15) (within 1 8 (first_octet value))
    (pick (eqb characteristic 11) (own_track groups p value)
    (pick (eqb characteristic 12) (own_track groups p value)
    (pick (eqb characteristic 14) (any_group groups p value) true)))

-- 202, 219, 203, 0x01, 0x03, 0x0F, 0x0D, 0x13; 0x11, "write to 18 by a client with 8 results waiting in that service" (SCOPE 20.2), which is decided
-- "before the opcode is looked at" (SCOPE 20.7)
abbrev pub write_rows : ℕ → ℕ → Bool → Bool → Bool → ℕ → ℕ → List ℕ → List Row
write_rows who service connected encrypted may waiting characteristic value =
    of_caller who service connected
    ++ (of_characteristic encrypted characteristic 0x03 (is_in writables characteristic)
    ++ (row 0x0D (not (length_right characteristic value))
    ∷ row 0x13 (not may)
    ∷ row 0x11 (eqb characteristic 18 && leb most_results waiting)
    ∷ []))

-- the number that an opcode carries, where it carries one (SCOPE 9.3)
unfoldable pub number_of : List ℕ → ℕ
number_of value = pick (eqb (length value) 5) (word_at value 1) 0

-- the service's player becomes q by a client's write, and every client is told
abbrev pub becoming_by : Lent → Service → ℕ → ℕ → Player → Service
becoming_by k s who characteristic q = settled (source_of k) (by_writer who characteristic) q s

-- a control write: what the opcode comes to (SCOPE 9.4), and its result for the writer (SCOPE 18.7)
abbrev pub with_result : ℕ → ℕ → ℕ → Service → Service
with_result who opcode code s = with_account who (resulted opcode code (account_in s who)) s

abbrev pub outcome_of : Lent → Player → List ℕ → Controlled
outcome_of k p value = controlled k.groups k.tracks k.segments (first_octet value) (number_of value) p

unfoldable pub control_written : Lent → Service → ℕ → List ℕ → Service
control_written k s who value =
    with_result who (first_octet value) (outcome_of k s.player value).result (becoming_by k s who 18 (outcome_of k s.player value).player)

-- what the player becomes by a write to 7, 8, 11, 12, 14 or 15 (SCOPE 9.8 to 9.11, 14.2 to 14.4)
unfoldable pub player_written : Tables → Player → ℕ → List ℕ → Player
player_written k p characteristic value =
    pick (eqb characteristic 7) (positioned k.tracks (word_at value 0) p)
    (pick (eqb characteristic 8) (with_speed (first_octet value) p)
    (pick (eqb characteristic 11) (track_written (track_at value) p)
    (pick (eqb characteristic 12) (naming (track_at value) p)
    (pick (eqb characteristic 14) (group_written k.groups k.tracks (group_at value) p)
    (with_order (first_octet value) p)))))

-- what is written to a service
unfoldable pub written : Lent → Service → ℕ → ℕ → List ℕ → Service
written k s who characteristic value =
    pick (eqb characteristic 18) (control_written k s who value)
    (becoming_by k s who characteristic (player_written (catalogue_of k) s.player characteristic value))

-- of the client that writes
abbrev pub writer_rows : Lent → Desk → ℕ → ℕ → ℕ → List ℕ → List Row
writer_rows k d who service characteristic value =
    write_rows who service (link_of d who).connected (link_of d who).encrypted (allowed k.groups (service_at d service).player characteristic value)
    (account_of d who service).waiting characteristic value

unfoldable pub write_call : Lent → Desk → ℕ → ℕ → ℕ → List ℕ → Left Desk
write_call k d who service characteristic value =
    asked k false d (writer_rows k d who service characteristic value)
    (leaves (granted []) (with_service service (written k (service_at d service) who characteristic value) d))
