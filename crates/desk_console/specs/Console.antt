-- The calls of the desk itself, as the clients see them: start (SCOPE 17.6), set name, activate, deactivate (SCOPE 8.8 to 8.10), advance (SCOPE 13.1).
-- Assumes nothing.
use Rattle.std.specs.Prelude.{Bool, false, ◌&&◌, List, [], ◌∷◌, ◌++◌, ℕ, eqb}
use Rattle.ground.specs.Refusals.{granted, Left, leaves, keeping, Row, answered}
use Rattle.catalogue_titles.specs.Lent.{Lent}
use Rattle.player_state.specs.declared.Player.{Player}
use Rattle.player_state.specs.Player.{playing, started_player, renamed, deactivated}
use Rattle.player_check.specs.Standing.{name_row, group_row}
use Rattle.player_moves.specs.Clock.{stays_below, advanced, activated}
use Rattle.desk_state.specs.declared.Desk.{Desk}
use Rattle.desk_state.specs.Desk.{service_at, started_desk, with_service}
use Rattle.desk_replies.specs.Replies.{lent_rows, service_row, asked}
use Rattle.player_values.specs.Values.{source_of}
use Rattle.desk_notices.specs.Owed.{settled, no_writer}

-- what start is told of a player (SCOPE 17.5)
pub record Beginning : Type 0 where
  pub name : List ℕ
  pub mask : ℕ
  pub ccid : ℕ

abbrev pub freshly : Beginning → Player
freshly n = started_player n.name n.mask n.ccid

abbrev pub nameless : Beginning → Beginning
nameless n = record { name = []; mask = n.mask; ccid = n.ccid }

-- 200, 224, 207. SCOPE 17.6: "Start takes no state", and "The name of service 0 is wholly checked before that of service 1". Where it is refused, the state is
-- what start with no names would leave.
abbrev pub start_rows : Lent → Beginning → Beginning → List Row
start_rows k generic named = lent_rows k false ++ (name_row generic.name ∷ name_row named.name ∷ [])

unfoldable pub start_call : Lent → Beginning → Beginning → Left Desk
start_call k generic named =
    answered (keeping (started_desk (freshly (nameless generic)) (freshly (nameless named)))) (start_rows k generic named)
    (leaves (granted []) (started_desk (freshly generic) (freshly named)))

-- the service's player
abbrev pub player_of : Desk → ℕ → Player
player_of d service = (service_at d service).player

-- the service's player becomes q by a call of no client, and every client is told (SCOPE 18.1)
abbrev pub becoming : Lent → Desk → ℕ → Bool → Player → Left Desk
becoming k d service quiet q = leaves (granted []) (with_service service (settled (source_of k) (no_writer quiet) q (service_at d service)) d)

-- 219, 207
abbrev pub name_rows : ℕ → List ℕ → List Row
name_rows service name = service_row service ∷ name_row name ∷ []

unfoldable pub name_call : Lent → Desk → ℕ → List ℕ → Left Desk
name_call k d service name = asked k false d (name_rows service name) (becoming k d service false (renamed name (player_of d service)))

-- 219, 208
abbrev pub activate_rows : Lent → ℕ → ℕ → List Row
activate_rows k service g = service_row service ∷ group_row k.groups g ∷ []

unfoldable pub activate_call : Lent → Desk → ℕ → ℕ → Left Desk
activate_call k d service g =
    asked k false d (activate_rows k service g) (becoming k d service false (activated k.groups k.tracks g (player_of d service)))

-- 219
abbrev pub service_rows : ℕ → List Row
service_rows service = service_row service ∷ []

unfoldable pub deactivate_call : Lent → Desk → ℕ → Left Desk
deactivate_call k d service = asked k false d (service_rows service) (becoming k d service false (deactivated (player_of d service)))

-- SCOPE 18.3: "an advance in Playing that stays below D"
unfoldable pub quiet_advance : List ℕ → ℕ → Player → Bool
quiet_advance tracks step p =
    eqb p.mode.media playing && stays_below tracks step p

unfoldable pub advance_call : Lent → Desk → ℕ → ℕ → Left Desk
advance_call k d service step =
    asked k false d (service_rows service)
    (becoming k d service (quiet_advance k.tracks step (player_of d service)) (advanced k.groups k.tracks step (player_of d service)))
