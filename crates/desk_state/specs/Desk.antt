-- The state of the whole, its services and its clients' links (SCOPE 17.1 to 17.3), and what 201 asks of it (SCOPE 20.5).
-- Assumes nothing.
use Rattle.std.specs.Prelude.{Bool, false, ◌&&◌, List, [], ◌∷◌, map, ℕ, ◌-◌, ltb, get_or, set, replicate}
use Rattle.ground.specs.Lists.{all_below, span}
use Rattle.player_state.specs.declared.Player.{Player}
use Rattle.player_check.specs.Standing.{player_rule}
use Rattle.desk_slots.specs.Slots.{service_count, client_count}
use Rattle.desk_client.specs.declared.Link.{Link}
use Rattle.desk_client.specs.declared.Account.{Account}
use Rattle.desk_client.specs.declared.Client.{Client}
use Rattle.desk_client.specs.Client.{link_rule, account_fits, no_account, account_with, blank_account, start_link}
use Rattle.desk_state.specs.declared.Service.{Service}
use Rattle.desk_state.specs.declared.Desk.{Desk}

-- what stands behind the end of the links, and of the services
abbrev pub no_link : Link
no_link = record { connected = false; encrypted = false; mtu = 0; mark = 0 }

abbrev pub no_player : Player
no_player =
    record {
      name = record { octets = []; len = 0 };
      offer = record { mask = 0; ccid = 0 };
      mode = record { media = 0; order = 0; speed = 0; seeking = 0 };
      place = record { group = record { 0 = 0 }; track = record { 0 = 0 }; position = record { 0 = 0 }; rest = 0 };
      upcoming = 0;
    }

abbrev pub no_service : Service
no_service = record { player = no_player; accounts = [] }

-- a client's link, a service, and a client's account with a service
abbrev pub link_at : List Link → ℕ → Link
link_at links who = get_or links who no_link

abbrev pub service_at : Desk → ℕ → Service
service_at d service = get_or d.services service no_service

abbrev pub account_in : Service → ℕ → Account
account_in s who = get_or s.accounts who no_account

-- a client's own record: its link, and its account with each service
unfoldable pub client_at : Desk → ℕ → Client
client_at d who = record { link = link_at d.links who; accounts = map (λ v. account_in (service_at d v) who) (span 0 service_count) }

-- SCOPE 20.5: of a service, its player and the accounts of its clients; of the links; and that the client that was served last is one of the four
unfoldable pub accounts_fit : List Link → List Account → Bool
accounts_fit links accounts = all_below client_count (λ who. account_fits (link_at links who) (get_or accounts who no_account))

unfoldable pub service_rule : List ℕ → List ℕ → List Link → Service → Bool
service_rule groups tracks links s = player_rule groups tracks s.player && accounts_fit links s.accounts

unfoldable pub services_rule : List ℕ → List ℕ → List Link → List Service → Bool
services_rule groups tracks links services = all_below service_count (λ v. service_rule groups tracks links (get_or services v no_service))

unfoldable pub links_rule : List Link → Bool
links_rule links = all_below client_count (λ who. link_rule (link_at links who))

unfoldable pub desk_rule : List ℕ → List ℕ → Desk → Bool
desk_rule groups tracks d = services_rule groups tracks d.links d.services && links_rule d.links && ltb d.turn client_count

-- SCOPE 17.6: "no client is connected, and the round of the clients begins at client 0"; the turn is the client that was served last
abbrev pub started_service : Player → Service
started_service p = record { player = p; accounts = replicate client_count blank_account }

unfoldable pub started_desk : Player → Player → Desk
started_desk generic named =
    record {
      services = started_service generic ∷ started_service named ∷ [];
      links = replicate client_count start_link;
      turn = client_count - 1;
    }

-- of a service, one client's account is another
unfoldable pub with_account : ℕ → Account → Service → Service
with_account who a s = record { player = s.player; accounts = set s.accounts who a }

-- one service is another; one client's own record is
unfoldable pub with_service : ℕ → Service → Desk → Desk
with_service service s d = record { services = set d.services service s; links = d.links; turn = d.turn }

unfoldable pub with_client : ℕ → Client → Desk → Desk
with_client who c d =
    record {
      services = map (λ v. with_account who (account_with c v) (service_at d v)) (span 0 service_count);
      links = set d.links who c.link;
      turn = d.turn;
    }
