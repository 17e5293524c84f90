-- What the desk stores, beside what the ledger says: words of bits beside questions, the queue beside the list.
-- Assumes nothing.
use Rattle.std.specs.Prelude.{◌≡◌, ℕ, ◌<◌, length}
use Rattle.ground.specs.Cases.{has}
use Rattle.desk_slots.specs.Slots.{slot_count, service_count, client_count}
use Rattle.desk_client.specs.declared.Link.{Link}
use Rattle.desk_client.specs.declared.Account.{Account}
use Rattle.desk_client.specs.Client.{control_slot, most_results}
use Rattle.desk_client.specs.Queue.{queue_of}
use Rattle.desk_state.specs.declared.Service.{Service}
use Rattle.desk_state.specs.declared.Desk.{Desk}
use Rattle.desk_state.specs.Desk.{link_at, service_at, account_in}
use Rattle.desk_history.specs.Ledger.{Line, Claims, Book, Ledger}

-- a client's link, and its account with a service
pub record LikeLink (x : Line) (l : Link) : Type 0 where
  pub on : l.connected ≡ x.on
  pub safe : l.encrypted ≡ x.safe
  pub mtu : l.mtu ≡ x.mtu
  pub last : l.mark ≡ x.last

pub record LikeAccount (x : Claims) (a : Account) : Type 0 where
  pub wants : (s : ℕ) → s < slot_count → has a.subscribed s ≡ x.wants s
  pub due : (s : ℕ) → s < slot_count → (s ≡ control_slot → ⊥) → has a.owed s ≡ x.due s
  pub waiting : queue_of a ≡ x.waiting
  pub mind : (c : ℕ) → c < 32 → has a.fresh c ≡ x.mind c
  pub long : length a.results ≡ most_results

-- a service: its player, and each client's account
pub record LikeService (b : Book) (s : Service) : Type 0 where
  pub player : s.player ≡ b.player
  pub long : length s.accounts ≡ client_count
  pub account : (c : ℕ) → c < client_count → LikeAccount (b.account c) (account_in s c)

-- the whole: the turn, each client's link, and each service
pub record Agrees (L : Ledger) (d : Desk) : Type 0 where
  pub turn : d.turn ≡ L.turn
  pub links : length d.links ≡ client_count
  pub link : (c : ℕ) → c < client_count → LikeLink (L.link c) (link_at d.links c)
  pub services : length d.services ≡ service_count
  pub service : (v : ℕ) → v < service_count → LikeService (L.service v) (service_at d v)
