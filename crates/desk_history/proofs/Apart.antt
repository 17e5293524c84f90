-- The services are apart (SCOPE 17.4 and 21.10): a call to one leaves the others, the links and the turn as they were; and what it answers and what it does to
-- its own service depend on nothing of the others. Refused calls too, where the state stands. Assumes nothing.
use mathlib.Core.Path.{◌≡◌, refl, sym, ap, ◌∙◌}
use mathlib.Core.Bool.{Bool, true, false}
use mathlib.Core.List.{List, [], ◌∷◌, ◌++◌}
use Prim.Native.Nat.{ℕ, ◌<◌, ◌-◌}
use lib.Dec.{leb, ltb}
use lib.ListN.{length}
use lib.Seq.{get_or-set_same, get_or-set_other, set-get_or}
use Rattle.ground.specs.Lists.{part_from}
use Rattle.ground.specs.Cases.{pick, has}
use Rattle.ground.specs.Limits.{least_output}
use Rattle.ground.specs.Refusals.{Said, granted, Left, leaves, keeping, Row, answered}
use Rattle.catalogue_titles.specs.Lent.{Lent}
use Rattle.player_state.specs.Player.{renamed, deactivated}
use Rattle.player_moves.specs.Clock.{advanced, activated}
use Rattle.player_values.specs.Values.{source_of, value_of}
use Rattle.desk_slots.specs.Slots.{service_count, client_count, slot_of, service_of}
use Rattle.desk_client.specs.declared.Link.{Link}
use Rattle.desk_client.specs.declared.Account.{Account}
use Rattle.desk_client.specs.declared.Client.{Client}
use Rattle.desk_client.specs.Client.{account_with, no_account, blank_client, start_link, connected_link}
use Rattle.desk_client.specs.Duties.{joined, dropped, passed_on}
use Rattle.desk_state.specs.declared.Service.{Service}
use Rattle.desk_state.specs.declared.Desk.{Desk}
use Rattle.desk_state.specs.Desk.{no_service, service_at, account_in, client_at, with_account, with_service, with_client}
use Rattle.desk_state.proofs.Laws.{listed, own_account}
use Rattle.desk_notices.specs.Owed.{settled, no_writer}
use Rattle.desk_replies.specs.Replies.{state_row, state_right, lent_rows, fronted, asked}
use Rattle.desk_links.specs.Links.{slot_rows, connect_rows, disconnect_rows, connect_call, disconnect_call, slot_call}
use Rattle.desk_console.specs.Console.{name_rows, activate_rows, service_rows, quiet_advance, name_call, activate_call, deactivate_call, advance_call}
use Rattle.desk_exchange.specs.Read.{read_rows, after_read, read_octets, read_call}
use Rattle.desk_exchange.specs.Write.{allowed, write_rows, written, write_call}
use Rattle.desk_take.specs.Serving.{next_place, handed_values, after_serving}
use Rattle.desk_take.specs.Take.{next_client, players_of, with_served, taken_by, take_call}
use Rattle.desk_history.specs.Calls.{Call, take, left}
use Rattle.desk_history.specs.Apart.{To, naming, activating, deactivating, advancing, subscribing, unsubscribing, reading, writing, Both, connecting, disconnecting, unmarked, SameFor}

-- a chain of rows leaves what it found or what the work leaves
either_left : (P : Desk → Type 0) (rows : List Row) (d : Desk) (work : Left Desk) → P d → P work.state → P (answered (keeping d) rows work).state
either_left P [] d work p q = q
either_left P (r ∷ rows) d work p q = at r.applies (either_left P rows d work p q)
  where
    at : (t : Bool) → P (answered (keeping d) rows work).state
        → P (pick t (keeping d (record { is_granted = false; number = r.number; values = r.values })) (answered (keeping d) rows work)).state
    at true ih = p
    at false ih = ih

-- over the same rows, two desks are answered alike, and what f sees of them stays alike
module _ {A : Type 0} (f : Desk → A) (d e d' e' : Desk) (said : Said) (found : f d ≡ f e) (done : f d' ≡ f e') where
  alike : (rows : List Row) → ((answered (keeping d) rows (leaves said d')).said ≡ (answered (keeping e) rows (leaves said e')).said)
      × (f (answered (keeping d) rows (leaves said d')).state ≡ f (answered (keeping e) rows (leaves said e')).state)
  alike [] = (refl, done)
  alike (r ∷ rows) = at r.applies (alike rows)
    where
      refusal : Said
      refusal = record { is_granted = false; number = r.number; values = r.values }

      at : (t : Bool)
          → ((answered (keeping d) rows (leaves said d')).said ≡ (answered (keeping e) rows (leaves said e')).said)
          × (f (answered (keeping d) rows (leaves said d')).state ≡ f (answered (keeping e) rows (leaves said e')).state)
          → ((pick t (keeping d refusal) (answered (keeping d) rows (leaves said d'))).said ≡ (pick t (keeping e refusal) (answered (keeping e) rows (leaves said e'))).said)
          × (f (pick t (keeping d refusal) (answered (keeping d) rows (leaves said d'))).state ≡ f (pick t (keeping e refusal) (answered (keeping e) rows (leaves said e'))).state)
      at true ih = (refl, found)
      at false ih = ih

-- a call to service v by its parts: what it asks, says and makes of the service, from the service and the links alone
record Shape (k : Lent) (v : ℕ) (call : Call) : Type 0 where
  small : Bool
  rows : Service → (ℕ → Link) → List Row
  values : Service → (ℕ → Link) → List ℕ
  next : Service → (ℕ → Link) → Service
  is : (d : Desk) → left k call d
      ≡ asked k small d (rows (service_at d v) (unmarked d)) (leaves (granted (values (service_at d v) (unmarked d))) (with_service v (next (service_at d v) (unmarked d)) d))

module _ (k : Lent) where
  shape : {v : ℕ} {call : Call} → To v call → Shape k v call
  unfolding name_call activate_call deactivate_call advance_call slot_call read_call read_octets write_call
  shape {v} (naming name) =
      record {
        small = false;
        rows = λ s l. name_rows v name;
        values = λ s l. [];
        next = λ s l. settled (source_of k) (no_writer false) (renamed name s.player) s;
        is = λ d. refl;
      }
  shape {v} (activating g) =
      record {
        small = false;
        rows = λ s l. activate_rows k v g;
        values = λ s l. [];
        next = λ s l. settled (source_of k) (no_writer false) (activated k.groups k.tracks g s.player) s;
        is = λ d. refl;
      }
  shape {v} deactivating =
      record {
        small = false;
        rows = λ s l. service_rows v;
        values = λ s l. [];
        next = λ s l. settled (source_of k) (no_writer false) (deactivated s.player) s;
        is = λ d. refl;
      }
  shape {v} (advancing step) =
      record {
        small = false;
        rows = λ s l. service_rows v;
        values = λ s l. [];
        next = λ s l. settled (source_of k) (no_writer (quiet_advance k.tracks step s.player)) (advanced k.groups k.tracks step s.player) s;
        is = λ d. refl;
      }
  shape {v} (subscribing who c) =
      record {
        small = false;
        rows = λ s l. slot_rows who v (l who).connected (l who).encrypted c;
        values = λ s l. [];
        next = λ s l. with_account who (joined (slot_of c) (account_in s who)) s;
        is = λ d. refl;
      }
  shape {v} (unsubscribing who c) =
      record {
        small = false;
        rows = λ s l. slot_rows who v (l who).connected (l who).encrypted c;
        values = λ s l. [];
        next = λ s l. with_account who (dropped (slot_of c) (account_in s who)) s;
        is = λ d. refl;
      }
  shape {v} (reading who c offset room) =
      record {
        small = ltb room least_output;
        rows = λ s l. read_rows who v (l who).connected (l who).encrypted (has (account_in s who).fresh c) c offset (length (value_of (source_of k) s.player c));
        values = λ s l. length (part_from offset ((l who).mtu - 1) (value_of (source_of k) s.player c)) ∷ [];
        next = λ s l. with_account who (after_read c offset (account_in s who)) s;
        is = λ d. refl;
      }
  shape {v} (writing who c value) =
      record {
        small = false;
        rows = λ s l. write_rows who v (l who).connected (l who).encrypted (allowed k.groups s.player c value) (account_in s who).waiting c value;
        values = λ s l. [];
        next = λ s l. written k s who c value;
        is = λ d. refl;
      }

  module _ {v : ℕ} {call : Call} (to : To v call) where
    abbrev form : Shape k v call
    form = shape to

    -- a call to one service leaves every other service's player and accounts, and so what is owed by it, as they were
    pub others_stay : (d : Desk) (w : ℕ) → (w ≡ v → ⊥) → service_at (left k call d).state w ≡ service_at d w
    unfolding with_service
    others_stay d w n =
        ap (λ (l : Left Desk). service_at l.state w) (form.is d)
        ∙ either_left (λ (e : Desk). service_at e w ≡ service_at d w) (fronted k form.small d ++ form.rows (service_at d v) (unmarked d)) d
        (leaves (granted (form.values (service_at d v) (unmarked d))) (with_service v (form.next (service_at d v) (unmarked d)) d)) refl
        (get_or-set_other d.services v w (form.next (service_at d v) (unmarked d)) no_service n)

    -- and the links, and whose turn it was
    pub links_stay : (d : Desk) → (left k call d).state.links ≡ d.links
    unfolding with_service
    links_stay d =
        ap (λ (l : Left Desk). l.state.links) (form.is d)
        ∙ either_left (λ (e : Desk). e.links ≡ d.links) (fronted k form.small d ++ form.rows (service_at d v) (unmarked d)) d
        (leaves (granted (form.values (service_at d v) (unmarked d))) (with_service v (form.next (service_at d v) (unmarked d)) d)) refl refl

    pub turn_stays : (d : Desk) → (left k call d).state.turn ≡ d.turn
    unfolding with_service
    turn_stays d =
        ap (λ (l : Left Desk). l.state.turn) (form.is d)
        ∙ either_left (λ (e : Desk). e.turn ≡ d.turn) (fronted k form.small d ++ form.rows (service_at d v) (unmarked d)) d
        (leaves (granted (form.values (service_at d v) (unmarked d))) (with_service v (form.next (service_at d v) (unmarked d)) d)) refl refl

    -- its reply and what it does to its own service depend on nothing of the others: over any two desks that agree on that service and the links and that
    -- both stand, whether the call is accepted or refused
    pub own_alone : (d e : Desk) → state_right k d ≡ true → state_right k e ≡ true → v < length d.services → v < length e.services → SameFor v d e
        → ((left k call d).said ≡ (left k call e).said) × (service_at (left k call d).state v ≡ service_at (left k call e).state v)
    unfolding with_service
    own_alone d e sd se ld le same =
        let s = service_at e v in
        let l = unmarked e in
        let new = form.next s l in
        let both = alike (λ (x : Desk). service_at x v) d e (with_service v new d) (with_service v new e) (granted (form.values s l)) same.service
        (get_or-set_same d.services v new no_service ld ∙ sym (get_or-set_same e.services v new no_service le))
        (fronted k form.small e ++ form.rows s l) in
        let toD : left k call d ≡ answered (keeping d) (fronted k form.small e ++ form.rows s l) (leaves (granted (form.values s l)) (with_service v new d)) =
        form.is d
        ∙ (λ i. answered (keeping d)
        ((lent_rows k form.small ++ (state_row ((sd ∙ sym se) i) ∷ [])) ++ form.rows (same.service i) (λ who. same.link who i))
        (leaves (granted (form.values (same.service i) (λ who. same.link who i))) (with_service v (form.next (same.service i) (λ who. same.link who i)) d))) in (
          ap (λ (x : Left Desk). x.said) toD ∙ both.0 ∙ sym (ap (λ (x : Left Desk). x.said) (form.is e)),
          ap (λ (x : Left Desk). service_at x.state v) toD ∙ both.1 ∙ sym (ap (λ (x : Left Desk). service_at x.state v) (form.is e)),
        )

  -- what a read hands out, too
  pub read_alone : (v who c offset : ℕ) (d e : Desk) → SameFor v d e → read_octets k d who v c offset ≡ read_octets k e who v c offset
  unfolding read_octets
  read_alone v who c offset d e same =
      λ i. part_from offset ((same.link who i).mtu - 1) (value_of (source_of k) (same.service i).player c)

  -- connect and disconnect act on every service: what they answer depends on the links alone, and what they make of a service on that service besides
  module _ (v : ℕ) (there : v < service_count) where
    -- a client's record becomes another: what that makes of the service
    relinked : (who : ℕ) (c : Client) (d : Desk) → service_at (with_client who c d) v ≡ with_account who (account_with c v) (service_at d v)
    unfolding with_client
    relinked who c d = listed (λ (w : ℕ). with_account who (account_with c w) (service_at d w)) service_count v no_service there

    alone : (rows : (ℕ → Link) → List Row) (who : ℕ) (c : Client) (d e : Desk) → state_right k d ≡ true → state_right k e ≡ true → SameFor v d e
        → ((asked k false d (rows (unmarked d)) (leaves (granted []) (with_client who c d))).said ≡ (asked k false e (rows (unmarked e)) (leaves (granted []) (with_client who c e))).said)
        × (service_at (asked k false d (rows (unmarked d)) (leaves (granted []) (with_client who c d))).state v
        ≡ service_at (asked k false e (rows (unmarked e)) (leaves (granted []) (with_client who c e))).state v)
    alone rows who c d e sd se same =
        let both = alike (λ (x : Desk). service_at x v) d e (with_client who c d) (with_client who c e) (granted []) same.service
        (relinked who c d ∙ ap (with_account who (account_with c v)) same.service ∙ sym (relinked who c e))
        (fronted k false e ++ rows (unmarked e)) in
        let toD : asked k false d (rows (unmarked d)) (leaves (granted []) (with_client who c d))
        ≡ answered (keeping d) (fronted k false e ++ rows (unmarked e)) (leaves (granted []) (with_client who c d)) =
        λ i. answered (keeping d) ((lent_rows k false ++ (state_row ((sd ∙ sym se) i) ∷ [])) ++ rows (λ w. same.link w i)) (leaves (granted []) (with_client who c d)) in
        (ap (λ (x : Left Desk). x.said) toD ∙ both.0, ap (λ (x : Left Desk). service_at x.state v) toD ∙ both.1)

    pub both_alone : {call : Call} → Both call → (d e : Desk) → state_right k d ≡ true → state_right k e ≡ true → SameFor v d e
        → ((left k call d).said ≡ (left k call e).said) × (service_at (left k call d).state v ≡ service_at (left k call e).state v)
    unfolding connect_call disconnect_call
    both_alone (connecting who mtu encrypted) d e =
        alone (λ (l : ℕ → Link). connect_rows who (l who).connected mtu) who (blank_client (connected_link mtu encrypted)) d e
    both_alone (disconnecting who) d e = alone (λ (l : ℕ → Link). disconnect_rows who (l who).connected) who (blank_client start_link) d e

    -- a take leaves every service as it was but the one of the place that it serves, which its answer names
    pub take_stays : (room : ℕ) (d : Desk) → (v ≡ service_of (next_place (client_at d (next_client d))) → ⊥) → service_at (left k (take room) d).state v ≡ service_at d v
    unfolding take_call passed_on with_account with_served
    take_stays room d n =
        either_left (λ (e : Desk). service_at e v ≡ service_at d v) (fronted k (ltb room least_output) d ++ []) d (taken_by k d (next_client d)) refl (at (leb client_count (next_client d)))
      where
        who : ℕ
        who = next_client d

        c : Client
        c = client_at d who

        kept : account_with (after_serving c) v ≡ account_in (service_at d v) who
        kept = get_or-set_other c.accounts (service_of (next_place c)) v _ no_account n ∙ own_account d who v there

        same : with_account who (account_in (service_at d v) who) (service_at d v) ≡ service_at d v
        same = λ i. record { player = (service_at d v).player; accounts = set-get_or (service_at d v).accounts who no_account i }

        at : (t : Bool) → service_at (pick t (leaves (granted []) d) (leaves (granted (who ∷ handed_values k (players_of d) c)) (with_served who (after_serving c) d))).state v ≡ service_at d v
        at true = refl
        at false = relinked who (after_serving c) d ∙ ap (λ (a : Account). with_account who a (service_at d v)) kept ∙ same
