-- The octets after a history of the library's calls mean the desk of the history, and what C hears is what the desk hands out. Assumes nothing.
use mathlib.Core.Path.{◌≡◌, refl, sym, ◌∙◌}
use mathlib.Core.Bool.{Bool, true, false, not}
use mathlib.Core.Option.{Option}
use mathlib.Core.List.{List, [], ◌∷◌, ◌++◌}
use Prim.Native.Nat.{ℕ}
use native.Mathlib.Omega.{arith}
use borrow.Author.Tests.{not-false}
use lib.Dec.{ltb, leb}
use lib.ListN.{length}
use Rattle.ground.specs.Limits.{least_output}
use Rattle.ground.specs.Cases.{pick}
use Rattle.ground.specs.Refusals.{granted, refused_with, Row, row, row_with, Left, leaves, keeping, answered}
use Rattle.ground.proofs.Cases.{here, and_both}
use Rattle.catalogue_titles.specs.Titles.{renames_rule}
use Rattle.catalogue_titles.specs.Lent.{Lent, catalogue_of, lent_rule}
use Rattle.catalogue_titles.proofs.Laws.{rules_kept, renames_kept}
use Rattle.catalogue_check.specs.Catalogue.{catalogue_rule, catalogue_carries}
use Rattle.player_check.specs.Standing.{text_rule, name_carries}
use Rattle.player_state.specs.Player.{renamed, deactivated}
use Rattle.player_moves.specs.Clock.{advanced, activated}
use Rattle.desk_state.specs.declared.Desk.{Desk}
use Rattle.desk_state.specs.Desk.{service_at, client_at, started_desk, with_account, with_service}
use Rattle.desk_slots.specs.Slots.{client_count, slot_of}
use Rattle.desk_client.specs.Client.{blank_client, start_link, connected_link}
use Rattle.desk_client.specs.Duties.{joined, dropped}
use Rattle.desk_replies.specs.Replies.{fronted, asked, link_of, account_of}
use Rattle.desk_console.specs.Console.{Beginning, freshly, nameless, start_call, player_of, becoming, name_rows, name_call, activate_rows, activate_call, service_rows, deactivate_call, quiet_advance, advance_call}
use Rattle.desk_links.specs.Links.{changing, connect_rows, connect_call, disconnect_rows, disconnect_call, slot_rows, slot_call}
use Rattle.desk_exchange.specs.Read.{value_now, reader_rows, read_octets, after_read, read_call}
use Rattle.desk_exchange.specs.Write.{writer_rows, written, write_call}
use Rattle.desk_take.specs.Serving.{handed_values, after_serving}
use Rattle.desk_take.specs.Take.{next_client, players_of, with_served, taken_by, take_call}
use Rattle.desk_history.specs.Calls.{Call, set_name, activate, deactivate, advance, connect, disconnect, subscribe, unsubscribe, read, write, take, left}
use Rattle.desk_history.specs.Rounds.{Handout}
use Rattle.desk_history.specs.History.{desk_at}
use Rattle.mcs_state.specs.Codec.{desk_of}
use Rattle.mcs_history.specs.Library.{Made, other, taken, Run, started, then}

-- where a call is refused the state is the one before
refused_keeps : (d : Desk) (rows : List Row) (work : Left Desk) → work.said.is_granted ≡ true
    → pick (answered (keeping d) rows work).said.is_granted (answered (keeping d) rows work).state d ≡ (answered (keeping d) rows work).state
refused_keeps d [] work g = sym (here d g refl)
refused_keeps d (r ∷ rows) work g = at r.applies (refused_keeps d rows work g)
  where
    one : Bool → Left Desk
    one t = pick t (keeping d (refused_with r.number r.values)) (answered (keeping d) rows work)

    at : (t : Bool) → pick (one false).said.is_granted (one false).state d ≡ (one false).state → pick (one t).said.is_granted (one t).state d ≡ (one t).state
    at true ih = refl
    at false ih = ih

either_granted : (t : Bool) (x y : Left Desk) → x.said.is_granted ≡ true → y.said.is_granted ≡ true → (pick t x y).said.is_granted ≡ true
either_granted true x y e f = e
either_granted false x y e f = f

-- the state that a call of these rows leaves
module _ (k : Lent) (small : Bool) (d : Desk) (rows : List Row) where
  asked_keeps : (work : Left Desk) → work.said.is_granted ≡ true
      → pick (asked k small d rows work).said.is_granted (asked k small d rows work).state d ≡ (asked k small d rows work).state
  asked_keeps work g = refused_keeps d (fronted k small d ++ rows) work g

keeps : (k : Lent) (call : Call) (d : Desk) → pick (left k call d).said.is_granted (left k call d).state d ≡ (left k call d).state
unfolding name_call activate_call deactivate_call advance_call connect_call disconnect_call slot_call read_call write_call take_call
keeps k (set_name v name) d = asked_keeps k false d (name_rows v name) (becoming k d v false (renamed name (player_of d v))) refl
keeps k (activate v g) d = asked_keeps k false d (activate_rows k v g) (becoming k d v false (activated k.groups k.tracks g (player_of d v))) refl
keeps k (deactivate v) d = asked_keeps k false d (service_rows v) (becoming k d v false (deactivated (player_of d v))) refl
keeps k (advance v step) d =
    asked_keeps k false d (service_rows v) (becoming k d v (quiet_advance k.tracks step (player_of d v)) (advanced k.groups k.tracks step (player_of d v))) refl
keeps k (connect who mtu encrypted) d =
    asked_keeps k false d (connect_rows who (link_of d who).connected mtu) (changing d who (blank_client (connected_link mtu encrypted))) refl
keeps k (disconnect who) d = asked_keeps k false d (disconnect_rows who (link_of d who).connected) (changing d who (blank_client start_link)) refl
keeps k (subscribe who v c) d =
    asked_keeps k false d (slot_rows who v (link_of d who).connected (link_of d who).encrypted c)
    (leaves (granted []) (with_service v (with_account who (joined (slot_of c) (account_of d who v)) (service_at d v)) d)) refl
keeps k (unsubscribe who v c) d =
    asked_keeps k false d (slot_rows who v (link_of d who).connected (link_of d who).encrypted c)
    (leaves (granted []) (with_service v (with_account who (dropped (slot_of c) (account_of d who v)) (service_at d v)) d)) refl
keeps k (read who v c offset room) d =
    asked_keeps k (ltb room least_output) d (reader_rows d who v c offset (length (value_now k d v c)))
    (leaves (granted (length (read_octets k d who v c offset) ∷ [])) (with_service v (with_account who (after_read c offset (account_of d who v)) (service_at d v)) d)) refl
keeps k (write who v c value) d =
    asked_keeps k false d (writer_rows k d who v c value) (leaves (granted []) (with_service v (written k (service_at d v) who c value) d)) refl
keeps k (take room) d =
    asked_keeps k (ltb room least_output) d [] (taken_by k d (next_client d))
    (either_granted (leb client_count (next_client d)) (leaves (granted []) d)
    (leaves (granted (next_client d ∷ handed_values k (players_of d) (client_at d (next_client d)))) (with_served (next_client d) (after_serving (client_at d (next_client d))) d)) refl refl)

-- start is accepted where it answers 0
accepted_start : (v w z : List ℕ) (a r b c : Bool) (x y : Desk)
    → (answered (keeping x) (row_with 200 v a ∷ row 224 r ∷ row 205 false ∷ row_with 207 w b ∷ row_with 207 z c ∷ []) (leaves (granted []) y)).said.number ≡ 0 → (a ≡ false) × (r ≡ false) × (b ≡ false) × (c ≡ false)
accepted_start v w z true r b c x y e = absurd (let q : ⊥ = omega (arith, e) in q)
accepted_start v w z false true b c x y e = absurd (let q : ⊥ = omega (arith, e) in q)
accepted_start v w z false false true c x y e = absurd (let q : ⊥ = omega (arith, e) in q)
accepted_start v w z false false false true x y e = absurd (let q : ⊥ = omega (arith, e) in q)
accepted_start v w z false false false false x y e = (refl, refl, refl, refl)

module _ (k : Lent) (generic named : Beginning) where
  -- every name, the catalogue and the titles are right
  abbrev AllRight : Type 0
  AllRight = (lent_rule k ≡ true) × (text_rule generic.name ≡ true) × (text_rule named.name ≡ true)

  start_right : (start_call k generic named).said.number ≡ 0 → AllRight
  unfolding start_call lent_rule
  start_right e =
      let p = accepted_start (catalogue_carries (catalogue_of k)) (name_carries generic.name) (name_carries named.name) (not (catalogue_rule (catalogue_of k))) (not (renames_rule k.tracks k.renames k.office)) (not (text_rule generic.name)) (not (text_rule named.name)) (started_desk (freshly (nameless generic)) (freshly (nameless named))) (started_desk (freshly generic) (freshly named)) e in
      (and_both (not-false (catalogue_rule (catalogue_of k)) p.0) (not-false (renames_rule k.tracks k.renames k.office) p.1), not-false _ p.2, not-false _ p.3)

  start_granted : AllRight → (start_call k generic named).said.is_granted ≡ true
  unfolding start_call
  start_granted p =
      λ i. (answered (keeping (started_desk (freshly (nameless generic)) (freshly (nameless named))))
      (row_with 200 (catalogue_carries (catalogue_of k)) (not (rules_kept k p.0 i)) ∷ row 224 (not (renames_kept k p.0 i)) ∷ row 205 false ∷ row_with 207 (name_carries generic.name) (not (p.1 i)) ∷ row_with 207 (name_carries named.name) (not (p.2 i)) ∷ [])
      (leaves (granted []) (started_desk (freshly generic) (freshly named)))).said.is_granted

  -- every history began with a catalogue, titles and names that are right
  pub began_right : {h : List Call} {state : List ℕ} → Run k generic named h state → AllRight
  began_right (started l) = start_right (sym l.told)
  began_right (then run m) = began_right run

  -- what a call leaves means what the desk's definition leaves
  pub made_means : {call : Call} {state state' : List ℕ} {o : Option Handout} → Made k call state state' o → desk_of state' ≡ (left k call (desk_of state)).state
  made_means (other {state} call t l) = l.state ∙ keeps k call (desk_of state)
  made_means (taken {state} {out = out} t) = t.leaves.state ∙ keeps k (take (length out)) (desk_of state)

  -- the octets mean the desk of the history
  pub means : {h : List Call} {state : List ℕ} → Run k generic named h state → desk_of state ≡ desk_at k generic named h
  means (started l) = l.state ∙ sym (here _ (start_granted (start_right (sym l.told))) refl)
  means (then {call = call} run m) = made_means m ∙ (λ i. (left k call (means run i)).state)
