-- A read, and a write: the desk that they leave stands and agrees with the ledger. Assumes nothing.
use mathlib.Core.Path.{◌≡◌, refl, sym, ap, ◌∙◌, subst}
use mathlib.Core.Bool.{Bool, true, false, not, ◌&&◌, ◌||◌}
use mathlib.Core.Logic.{◌↔◌, ⊎_elim}
use mathlib.Core.List.{List, [], ◌∷◌, ◌++◌}
use Prim.Native.Nat.{ℕ, ◌≤◌, ◌<◌}
use native.Mathlib.Omega.{arith}
use borrow.Author.Tests.{le-leb, leb-false, not-false}
use lib.Dec.{eqb, ltb, leb}
use lib.ListN.{length, length-take}
use Rattle.ground.specs.Cases.{pick, within, has}
use Rattle.ground.proofs.Cases.{clash, le_or, true_or}
use Rattle.catalogue_titles.specs.Lent.{Lent, catalogue_of, lent_rule}
use Rattle.catalogue_titles.proofs.Laws.{rules_kept, renames_kept}
use Rattle.catalogue_check.specs.Catalogue.{catalogue_row}
use Rattle.catalogue_check.proofs.Laws.{is_right}
use Rattle.player_state.specs.declared.Player.{Player}
use Rattle.player_moves.specs.Control.{controlled}
use Rattle.player_moves.proofs.Alone.{result_values}
use Rattle.player_moves.proofs.Ready.{shaped}
use Rattle.player_moves.proofs.Kept.{kept_controlled}
use Rattle.desk_slots.specs.Slots.{service_count, client_count}
use Rattle.desk_slots.specs.Characteristics.{readables, writables, is_in}
use Rattle.desk_slots.proofs.SetLaws.{in_below}
use Rattle.ground.specs.Limits.{least_output}
use Rattle.ground.specs.Refusals.{Said, refused, refused_with, Row, row, accepted, said_by}
use Rattle.ground.proofs.Rows.{NoneApplies, accepted_said, none_of, number_of_lem, zero_accepts}
use Rattle.desk_client.specs.declared.Link.{Link}
use Rattle.desk_client.specs.declared.Account.{Account}
use Rattle.desk_client.specs.Client.{most_results, account_fits}
use Rattle.desk_client.specs.Duties.{was_read, resulted}
use Rattle.desk_client.proofs.Rule.{Sound, Fit, few_results}
use Rattle.desk_client.proofs.Kept.{kept_read, kept_resulted}
use Rattle.desk_client.proofs.SlotBySlot.{resulted_subscribed}
use Rattle.desk_state.specs.declared.Service.{Service}
use Rattle.desk_state.specs.declared.Desk.{Desk}
use Rattle.desk_state.specs.Desk.{link_at, service_at, account_in}
use Rattle.desk_notices.specs.Owed.{by_writer}
use Rattle.desk_replies.specs.Replies.{fronted, connected_row, of_characteristic, link_of, account_of}
use Rattle.player_values.specs.Values.{source_of, value_of}
use Rattle.desk_exchange.proofs.Orders.{write_order}
use Rattle.desk_exchange.proofs.Written.{kept_written}
use Rattle.desk_exchange.specs.Read.{value_now, reader_rows, after_read, read_call}
use Rattle.desk_exchange.specs.Write.{first_octet, length_right, allowed, write_rows, writer_rows, number_of, becoming_by, outcome_of, control_written, player_written, written, write_call}
use Rattle.desk_history.specs.Ledger.{Claims, Book, Ledger, in_service, changing, becoming, reading, resulting, rows_of_read, may_read, may_write, outcome, result_of, control_writing, writing}
use Rattle.desk_history.specs.Stored.{LikeLink, LikeAccount}
use Rattle.desk_history.proofs.Likeness.{like_read, like_resulted}
use Rattle.desk_history.proofs.Steps.{Ok, OkService, fine, fits, fit, ok_becoming, ok_account, guard, ok_call, like_link, within as inside, ok_service, caller_rows}

-- behind 0x80 there is 0x07 and 0
other : (t : Bool) → (said_by (row 0x07 t ∷ [])).number < 0x80
other true = omega arith
other false = omega arith

-- of these rows 0x80 is the first that applies
pub first_80 : (a b c d e f g above inMind t : Bool)
    → ((said_by (row 205 a ∷ row 202 b ∷ row 219 c ∷ row 203 d ∷ row 0x01 e ∷ row 0x02 f ∷ row 0x0F g ∷ row 0x80 (above && not inMind) ∷ row 0x07 t ∷ [])).number ≡ 0x80)
    ↔ ((accepted (row 205 a ∷ row 202 b ∷ row 219 c ∷ row 203 d ∷ row 0x01 e ∷ row 0x02 f ∷ row 0x0F g ∷ []) ≡ true) × (above ≡ true) × (inMind ≡ false))
first_80 true b c d e f g above inMind t = ((λ n. absurd (let z : ⊥ = omega (arith, n) in z)), (λ p. clash p.0))
first_80 false true c d e f g above inMind t = ((λ n. absurd (let z : ⊥ = omega (arith, n) in z)), (λ p. clash p.0))
first_80 false false true d e f g above inMind t = ((λ n. absurd (let z : ⊥ = omega (arith, n) in z)), (λ p. clash p.0))
first_80 false false false true e f g above inMind t = ((λ n. absurd (let z : ⊥ = omega (arith, n) in z)), (λ p. clash p.0))
first_80 false false false false true f g above inMind t = ((λ n. absurd (let z : ⊥ = omega (arith, n) in z)), (λ p. clash p.0))
first_80 false false false false false true g above inMind t = ((λ n. absurd (let z : ⊥ = omega (arith, n) in z)), (λ p. clash p.0))
first_80 false false false false false false true above inMind t = ((λ n. absurd (let z : ⊥ = omega (arith, n) in z)), (λ p. clash p.0))
first_80 false false false false false false false true true t = ((λ n. absurd (let z : ⊥ = omega (arith, other t, n) in z)), (λ p. clash (sym p.2)))
first_80 false false false false false false false true false t = ((λ n. (refl, refl, refl)), (λ p. refl))
first_80 false false false false false false false false inMind t = ((λ n. absurd (let z : ⊥ = omega (arith, other t, n) in z)), (λ p. clash p.1))

-- as many results wait as the list says
pub as_many : (x : Claims) (l : Link) (a : Account) → LikeAccount x a → account_fits l a ≡ true → length x.waiting ≡ a.waiting
as_many x l a alike fit = ap length (sym alike.waiting) ∙ length-take a.waiting a.results ∙ omega (arith, alike.long, few_results l a fit)

-- ---- a control write to a service: the opcode is carried out, and then its result is noted
-- a result code is 1 to 4
code_within : (k : Lent) (opcode number : ℕ) (p : Player) → within 1 4 (controlled k.groups k.tracks k.segments opcode number p).result ≡ true
code_within k opcode number p =
    ⊎_elim (λ e. ap (within 1 4) e) (λ w. ⊎_elim (λ e. ap (within 1 4) e) (λ v. ⊎_elim (λ e. ap (within 1 4) e) (λ e. ap (within 1 4) e) v) w)
    (result_values p k.groups k.tracks k.segments opcode number)

module _ (k : Lent) (right : lent_rule k ≡ true) (links : List Link) (b : Book) (s : Service) (ok : OkService k links b s) (who : ℕ) (value : List ℕ) where
  control_step : who < client_count → (link_at links who).connected ≡ true → length (b.account who).waiting < most_results
      → OkService k links (control_writing k who value b) (control_written k s who value)
  unfolding control_written
  control_step h on room =
      ok_account k links b1 s1 ok1 who h on (resulted opcode (code s.player) own) (resulting (result_of k b value)) like2
      (kept_resulted own own_fit.account opcode (code s.player) like1.long room1 (code_within k opcode (number_of value) s.player))
      (ap (λ (n : ℕ). (link_at links who).encrypted || eqb n 0) (resulted_subscribed own opcode (code s.player)) ∙ own_fit.safe)
    where
      opcode : ℕ
      opcode = first_octet value

      moved : Player → Player
      moved p = (controlled k.groups k.tracks k.segments (first_octet value) (number_of value) p).player

      code : Player → ℕ
      code p = (controlled k.groups k.tracks k.segments (first_octet value) (number_of value) p).result

      b1 : Book
      b1 = becoming k (by_writer who 18) (outcome k b value).player b

      s1 : Service
      s1 = becoming_by k s who 18 (outcome_of k s.player value).player

      ok1 : OkService k links b1 s1
      ok1 =
          ok_becoming k links b s ok (λ p. by_writer who 18) moved
          (kept_controlled k.groups k.tracks k.segments (shaped (catalogue_of k) (is_right (catalogue_of k) (rules_kept k right))) s.player (fine k links b s ok) (first_octet value) (number_of value))

      own : Account
      own = account_in s1 who

      like1 : LikeAccount (b1.account who) own
      like1 = ok1.0.account who h

      room1 : own.waiting < most_results
      room1 = subst (λ (n : ℕ). n < most_results) (as_many (b1.account who) (link_at links who) own like1 (fits k links b1 s1 ok1 who h)) room

      own_fit : Fit (link_at links who) own
      own_fit = fit k links b1 s1 ok1 who h on

      like2 : LikeAccount (resulting (result_of k b value) (b1.account who)) (resulted opcode (code s.player) own)
      like2 =
          subst (λ (n : ℕ). LikeAccount (resulting (record { opcode = first_octet value; code = n }) (b1.account who)) (resulted opcode (code s.player) own))
          (ap code ok.0.player) (like_resulted (b1.account who) own like1 opcode (code s.player) room1)

  -- a write to a service, by what it is told of the characteristic
  written_step : (c : ℕ) → who < client_count → (link_at links who).connected ≡ true → is_in writables c ≡ true → allowed k.groups b.player c value ≡ true
      → (eqb c 18 ≡ true → length (b.account who).waiting < most_results) → OkService k links (writing k who c value b) (written k s who c value)
  unfolding written
  written_step c h on writable may room = go (eqb c 18) refl
    where
      go : (t : Bool) → eqb c 18 ≡ t
          → OkService k links (pick t (control_writing k who value b) (becoming k (by_writer who c) (player_written (catalogue_of k) b.player c value) b))
          (pick t (control_written k s who value) (becoming_by k s who c (player_written (catalogue_of k) s.player c value)))
      go true e = control_step h on (room e)
      go false e =
          ok_becoming k links b s ok (λ p. by_writer who c) (λ p. player_written (catalogue_of k) p c value)
          (kept_written (catalogue_of k) (is_right (catalogue_of k) (rules_kept k right)) s.player (fine k links b s ok) value c writable e
          (subst (λ (p : Player). allowed k.groups p c value ≡ true) (sym ok.0.player) may))

-- ---- what a write tells that the ledger's rows accept
module _ (k : Lent) (L : Ledger) (who v c : ℕ) (value : List ℕ) (may : may_write k L who v c value ≡ true) where
  abbrev waiting : ℕ
  waiting = length ((L.service v).account who).waiting

  passed : NoneApplies (write_rows who v (L.link who).on (L.link who).safe (allowed k.groups (L.service v).player c value) waiting c value)
  passed = none_of (write_rows who v (L.link who).on (L.link who).safe (allowed k.groups (L.service v).player c value) waiting c value) may

  w_there : who < client_count
  w_there = leb-false client_count who passed.0

  w_service : v < service_count
  w_service = leb-false service_count v passed.1.0

  w_on : (L.link who).on ≡ true
  w_on = not-false _ passed.1.1.0

  pub w_in : is_in writables c ≡ true
  w_in = not-false _ passed.1.1.1.1.0

  pub w_long : length_right c value ≡ true
  w_long = not-false _ passed.1.1.1.1.1.1.0

  pub w_allowed : allowed k.groups (L.service v).player c value ≡ true
  w_allowed = not-false _ passed.1.1.1.1.1.1.1.0

  -- a control write finds room for its result
  w_room : eqb c 18 ≡ true → waiting < most_results
  w_room e = leb-false most_results waiting (sym (λ i. e i && leb most_results waiting) ∙ passed.1.1.1.1.1.1.1.1.0)

module _ (k : Lent) (right : lent_rule k ≡ true) (L : Ledger) (d : Desk) (ok : Ok k L d) where
  -- ---- a read: what its rows say is what they say of what the ledger knows
  read_said_lem : (who v c offset room : ℕ)
      → said_by (row 205 (ltb room least_output) ∷ reader_rows d who v c offset (length (value_now k d v c))) ≡ said_by (rows_of_read k L who v c offset room)
  read_said_lem who v c offset room = ⊎_elim over (λ h. ⊎_elim beyond (there h) (le_or service_count v)) (le_or client_count who)
    where
      rows : Bool → Bool → Bool → Bool → Bool → ℕ → Bool → List Row
      rows who-over v-over on safe inMind size allowed =
          row 205 (ltb room least_output) ∷ row 202 who-over ∷ row 219 v-over ∷ connected_row on
          ∷ (of_characteristic safe c 0x02 allowed ++ (row 0x80 (ltb 0 offset && not inMind) ∷ row 0x07 (ltb size offset) ∷ []))

      desk : Bool → Bool → Bool → Said
      desk who-over v-over allowed =
          said_by (rows who-over v-over (link_of d who).connected (link_of d who).encrypted (has (account_of d who v).fresh c) (length (value_now k d v c)) allowed)

      ledger : Bool → Bool → Bool → Said
      ledger who-over v-over allowed =
          said_by (rows who-over v-over (L.link who).on (L.link who).safe (((L.service v).account who).mind c) (length (value_of (source_of k) (L.service v).player c)) allowed)

      Same : Type 0
      Same = desk (leb client_count who) (leb service_count v) (is_in readables c) ≡ ledger (leb client_count who) (leb service_count v) (is_in readables c)

      -- 202 of both
      over : client_count ≤ who → Same
      over h =
          (λ i. desk (le-leb client_count who h i) (leb service_count v) (is_in readables c)) ∙ sym (λ i. ledger (le-leb client_count who h i) (leb service_count v) (is_in readables c))

      -- 219 of both
      beyond : service_count ≤ v → Same
      beyond h =
          (λ i. desk (leb client_count who) (le-leb service_count v h i) (is_in readables c)) ∙ sym (λ i. ledger (leb client_count who) (le-leb service_count v h i) (is_in readables c))

      there : who < client_count → v < service_count → Same
      there h t = ⊎_elim known unread (true_or (is_in readables c))
        where
          l : LikeLink (L.link who) (link_of d who)
          l = like_link k right L d ok who h

          size : length (value_now k d v c) ≡ length (value_of (source_of k) (L.service v).player c)
          size = ap (λ (p : Player). length (value_of (source_of k) p c)) (ok.0.service v t).player

          known : is_in readables c ≡ true → Same
          known e =
              λ i. said_by (rows (leb client_count who) (leb service_count v) (l.on i) (l.safe i) (((ok.0.service v t).account who h).mind c (in_below 32 readables refl c e) i) (size i) (is_in readables c))

          -- 0x02 before 0x80
          unread : is_in readables c ≡ false → Same
          unread e =
              (λ i. desk (leb client_count who) (leb service_count v) (e i))
              ∙ (λ i. said_by (rows (leb client_count who) (leb service_count v) (l.on i) (l.safe i) (has (account_of d who v).fresh c) (size i) false))
              ∙ sym (λ i. ledger (leb client_count who) (leb service_count v) (e i))

  pub read_step : (who v c offset room : ℕ)
      → Ok k (pick (may_read k L who v c offset room) (in_service v (changing who (reading c offset)) L) L) (read_call k d who v c offset room).state
  unfolding read_call was_read
  read_step who v c offset room =
      ok_call k right L d ok (ltb room least_output) (may_read k L who v c offset room) (reader_rows d who v c offset (length (value_now k d v c))) _
      (in_service v (changing who (reading c offset)) L)
      (sym (accepted_said (row 205 (ltb room least_output) ∷ reader_rows d who v c offset (length (value_now k d v c)))) ∙ ap (λ (s : Said). s.is_granted) (read_said_lem who v c offset room)
      ∙ accepted_said (rows_of_read k L who v c offset room))
      (λ e.
      let n = none_of (rows_of_read k L who v c offset room) e in
      let h = leb-false client_count who n.1.0 in
      let t = leb-false service_count v n.1.1.0 in
      let on = (like_link k right L d ok who h).on ∙ not-false _ n.1.1.1.0 in
      let own = account_of d who v in
      let f = fit k d.links (L.service v) (service_at d v) (inside k right L d ok v t) who h on in
      ok_service k right L d ok v t (changing who (reading c offset)) _
      (ok_account k d.links (L.service v) (service_at d v) (inside k right L d ok v t) who h on (after_read c offset own) (reading c offset)
      (like_read ((L.service v).account who) own ((ok.0.service v t).account who h) c offset)
      (sound (eqb offset 0) own f.account (not-false _ n.1.1.1.1.1.0))
      (ap (λ (s : ℕ). (link_of d who).encrypted || eqb s 0) (same (eqb offset 0) own) ∙ f.safe)))
    where
      sound : (t : Bool) (a : Account) → Sound a → is_in readables c ≡ true → Sound (pick t (was_read c a) a)
      sound true a s may = kept_read a s c may
      sound false a s may = s

      same : (t : Bool) (a : Account) → (pick t (was_read c a) a).subscribed ≡ a.subscribed
      same true a = refl
      same false a = refl

  -- the number that a read answers with, by the calls alone
  pub read_number : (who v c offset room : ℕ) → (read_call k d who v c offset room).said.number ≡ (said_by (rows_of_read k L who v c offset room)).number
  unfolding read_call
  read_number who v c offset room =
      number_of_lem d (fronted k (ltb room least_output) d ++ rows) _ refl
      ∙ ap (λ (s : Said). s.number) ((λ i. fronting (not (rules_kept k right i)) (not (renames_kept k right i)) (not (ok.1 i))) ∙ read_said_lem who v c offset room)
    where
      rows : List Row
      rows = reader_rows d who v c offset (length (value_now k d v c))

      -- behind 200, 224 and 201
      fronting : Bool → Bool → Bool → Said
      fronting wrong misnamed fallen =
          pick wrong (refused_with (catalogue_row (catalogue_of k)).number (catalogue_row (catalogue_of k)).values) (pick misnamed (refused 224) (pick (ltb room least_output) (refused 205) (pick fallen (refused 201) (said_by rows))))

  -- ---- a write: accepted exactly where the ledger's rows accept
  write_rows_lem : (who v c : ℕ) (value : List ℕ) → accepted (writer_rows k d who v c value) ≡ may_write k L who v c value
  write_rows_lem who v c value =
      caller_rows k right L d ok who v
      (rest (link_of d who).connected (link_of d who).encrypted (service_at d v).player (account_of d who v).waiting)
      (rest (L.link who).on (L.link who).safe (L.service v).player (length ((L.service v).account who).waiting))
      (λ h t.
      let l = like_link k right L d ok who h in
      let many = as_many ((L.service v).account who) (link_of d who) (account_of d who v) ((ok.0.service v t).account who h) (fits k d.links (L.service v) (service_at d v) (inside k right L d ok v t) who h) in
      λ i. accepted (rest (l.on i) (l.safe i) ((ok.0.service v t).player i) (sym many i)))
    where
      rest : Bool → Bool → Player → ℕ → List Row
      rest on safe p waiting =
          connected_row on
          ∷ (of_characteristic safe c 0x03 (is_in writables c)
          ++ (row 0x0D (not (length_right c value)) ∷ row 0x13 (not (allowed k.groups p c value)) ∷ row 0x11 (eqb c 18 && leb most_results waiting) ∷ []))

  -- and it answers 0 exactly there
  pub write_number : (who v c : ℕ) (value : List ℕ) → eqb (write_call k d who v c value).said.number 0 ≡ may_write k L who v c value
  unfolding write_call
  write_number who v c value =
      ap (λ (n : ℕ). eqb n 0) (number_of_lem d (fronted k false d ++ writer_rows k d who v c value) _ refl)
      ∙ zero_accepts (fronted k false d ++ writer_rows k d who v c value)
      (write_order k d who v c (link_of d who).connected (link_of d who).encrypted (allowed k.groups (service_at d v).player c value) (account_of d who v).waiting value)
      ∙ guard k right L d ok false (writer_rows k d who v c value) ∙ write_rows_lem who v c value

  pub write_step : (who v c : ℕ) (value : List ℕ) → Ok k (pick (may_write k L who v c value) (in_service v (writing k who c value) L) L) (write_call k d who v c value).state
  unfolding write_call
  write_step who v c value =
      ok_call k right L d ok false (may_write k L who v c value) (writer_rows k d who v c value) _ (in_service v (writing k who c value) L) (write_rows_lem who v c value)
      (λ e.
      let t = w_service k L who v c value e in
      let h = w_there k L who v c value e in
      ok_service k right L d ok v t (writing k who c value) _
      (written_step k right d.links (L.service v) (service_at d v) (inside k right L d ok v t) who value c
      h ((like_link k right L d ok who h).on ∙ w_on k L who v c value e) (w_in k L who v c value e) (w_allowed k L who v c value e) (w_room k L who v c value e)))
