-- What a call does to the results that wait for a client at a service: it adds the result of the client's own write behind them, hands out the oldest, drops
-- them, or leaves them. Assumes nothing.
use mathlib.Core.Path.{◌≡◌, refl, sym, ap, ◌∙◌, subst}
use mathlib.Core.Bool.{Bool, true, false, not, ◌&&◌, true≢false}
use mathlib.Core.Option.{none, some}
use mathlib.Core.List.{List, [], ◌∷◌, ◌++◌, append-nil}
use Prim.Native.Nat.{ℕ, ◌+◌, ◌-◌, ◌*◌, ◌≤◌}
use native.Mathlib.Decide.{ℕ_discrete}
use native.Mathlib.Omega.{arith}
use borrow.Author.Tests.{eq-eqb, ne_eqb, leb-false}
use lib.Dec.{eqb, leb}
use lib.ListN.{take as firsts}
use lib.Seq.{take_all}
use Rattle.ground.specs.Cases.{pick}
use Rattle.ground.specs.Refusals.{accepted}
use Rattle.ground.proofs.Cases.{here, clash, and_fails}
use Rattle.catalogue_titles.specs.Lent.{Lent, catalogue_of}
use Rattle.player_state.specs.declared.Player.{Player}
use Rattle.player_state.specs.Player.{renamed, deactivated}
use Rattle.player_moves.specs.Clock.{advanced, activated}
use Rattle.desk_slots.specs.Slots.{slot_count, client_count, slot_of, characteristic_of, place_of, service_of, slot_at}
use Rattle.desk_slots.proofs.PlaceLaws.{service_of_place, place_again}
use Rattle.player_values.specs.Values.{source_of, value_of}
use Rattle.desk_client.specs.declared.Entry.{Entry}
use Rattle.desk_client.specs.Client.{control_slot}
use Rattle.desk_notices.specs.declared.Cause.{Cause}
use Rattle.desk_notices.specs.Owed.{no_writer, by_writer}
use Rattle.desk_console.specs.Console.{name_rows, activate_rows, service_rows, quiet_advance}
use Rattle.desk_exchange.specs.Write.{player_written}
use Rattle.desk_take.specs.Serving.{result_octets}
use Rattle.desk_history.specs.Calls.{Call, set_name, activate, deactivate, advance, connect, disconnect, subscribe, unsubscribe, read, write, take}
use Rattle.desk_history.specs.Ledger.{Line, Claims, Book, Ledger, no_claims, line_of, no_line, in_service, changing, relinking, becoming, joining, leaving, reading, resulting, behind, serving, any_waits as any, owed_at, next_in, place_in, serving_at, may_connect, may_leave, may_join, may_read, may_write, may_take, outcome, result_of, control_writing, writing, after}
use Rattle.desk_history.specs.Rounds.{prepend}
use Rattle.desk_history.specs.History.{oldest, octets_in, answer_in, due_out, result_by, handouts_to, shown}
use Rattle.desk_history.proofs.LedgerLaws.{InRange, slot_near, serving_next, account_served, account_elsewhere, account_other}

-- W waited, R is the call's result, H was handed out, T waits
pub data Turn (later : Bool) (W R H T : List (List ℕ)) : Type 0 where
  adds : H ≡ [] → T ≡ W ++ R → Turn later W R H T
  drops : H ≡ [] → R ≡ [] → T ≡ [] → (later ≡ true → ⊥) → Turn later W R H T
  hands : R ≡ [] → W ≡ H ++ T → Turn later W R H T

-- where a call has no result, what waited still waits
keeps : {later : Bool} {W R T : List (List ℕ)} → R ≡ [] → T ≡ W → Turn later W R [] T
keeps {later} {W} e f = adds refl (f ∙ sym (append-nil W) ∙ (λ i. W ++ sym e i))

shown_append : (l r : List Entry) → shown (l ++ r) ≡ shown l ++ shown r
shown_append [] r = refl
shown_append (e ∷ l) r = ap (λ (t : List (List ℕ)). result_octets e ∷ t) (shown_append l r)

-- an account and what becomes of it, by a call that hands out nothing
abbrev OfAccount : Claims → Claims → List (List ℕ) → Type 0
OfAccount x y R = Turn (y.wants control_slot) (shown x.waiting) R [] (shown y.waiting)

gone : (x : Claims) → OfAccount x no_claims []
gone x = drops refl refl refl (λ e. true≢false (sym e))

left_account : (x : Claims) (s : ℕ) → OfAccount x (leaving s x) []
left_account x s = go (eqb s control_slot) refl
  where
    go : (t : Bool) → eqb s control_slot ≡ t → Turn (x.wants control_slot && not (eqb s control_slot)) (shown x.waiting) [] [] (shown (pick (eqb s control_slot) [] x.waiting))
    go true e = drops refl refl (ap (λ (b : Bool). shown (pick b [] x.waiting)) e) (λ w. true≢false (sym w ∙ and_fails (x.wants control_slot) (ap not e)))
    go false e = keeps refl (ap (λ (b : Bool). shown (pick b [] x.waiting)) e)

-- a service, for client c
module _ (c : ℕ) where
  abbrev Now : Book → Book → List (List ℕ) → Type 0
  Now b d R = OfAccount (b.account c) (d.account c) R

  becoming_turn : (k : Lent) (cause : Cause) (q : Player) (b : Book) → Now b (becoming k cause q b) []
  becoming_turn k cause q b = keeps refl refl

  changing_turn : (who : ℕ) (f : Claims → Claims) → ((x : Claims) → OfAccount x (f x) []) → (b : Book) → Now b (changing who f b) []
  changing_turn who f g b = go (eqb c who)
    where
      go : (t : Bool) → OfAccount (b.account c) (pick t (f (b.account c)) (b.account c)) []
      go true = g (b.account c)
      go false = keeps refl refl

module _ (k : Lent) (c : ℕ) where
  -- a control write: its result behind the others, for a writer that is subscribed
  control_turn : (who : ℕ) (value : List ℕ) (b : Book)
      → Now c b (control_writing k who value b) (pick (eqb c who && (b.account c).wants control_slot) (result_octets (result_of k b value) ∷ []) [])
  control_turn who value b = go (eqb c who) ((b.account c).wants control_slot) refl
    where
      go : (t w : Bool) → (b.account c).wants control_slot ≡ w
          → OfAccount (b.account c)
          (pick t (resulting (result_of k b value) ((becoming k (by_writer who 18) (outcome k b value).player b).account c)) ((becoming k (by_writer who 18) (outcome k b value).player b).account c))
          (pick (t && (b.account c).wants control_slot) (result_octets (result_of k b value) ∷ []) [])
      go true true e =
          adds refl
          (ap (λ (t : Bool). shown (pick t ((b.account c).waiting ++ (result_of k b value ∷ [])) (b.account c).waiting)) e
          ∙ shown_append (b.account c).waiting (result_of k b value ∷ [])
          ∙ (λ i. shown (b.account c).waiting ++ pick (sym e i) (result_octets (result_of k b value) ∷ []) []))
      go true false e =
          keeps (λ i. pick (e i) (result_octets (result_of k b value) ∷ []) [])
          (ap (λ (t : Bool). shown (pick t ((b.account c).waiting ++ (result_of k b value ∷ [])) (b.account c).waiting)) e)
      go false w e = keeps refl refl

  -- the result of a write that is accepted, and what the write makes of what waits
  abbrev own : Book → ℕ → ℕ → List ℕ → List (List ℕ)
  own b who x value = pick (eqb c who && (eqb x 18 && (b.account c).wants control_slot)) (result_octets (result_of k b value) ∷ []) []

  written_turn : (who x : ℕ) (value : List ℕ) (b : Book) → Now c b (writing k who x value b) (own b who x value)
  written_turn who x value b = go (eqb x 18)
    where
      go : (t : Bool)
          → Now c b (pick t (control_writing k who value b) (becoming k (by_writer who x) (player_written (catalogue_of k) b.player x value) b))
          (pick (eqb c who && (t && (b.account c).wants control_slot)) (result_octets (result_of k b value) ∷ []) [])
      go true = control_turn who value b
      go false = keeps (λ i. pick (and_fails (eqb c who) refl i) (result_octets (result_of k b value) ∷ []) []) refl

  -- an account whose slot s is served: the oldest result, where it is 18's turn
  served_turn : (b : Book) (line : Line) → 23 ≤ line.mtu → (s : ℕ) → (s ≡ control_slot → any (b.account c).waiting ≡ true)
      → shown (b.account c).waiting ≡ pick (eqb control_slot s) (octets_in k b c line s ∷ []) [] ++ shown (serving s (b.account c)).waiting
  served_turn b line m s f = at (ℕ_discrete s control_slot)
    where
      W : List Entry
      W = (b.account c).waiting

      oldest_shown : (l : List Entry) (n : ℕ) → 2 ≤ n → any l ≡ true → shown l ≡ firsts n (oldest l) ∷ shown (behind l)
      oldest_shown [] n h e = clash e
      oldest_shown (a ∷ l) n h e = ap (λ (o : List ℕ). o ∷ shown l) (sym (take_all n (result_octets a) h))

      at : Dec (s ≡ control_slot) → shown W ≡ pick (eqb control_slot s) (octets_in k b c line s ∷ []) [] ++ shown (pick (eqb s control_slot) (behind W) W)
      at (yes e) =
          oldest_shown W (line.mtu - 3) (omega (arith, m)) (f e)
          ∙ (λ i. pick (sym (eq-eqb control_slot s (sym e)) i) (firsts (line.mtu - 3) (pick (sym (eq-eqb s control_slot e) i) (oldest W) (value_of (source_of k) b.player (characteristic_of s))) ∷ []) [] ++ shown (pick (sym (eq-eqb s control_slot e) i) (behind W) W))
      at (no n) =
          λ i. pick (sym (ne_eqb control_slot s (λ e. n (sym e))) i) (octets_in k b c line s ∷ []) [] ++ shown (pick (sym (ne_eqb s control_slot n) i) (behind W) W)

-- ---- the whole: a place is 18's where its slot is
same_slot : (a x y : ℕ) → eqb (a + x) (a + y) ≡ eqb x y
same_slot a x y =
    elim (ℕ_discrete x y) [
      | yes e ↦ eq-eqb (a + x) (a + y) (ap (λ (n : ℕ). a + n) e) ∙ sym (eq-eqb x y e)
      | no n ↦ ne_eqb (a + x) (a + y) (λ e. n (omega (arith, e))) ∙ sym (ne_eqb x y n)
    ]

control_place : (p : ℕ) → eqb (place_of (service_of p) control_slot) p ≡ eqb control_slot (slot_at p)
control_place p =
    ap (eqb (place_of (service_of p) control_slot)) (sym (place_again p)) ∙ same_slot (service_of p * slot_count) control_slot (slot_at p)

-- a take that serves place p of client n, seen by client c at service v
module _ (k : Lent) (L : Ledger) (n p : ℕ) where
  abbrev given : List (List ℕ)
  given = octets_in k (L.service (service_of p)) n (L.link n) (slot_at p) ∷ []

  abbrev Seen : ℕ → ℕ → Type 0
  Seen c v =
      shown ((L.service v).account c).waiting
      ≡ pick (eqb c n && eqb (place_of v control_slot) p) given [] ++ shown (((serving_at L n p).service v).account c).waiting

  seen_there : 23 ≤ (L.link n).mtu → owed_at L n p ≡ true → Seen n (service_of p)
  seen_there m owed =
      served_turn k n (L.service (service_of p)) (L.link n) m (slot_at p) (λ z. here _ (eq-eqb (slot_at p) control_slot z) refl ∙ owed)
      ∙ sym (λ i. pick (eq-eqb n n refl i && control_place p i) given [] ++ shown (account_served L n p i).waiting)

  module _ (c v : ℕ) where
    -- nothing for this account
    seen_elsewhere : (eqb c n && eqb (place_of v control_slot) p) ≡ false → ((serving_at L n p).service v).account c ≡ (L.service v).account c → Seen c v
    seen_elsewhere e same = λ i. pick (sym e i) given [] ++ shown (sym same i).waiting

    take_turn : 23 ≤ (L.link c).mtu → owed_at L n p ≡ true → Seen c v
    take_turn m owed =
        elim (ℕ_discrete c n) [
          | no z ↦ seen_elsewhere (ap (λ (t : Bool). t && eqb (place_of v control_slot) p) (ne_eqb c n z)) (account_other L n p v c z)
          | yes q ↦
              elim (ℕ_discrete v (service_of p)) [
                | no z ↦
                    seen_elsewhere
                    (and_fails (eqb c n) (ne_eqb (place_of v control_slot) p (λ e. z (sym (service_of_place v control_slot (omega arith)) ∙ ap service_of e))))
                    (account_elsewhere L n p v c z)
                | yes z ↦
                    subst (λ (x : ℕ). Seen x v) (sym q)
                    (subst (Seen n) (sym z) (seen_there (subst (λ (x : ℕ). 23 ≤ (L.link x).mtu) q m) owed))
              ]
        ]

module _ (k : Lent) (c v : ℕ) where
  abbrev Waits : Ledger → Ledger → List (List ℕ) → Type 0
  Waits L M R = Now c (L.service v) (M.service v) R

  same : (L : Ledger) → Waits L L []
  same L = keeps refl refl

  by_test : (t : Bool) (M L : Ledger) → Waits L M [] → Waits L (pick t M L) []
  by_test true M L f = f
  by_test false M L f = same L

  in_turn : (t : Bool) (w : ℕ) (f : Book → Book) (L : Ledger) → ((b : Book) → Now c b (f b) []) → Waits L (pick t (in_service w f L) L) []
  in_turn t w f L g = by_test t (in_service w f L) L (go (eqb v w))
    where
      go : (u : Bool) → Now c (L.service v) (pick u (f (L.service v)) (L.service v)) []
      go true = g (L.service v)
      go false = keeps refl refl

  told_turn : (t : Bool) (w : ℕ) (cause : Player → Cause) (q : Player → Player) (L : Ledger)
      → Waits L (pick t (in_service w (λ b. becoming k (cause b.player) (q b.player) b) L) L) []
  told_turn t w cause q L = in_turn t w (λ b. becoming k (cause b.player) (q b.player) b) L (λ b. becoming_turn c k (cause b.player) (q b.player) b)

  account_turn : (t : Bool) (w who : ℕ) (f : Claims → Claims) (L : Ledger) → ((x : Claims) → OfAccount x (f x) []) → Waits L (pick t (in_service w (changing who f) L) L) []
  account_turn t w who f L g = in_turn t w (changing who f) L (changing_turn c who f g)

  relinking_turn : (t : Bool) (who : ℕ) (line : Line) (L : Ledger) → Waits L (pick t (relinking who line L) L) []
  relinking_turn t who line L = by_test t (relinking who line L) L (changing_turn c who (λ x. no_claims) gone (L.service v))

  -- every call
  pub turn : (call : Call) (L : Ledger) → InRange L → 23 ≤ (L.link c).mtu
      → Turn ((((after k call L).service v).account c).wants control_slot) (shown ((L.service v).account c).waiting) (result_by k c v call L)
      (handouts_to c v control_slot (prepend (due_out k call L) [])) (shown (((after k call L).service v).account c).waiting)
  turn (set_name w name) L g m = told_turn (accepted (name_rows w name)) w (λ p. no_writer false) (renamed name) L
  turn (activate w n) L g m = told_turn (accepted (activate_rows k w n)) w (λ p. no_writer false) (activated k.groups k.tracks n) L
  turn (deactivate w) L g m = told_turn (accepted (service_rows w)) w (λ p. no_writer false) deactivated L
  turn (advance w step) L g m =
      told_turn (accepted (service_rows w)) w (λ p. no_writer (quiet_advance k.tracks step p)) (advanced k.groups k.tracks step) L
  turn (connect who mtu encrypted) L g m = relinking_turn (may_connect L who mtu) who (line_of true encrypted mtu) L
  turn (disconnect who) L g m = relinking_turn (may_leave L who) who no_line L
  turn (subscribe who w x) L g m = account_turn (may_join L who w x) w who (joining (slot_of x)) L (λ y. keeps refl refl)
  turn (unsubscribe who w x) L g m = account_turn (may_join L who w x) w who (leaving (slot_of x)) L (λ y. left_account y (slot_of x))
  turn (read who w x offset room) L g m = account_turn (may_read k L who w x offset room) w who (reading x offset) L (λ y. keeps refl refl)
  turn (write who w x value) L g m = go (may_write k L who w x value)
    where
      -- of the service that is written to, and of another
      at : (u : Bool)
          → Now c (L.service v) (pick u (writing k who x value (L.service v)) (L.service v))
          (pick (eqb c who && (u && (eqb x 18 && ((L.service v).account c).wants control_slot))) (result_octets (result_of k (L.service v) value) ∷ []) [])
      at true = written_turn k c who x value (L.service v)
      at false = keeps (λ i. pick (and_fails (eqb c who) refl i) (result_octets (result_of k (L.service v) value) ∷ []) []) refl

      go : (t : Bool)
          → Waits L (pick t (in_service w (writing k who x value) L) L)
          (pick t (pick (eqb c who && (eqb v w && (eqb x 18 && ((L.service v).account c).wants control_slot))) (result_octets (result_of k (L.service v) value) ∷ []) []) [])
      go true = at (eqb v w)
      go false = same L
  turn (take room) L g m = go (may_take room) (leb client_count (next_in L)) refl
    where
      go : (t u : Bool) → leb client_count (next_in L) ≡ u
          → Turn ((((pick t (pick u L (serving_next L)) L).service v).account c).wants control_slot) (shown ((L.service v).account c).waiting) []
          (handouts_to c v control_slot (prepend (pick t (pick u none (some (answer_in k L (next_in L)))) none) []))
          (shown (((pick t (pick u L (serving_next L)) L).service v).account c).waiting)
      go true true e = same L
      go true false e = hands refl (take_turn k L (next_in L) (place_in L (next_in L)) c v m (slot_near L g (leb-false client_count (next_in L) e)).holds)
      go false u e = same L
