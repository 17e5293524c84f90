-- The ledger obeys the laws of fair service. Assumes nothing.
use mathlib.Core.Path.{◌≡◌, refl, sym, ap, ◌∙◌, subst}
use mathlib.Core.Bool.{Bool, true, false, not, ◌&&◌, ◌||◌, true≢false}
use mathlib.Core.Logic.{◌⊎◌, inl, inr, ⊎_elim}
use mathlib.Core.Option.{Option, none, some}
use mathlib.Core.List.{List, [], ◌∷◌, ◌++◌}
use Prim.Native.Nat.{ℕ, suc, ◌-◌, ◌≤◌, ◌<◌, zero-le}
use native.Mathlib.Decide.{ℕ_discrete}
use native.Mathlib.Nat.{le_refl, le_of_eq, le_trans}
use native.Mathlib.Omega.{arith}
use borrow.Author.Tests.{eq-eqb, ne_eqb, eqb-true, leb-false}
use lib.Dec.{eqb, leb}
use lib.ListN.{length, length-append}
use Rattle.ground.specs.Cases.{pick}
use Rattle.ground.proofs.Cases.{clash}
use Rattle.catalogue_titles.specs.Lent.{Lent, catalogue_of}
use Rattle.player_state.specs.declared.Player.{Player}
use Rattle.player_state.specs.Player.{renamed, deactivated}
use Rattle.player_moves.specs.Clock.{advanced, activated}
use Rattle.ground.specs.Refusals.{accepted}
use Rattle.desk_slots.specs.Slots.{place_count, client_count, slot_of, place_of, service_of, slot_at}
use Rattle.desk_slots.specs.Round.{dist}
use Rattle.desk_slots.proofs.NextLaws.{Nearest, next_hit, next_nearest}
use Rattle.desk_slots.proofs.PlaceLaws.{place_again}
use Rattle.desk_client.specs.declared.Entry.{Entry}
use Rattle.desk_client.specs.Client.{control_slot}
use Rattle.desk_notices.specs.declared.Cause.{Cause}
use Rattle.desk_notices.specs.Owed.{no_writer, by_writer}
use Rattle.desk_console.specs.Console.{name_rows, activate_rows, service_rows, quiet_advance}
use Rattle.desk_exchange.specs.Write.{player_written}
use Rattle.desk_history.specs.Calls.{Call, set_name, activate, deactivate, advance, connect, disconnect, subscribe, unsubscribe, read, write, take}
use Rattle.desk_history.specs.Ledger.{Line, Claims, Book, Ledger, no_claims, line_of, no_line, in_service, changing, relinking, may_connect, may_leave, may_join, may_read, may_write, may_take, noticing, becoming, joining, leaving, reading, resulting, behind, serving, passing, any_waits as any, owes, owed_at, owed_any, next_in, place_in, serving_at, outcome, result_of, control_writing, writing, after}
use Rattle.desk_history.specs.Rounds.{Handout, is_for, System, Laws}
use Rattle.desk_history.specs.History.{answer_in, due_out}
use Rattle.desk_history.proofs.Serving.{backlog, backlog_at, owes_of, owed_any_lem, any_owed}

-- ---- what an account loses by a call that hands out nothing, while its interest in s is kept: nothing
abbrev bit : Bool → ℕ
bit b = pick b 1 0

bit_up : (b d : Bool) → bit b ≤ bit (b || d)
bit_up true d = le_refl 1
bit_up false d = zero-le

bit_kept : (b t : Bool) → t ≡ false → bit b ≡ bit (b && not t)
bit_kept true true e = clash (sym e)
bit_kept true false e = refl
bit_kept false t e = refl

more : (l r : List Entry) → length l ≤ length (l ++ r)
more l r = rw (length-append l r) (omega arith)

abbrev NoLess : ℕ → ℕ → Type 0
NoLess m n = m ≤ n

-- of the two readings of a slot, by what it is
by_slot : (R : ℕ → ℕ → Type 0) (s a b c d : ℕ) → (s ≡ control_slot → R a c) → ((s ≡ control_slot → ⊥) → R b d)
    → R (pick (eqb s control_slot) a b) (pick (eqb s control_slot) c d)
by_slot R s a b c d f g =
    elim (ℕ_discrete s control_slot) [
      | yes e ↦ subst (λ (t : Bool). R (pick t a b) (pick t c d)) (sym (eq-eqb s control_slot e)) (f e)
      | no n ↦ subst (λ (t : Bool). R (pick t a b) (pick t c d)) (sym (ne_eqb s control_slot n)) (g n)
    ]

module _ (s : ℕ) (x : Claims) where
  abbrev Held : Claims → Type 0
  Held y = backlog x s ≤ backlog y s

  held_told : (k : Lent) (p q : Player) (cause : Cause) (who : ℕ) → Held (noticing k p q cause who x)
  held_told k p q cause who = by_slot NoLess s _ _ _ _ (λ e. le_refl _) (λ n. bit_up (x.due s) _)

  kept_slot : (a b : Bool) → (a && not b) ≡ true → b ≡ false
  kept_slot true true e = clash e
  kept_slot true false e = refl
  kept_slot false b e = clash e

  held_leaving : (t : ℕ) → (leaving t x).wants s ≡ true → Held (leaving t x)
  held_leaving t e =
      let other : eqb t s ≡ false = kept_slot (x.wants s) (eqb t s) e in
      by_slot NoLess s _ _ _ _
      (λ q. le_of_eq (ap (λ (b : Bool). length (pick b [] x.waiting)) (sym (sym (ap (eqb t) q) ∙ other))))
      (λ n. le_of_eq (bit_kept (x.due s) (eqb t s) other))

  held_resulting : (e : Entry) → Held (resulting e x)
  held_resulting e = by_slot NoLess s _ _ _ _ (λ q. grows (x.wants control_slot)) (λ n. le_refl _)
    where
      grows : (t : Bool) → length x.waiting ≤ length (pick t (x.waiting ++ (e ∷ [])) x.waiting)
      grows true = more x.waiting (e ∷ [])
      grows false = le_refl _

-- ---- the same of a service, for client c
module _ (c s : ℕ) where
  abbrev WantsIn : Book → Type 0
  WantsIn d = (d.account c).wants s ≡ true

  abbrev HeldIn : Book → Book → Type 0
  HeldIn b d = Held s (b.account c) (d.account c)

  in_changing : (who : ℕ) (f : Claims → Claims) (b : Book) → ((f (b.account c)).wants s ≡ true → Held s (b.account c) (f (b.account c)))
      → WantsIn (changing who f b) → HeldIn b (changing who f b)
  in_changing who f b g = go (eqb c who)
    where
      go : (t : Bool) → (pick t (f (b.account c)) (b.account c)).wants s ≡ true → Held s (b.account c) (pick t (f (b.account c)) (b.account c))
      go true h = g h
      go false h = le_refl _

  in_becoming : (k : Lent) (cause : Cause) (q : Player) (b : Book) → HeldIn b (becoming k cause q b)
  in_becoming k cause q b = held_told s (b.account c) k b.player q cause c

  -- by a test: one, or the other
  in_either : (t : Bool) (b d e : Book) → (WantsIn d → HeldIn b d) → (WantsIn e → HeldIn b e) → WantsIn (pick t d e) → HeldIn b (pick t d e)
  in_either true b d e f g h = f h
  in_either false b d e f g h = g h

  in_writing : (k : Lent) (who x : ℕ) (value : List ℕ) (b : Book) → WantsIn (writing k who x value b) → HeldIn b (writing k who x value b)
  in_writing k who x value b =
      in_either (eqb x 18) b (control_writing k who value b) (becoming k (by_writer who x) (player_written (catalogue_of k) b.player x value) b) control
      (λ h. in_becoming k (by_writer who x) (player_written (catalogue_of k) b.player x value) b)
    where
      control : WantsIn (control_writing k who value b) → HeldIn b (control_writing k who value b)
      control h =
          let told = becoming k (by_writer who 18) (outcome k b value).player b in
          le_trans (in_becoming k (by_writer who 18) (outcome k b value).player b)
          (in_changing who (resulting (result_of k b value)) told (λ w. held_resulting s (told.account c) (result_of k b value)) h)

-- ---- the same of the whole, for client c, service v and slot s
module _ (c v s : ℕ) where
  abbrev Wants : Ledger → Type 0
  Wants M = WantsIn c s (M.service v)

  abbrev Still : Ledger → Ledger → Type 0
  Still L M = (M.turn ≡ L.turn) × ((M.link c).last ≡ (L.link c).last) × HeldIn c s (L.service v) (M.service v)

  still_same : (L : Ledger) → Still L L
  still_same L = (refl, refl, le_refl _)

  -- by a test: the other ledger, or the same
  still_if : (t : Bool) (M L : Ledger) → (Wants M → Still L M) → Wants (pick t M L) → Still L (pick t M L)
  still_if true M L f h = f h
  still_if false M L f h = still_same L

  still_in : (t : Bool) (w : ℕ) (f : Book → Book) (L : Ledger) → ((b : Book) → WantsIn c s (f b) → HeldIn c s b (f b))
      → Wants (pick t (in_service w f L) L) → Still L (pick t (in_service w f L) L)
  still_in t w f L g = still_if t (in_service w f L) L (λ h. (refl, refl, go (eqb v w) h))
    where
      go : (u : Bool) → WantsIn c s (pick u (f (L.service v)) (L.service v)) → HeldIn c s (L.service v) (pick u (f (L.service v)) (L.service v))
      go true h = g (L.service v) h
      go false h = le_refl _

  still_told : (k : Lent) (t : Bool) (w : ℕ) (cause : Player → Cause) (q : Player → Player) (L : Ledger)
      → Wants (pick t (in_service w (λ b. becoming k (cause b.player) (q b.player) b) L) L)
      → Still L (pick t (in_service w (λ b. becoming k (cause b.player) (q b.player) b) L) L)
  still_told k t w cause q L =
      still_in t w (λ b. becoming k (cause b.player) (q b.player) b) L (λ b h. in_becoming c s k (cause b.player) (q b.player) b)

  still_changing : (t : Bool) (w who : ℕ) (f : Claims → Claims) (L : Ledger) → ((x : Claims) → (f x).wants s ≡ true → Held s x (f x))
      → Wants (pick t (in_service w (changing who f) L) L) → Still L (pick t (in_service w (changing who f) L) L)
  still_changing t w who f L g = still_in t w (changing who f) L (λ b. in_changing c s who f b (g (b.account c)))

  -- who is linked anew wants nothing
  still_relinking : (t : Bool) (who : ℕ) (line : Line) (L : Ledger) → Wants (pick t (relinking who line L) L) → Still L (pick t (relinking who line L) L)
  still_relinking t who line L = still_if t (relinking who line L) L (λ h. let w = go (eqb c who) h in (refl, w.0, w.1))
    where
      go : (u : Bool) → (pick u no_claims ((L.service v).account c)).wants s ≡ true
          → ((pick u line (L.link c)).last ≡ (L.link c).last) × Held s ((L.service v).account c) (pick u no_claims ((L.service v).account c))
      go true h = clash h
      go false h = (refl, le_refl _)

-- ---- a call that hands out nothing
found : Option Handout → Bool
found none = false
found (some a) = true

module _ (k : Lent) (c v s : ℕ) where
  still : (call : Call) (L : Ledger) → due_out k call L ≡ none → Wants c v s (after k call L) → Still c v s L (after k call L)
  unfolding found
  still (set_name w name) L e = still_told c v s k (accepted (name_rows w name)) w (λ p. no_writer false) (renamed name) L
  still (activate w g) L e = still_told c v s k (accepted (activate_rows k w g)) w (λ p. no_writer false) (activated k.groups k.tracks g) L
  still (deactivate w) L e = still_told c v s k (accepted (service_rows w)) w (λ p. no_writer false) deactivated L
  still (advance w step) L e =
      still_told c v s k (accepted (service_rows w)) w (λ p. no_writer (quiet_advance k.tracks step p)) (advanced k.groups k.tracks step) L
  still (connect who mtu encrypted) L e = still_relinking c v s (may_connect L who mtu) who (line_of true encrypted mtu) L
  still (disconnect who) L e = still_relinking c v s (may_leave L who) who no_line L
  still (subscribe who w x) L e = still_changing c v s (may_join L who w x) w who (joining (slot_of x)) L (λ y h. le_refl _)
  still (unsubscribe who w x) L e = still_changing c v s (may_join L who w x) w who (leaving (slot_of x)) L (λ y. held_leaving s y (slot_of x))
  still (read who w x offset room) L e = still_changing c v s (may_read k L who w x offset room) w who (reading x offset) L (λ y h. le_refl _)
  still (write who w x value) L e = still_in c v s (may_write k L who w x value) w (writing k who x value) L (in_writing c s k who x value)
  still (take room) L e = λ h. go (may_take room) (leb client_count (next_in L)) e
    where
      go : (t u : Bool) → pick t (pick u none (some (answer_in k L (next_in L)))) none ≡ none
          → Still c v s L (pick t (pick u L (serving_at L (next_in L) (place_in L (next_in L)))) L)
      go true true z = still_same c v s L
      go true false z = absurd (true≢false (ap found z))
      go false u z = still_same c v s L

-- ---- a call that hands out something is a take, and serves the next place of the next client
or_else : Handout → Option Handout → Handout
or_else a none = a
or_else a (some b) = b

abbrev pub serving_next : Ledger → Ledger
serving_next L = serving_at L (next_in L) (place_in L (next_in L))

pub record Serves (k : Lent) (call : Call) (L : Ledger) (a : Handout) : Type 0 where
  pub is : a ≡ answer_in k L (next_in L)
  pub inside : next_in L < client_count
  pub leaves : after k call L ≡ serving_next L

module _ (k : Lent) where
  never : {A : Type 0} (a : Handout) → none ≡ some a → A
  unfolding found
  never a e = absurd (true≢false (sym (ap found e)))

  pub serves : (call : Call) (L : Ledger) (a : Handout) → due_out k call L ≡ some a → Serves k call L a
  unfolding or_else found
  serves (set_name w name) L a e = never a e
  serves (activate w g) L a e = never a e
  serves (deactivate w) L a e = never a e
  serves (advance w step) L a e = never a e
  serves (connect who mtu encrypted) L a e = never a e
  serves (disconnect who) L a e = never a e
  serves (subscribe who w x) L a e = never a e
  serves (unsubscribe who w x) L a e = never a e
  serves (read who w x offset room) L a e = never a e
  serves (write who w x value) L a e = never a e
  serves (take room) L a e = go (may_take room) refl (leb client_count (next_in L)) refl e
    where
      go : (t : Bool) → may_take room ≡ t → (u : Bool) → leb client_count (next_in L) ≡ u
          → pick t (pick u none (some (answer_in k L (next_in L)))) none ≡ some a → Serves k (take room) L a
      go true p true q h = never a h
      go true p false q h =
          record {
            is = sym (ap (or_else a) h);
            inside = leb-false client_count (next_in L) q;
            leaves = λ i. pick (p i) (pick (q i) L (serving_next L)) L;
          }
      go false p u q h = never a h

-- ---- the system: its slots are the places of a client's round
abbrev pub InRange : Ledger → Type 0
InRange L = (L.turn < client_count) × ((c : ℕ) → c < client_count → (L.link c).last < place_count)

abbrev pub wants_at : Ledger → ℕ → ℕ → Bool
wants_at L who place = ((L.service (service_of place)).account who).wants (slot_at place)

abbrev pub ledger_system : Lent → System
ledger_system k =
    record {
      State = Ledger;
      Call = Call;
      step = after k;
      out = due_out k;
      backlog = backlog_at;
      last = λ L. L.turn;
      slast = λ L c. (L.link c).last;
      Keeps = λ c p call L. wants_at (after k call L) c p ≡ true;
      Good = InRange;
    }

module _ (L : Ledger) (good : InRange L) (inside : next_in L < client_count) where
  -- the next client is the nearest that is owed something
  near : Nearest client_count (owed_any L) L.turn (next_in L)
  unfolding next_in
  near = next_hit client_count (owed_any L) L.turn good.0 inside

  -- its next place is the nearest that is owed
  pub slot_near : Nearest place_count (owed_at L (next_in L)) (L.link (next_in L)).last (place_in L (next_in L))
  unfolding place_in
  slot_near =
      let w = any_owed L (next_in L) near.holds in
      next_nearest place_count (owed_at L (next_in L)) (L.link (next_in L)).last (good.1 (next_in L) inside) w.0 w.1 w.2

  client_near : (c p : ℕ) → c < client_count → p < place_count → owed_at L c p ≡ true → dist client_count L.turn (next_in L) ≤ dist client_count L.turn c
  client_near c p hc hp e = near.least c hc (owed_any_lem L c p hp e)

-- the link and the account that are served, and the others
module _ (L : Ledger) (who p : ℕ) where
  abbrev then : Ledger
  then = serving_at L who p

  link_served : then.link who ≡ passing p (L.link who)
  link_served = λ i. pick (eq-eqb who who refl i) (passing p (L.link who)) (L.link who)

  link_other : (c : ℕ) → (c ≡ who → ⊥) → then.link c ≡ L.link c
  link_other c n = λ i. pick (ne_eqb c who n i) (passing p (L.link c)) (L.link c)

  -- a service with the slot served
  abbrev with_served_lem : ℕ → Book
  with_served_lem v = changing who (serving (slot_at p)) (L.service v)

  pub account_served : (then.service (service_of p)).account who ≡ serving (slot_at p) ((L.service (service_of p)).account who)
  account_served =
      (λ i. (pick (eq-eqb (service_of p) (service_of p) refl i) (with_served_lem (service_of p)) (L.service (service_of p))).account who)
      ∙ (λ i. pick (eq-eqb who who refl i) (serving (slot_at p) ((L.service (service_of p)).account who)) ((L.service (service_of p)).account who))

  pub account_elsewhere : (v c : ℕ) → (v ≡ service_of p → ⊥) → (then.service v).account c ≡ (L.service v).account c
  account_elsewhere v c n = λ i. (pick (ne_eqb v (service_of p) n i) (with_served_lem v) (L.service v)).account c

  pub account_other : (v c : ℕ) → (c ≡ who → ⊥) → (then.service v).account c ≡ (L.service v).account c
  account_other v c n = go (eqb v (service_of p))
    where
      go : (t : Bool) → (pick t (with_served_lem v) (L.service v)).account c ≡ (L.service v).account c
      go true = λ i. pick (ne_eqb c who n i) (serving (slot_at p) ((L.service v).account c)) ((L.service v).account c)
      go false = refl

one_behind : (l : List Entry) → any l ≡ true → length l ≡ suc (length (behind l))
one_behind [] e = clash e
one_behind (x ∷ l) e = refl

bit_gone : (b t : Bool) → b ≡ true → t ≡ true → bit b ≡ suc (bit (b && not t))
bit_gone b t owed same = rw (owed, same)

module _ (x : Claims) (t : ℕ) where
  -- serving a slot that is owed takes one thing from it
  abbrev Takes : Bool → Type 0
  Takes b =
      pick b (any x.waiting) (x.due t) ≡ true
      → pick b (length x.waiting) (bit (x.due t))
      ≡ suc (pick b (length (pick b (behind x.waiting) x.waiting)) (bit (x.due t && not (eqb t t))))

  serving_takes : owes x t ≡ true → backlog x t ≡ suc (backlog (serving t x) t)
  serving_takes =
      elim (ℕ_discrete t control_slot) [
        | yes e ↦ subst Takes (sym (eq-eqb t control_slot e)) (one_behind x.waiting)
        | no n ↦ subst Takes (sym (ne_eqb t control_slot n)) (λ owed. bit_gone (x.due t) (eqb t t) owed (eq-eqb t t refl))
      ]

  -- and nothing from another
  serving_keeps : (s : ℕ) → (s ≡ t → ⊥) → backlog x s ≡ backlog (serving t x) s
  serving_keeps s n =
      let other : eqb t s ≡ false = ne_eqb t s (λ e. n (sym e)) in
      by_slot (λ m l. m ≡ l) s _ _ _ _
      (λ e. ap (λ (b : Bool). length (pick b (behind x.waiting) x.waiting)) (sym (sym (ap (eqb t) e) ∙ other)))
      (λ m. bit_kept (x.due s) (eqb t s) other)

-- the same of the whole, by place
module _ (L : Ledger) (who p : ℕ) where
  pub place_takes : owed_at L who p ≡ true → backlog_at L who p ≡ suc (backlog_at (serving_at L who p) who p)
  place_takes owed =
      serving_takes ((L.service (service_of p)).account who) (slot_at p) owed ∙ ap (λ (x : Claims). suc (backlog x (slot_at p))) (sym (account_served L who p))

  unserved : (c q : ℕ) → ((serving_at L who p).service (service_of q)).account c ≡ (L.service (service_of q)).account c
      → backlog_at L c q ≡ backlog_at (serving_at L who p) c q
  unserved c q e = ap (λ (x : Claims). backlog x (slot_at q)) (sym e)

  pub place_keeps : (q : ℕ) → (q ≡ p → ⊥) → backlog_at L who q ≡ backlog_at (serving_at L who p) who q
  place_keeps q n =
      elim (ℕ_discrete (service_of q) (service_of p)) [
        | no m ↦ unserved who q (account_elsewhere L who p (service_of q) who m)
        | yes e ↦
            subst (λ (v : ℕ). backlog ((L.service v).account who) (slot_at q) ≡ backlog (((serving_at L who p).service v).account who) (slot_at q)) (sym e)
            (serving_keeps ((L.service (service_of p)).account who) (slot_at p) (slot_at q) (λ f. n (sym (place_again q) ∙ (λ i. place_of (e i) (f i)) ∙ place_again p))
            ∙ ap (λ (x : Claims). backlog x (slot_at q)) (sym (account_served L who p)))
      ]

  pub client_keeps : (c q : ℕ) → (c ≡ who → ⊥) → backlog_at L c q ≡ backlog_at (serving_at L who p) c q
  client_keeps c q n = unserved c q (account_other L who p (service_of q) c n)

-- an answer that is not for place p of client c is for another client, or for another place
not_for : (c p : ℕ) (a : Handout) → is_for c p a ≡ false → (c ≡ a.client → ⊥) ⊎ ((c ≡ a.client) × (p ≡ a.place → ⊥))
not_for c p a e =
    elim (ℕ_discrete c a.client) [
      | no n ↦ inl n
      | yes r ↦ inr (r, λ q. true≢false (sym (λ i. eq-eqb c a.client r i && eq-eqb p a.place q i) ∙ e))
    ]

for_both : (a b : Bool) → (a && b) ≡ true → (a ≡ true) × (b ≡ true)
for_both true b e = (refl, e)
for_both false b e = clash e

abbrev Marked : Line → Type 0
Marked x = x.last < place_count

-- ---- the marks of a call that hands out nothing: where they were, or at the end of the round
abbrev Mark : Line → Line → Type 0
Mark x y = (y.last ≡ x.last) ⊎ (y.last ≡ place_count - 1)

abbrev Marks : Ledger → Ledger → Type 0
Marks L M = (M.turn ≡ L.turn) × ((c : ℕ) → Mark (L.link c) (M.link c))

marks_same : (L : Ledger) → Marks L L
marks_same L = (refl, λ c. inl refl)

marks_if : (t : Bool) (M L : Ledger) → Marks L M → Marks L (pick t M L)
marks_if true M L f = f
marks_if false M L f = marks_same L

marks_in : (t : Bool) (w : ℕ) (f : Book → Book) (L : Ledger) → Marks L (pick t (in_service w f L) L)
marks_in t w f L = marks_if t (in_service w f L) L (refl, λ c. inl refl)

marks_told : (k : Lent) (t : Bool) (w : ℕ) (cause : Player → Cause) (q : Player → Player) (L : Ledger)
    → Marks L (pick t (in_service w (λ b. becoming k (cause b.player) (q b.player) b) L) L)
marks_told k t w cause q L = marks_in t w (λ b. becoming k (cause b.player) (q b.player) b) L

marks_relinking : (t : Bool) (who : ℕ) (on safe : Bool) (mtu : ℕ) (L : Ledger) → Marks L (pick t (relinking who (line_of on safe mtu) L) L)
marks_relinking t who on safe mtu L = marks_if t (relinking who (line_of on safe mtu) L) L (refl, λ c. go c (eqb c who))
  where
    go : (c : ℕ) (u : Bool) → Mark (L.link c) (pick u (line_of on safe mtu) (L.link c))
    go c true = inr refl
    go c false = inl refl

module _ (k : Lent) where
  marks : (call : Call) (L : Ledger) → due_out k call L ≡ none → Marks L (after k call L)
  unfolding found
  marks (set_name w name) L e = marks_told k (accepted (name_rows w name)) w (λ p. no_writer false) (renamed name) L
  marks (activate w g) L e = marks_told k (accepted (activate_rows k w g)) w (λ p. no_writer false) (activated k.groups k.tracks g) L
  marks (deactivate w) L e = marks_told k (accepted (service_rows w)) w (λ p. no_writer false) deactivated L
  marks (advance w step) L e = marks_told k (accepted (service_rows w)) w (λ p. no_writer (quiet_advance k.tracks step p)) (advanced k.groups k.tracks step) L
  marks (connect who mtu encrypted) L e = marks_relinking (may_connect L who mtu) who true encrypted mtu L
  marks (disconnect who) L e = marks_relinking (may_leave L who) who false false 23 L
  marks (subscribe who w x) L e = marks_in (may_join L who w x) w (changing who (joining (slot_of x))) L
  marks (unsubscribe who w x) L e = marks_in (may_join L who w x) w (changing who (leaving (slot_of x))) L
  marks (read who w x offset room) L e = marks_in (may_read k L who w x offset room) w (changing who (reading x offset)) L
  marks (write who w x value) L e = marks_in (may_write k L who w x value) w (writing k who x value) L
  marks (take room) L e = go (may_take room) (leb client_count (next_in L)) e
    where
      go : (t u : Bool) → pick t (pick u none (some (answer_in k L (next_in L)))) none ≡ none → Marks L (pick t (pick u L (serving_next L)) L)
      go true true h = marks_same L
      go true false h = absurd (true≢false (ap found h))
      go false u h = marks_same L

module _ (k : Lent) where
  in_range : (call : Call) (L : Ledger) → InRange L → InRange (after k call L)
  in_range call L g = go (due_out k call L) refl
    where
      -- a mark is where it was, or at the end of its round
      kept : (x y : Line) → Mark x y → x.last < place_count → y.last < place_count
      kept x y (inl e) l = subst (λ (n : ℕ). n < place_count) (sym e) l
      kept x y (inr e) l = subst (λ (n : ℕ). n < place_count) (sym e) (omega arith)

      go : (o : Option Handout) → due_out k call L ≡ o → InRange (after k call L)
      go (some a) e =
          let w = serves k call L a e in
          subst InRange (sym w.leaves) (
            w.inside,
            λ c h. elim (ℕ_discrete c (next_in L)) [
              | yes q ↦
                  subst (λ (n : ℕ). Marked ((serving_next L).link n)) (sym q)
                  (subst Marked (sym (link_served L (next_in L) (place_in L (next_in L)))) (slot_near L g w.inside).inside)
              | no n ↦ subst Marked (sym (link_other L (next_in L) (place_in L (next_in L)) c n)) (g.1 c h)
            ],
          )
      go none e =
          let m = marks k call L e in
          (subst (λ (n : ℕ). n < client_count) (sym m.0) g.0, λ c h. kept (L.link c) ((after k call L).link c) (m.1 c) (g.1 c h))

  taken : (call : Call) (L : Ledger) (a : Handout) (c p : ℕ) → InRange L → due_out k call L ≡ some a → is_for c p a ≡ true
      → backlog_at L c p ≤ suc (backlog_at (after k call L) c p)
  taken call L a c p g e f =
      let w = serves k call L a e in
      let b = for_both (eqb c a.client) (eqb p a.place) f in
      let who : c ≡ next_in L = eqb-true c a.client b.0 ∙ ap (λ (x : Handout). x.client) w.is in
      let place : p ≡ place_in L (next_in L) = eqb-true p a.place b.1 ∙ ap (λ (x : Handout). x.place) w.is in
      subst (λ (M : Ledger). backlog_at L c p ≤ suc (backlog_at M c p)) (sym w.leaves)
      (subst (λ (n : ℕ). backlog_at L n p ≤ suc (backlog_at (serving_next L) n p)) (sym who)
      (subst (λ (q : ℕ). backlog_at L (next_in L) q ≤ suc (backlog_at (serving_next L) (next_in L) q)) (sym place)
      (le_of_eq (place_takes L (next_in L) (place_in L (next_in L)) (slot_near L g w.inside).holds))))

  kept_others : (call : Call) (L : Ledger) (a : Handout) (c p : ℕ) → InRange L → due_out k call L ≡ some a → is_for c p a ≡ false
      → backlog_at L c p ≤ backlog_at (after k call L) c p
  kept_others call L a c p g e f =
      let w = serves k call L a e in
      let client = ap (λ (x : Handout). x.client) w.is in
      let place = ap (λ (x : Handout). x.place) w.is in
      subst (λ (M : Ledger). backlog_at L c p ≤ backlog_at M c p) (sym w.leaves)
      (⊎_elim
      (λ (n : c ≡ a.client → ⊥). le_of_eq (client_keeps L (next_in L) (place_in L (next_in L)) c p (λ q. n (q ∙ sym client))))
      (λ r. subst (λ (n : ℕ). backlog_at L n p ≤ backlog_at (serving_next L) n p) (sym (r.0 ∙ client))
      (le_of_eq (place_keeps L (next_in L) (place_in L (next_in L)) p (λ q. r.1 (q ∙ sym place)))))
      (not_for c p a f))

  -- something waits, so it is owed
  owed_of : (L : Ledger) (c p : ℕ) → 1 ≤ backlog_at L c p → owed_at L c p ≡ true
  owed_of L c p b = owes_of ((L.service (service_of p)).account c) (slot_at p) b

  pub laws : Laws (ledger_system k) client_count place_count
  laws =
      record {
        good = in_range;
        last< = λ L g. g.0;
        slast< = λ L c g h. g.1 c h;
        client< = λ call L a g e. let w = serves k call L a e in subst (λ (b : Handout). b.client < client_count) (sym w.is) w.inside;
        slot< = λ call L a g e.
            let w = serves k call L a e in subst (λ (b : Handout). b.place < place_count) (sym w.is) (slot_near L g w.inside).inside;
        first_client = λ call L a g e c p hc hp b.
            let w = serves k call L a e in
            subst (λ (x : Handout). dist client_count L.turn x.client ≤ dist client_count L.turn c) (sym w.is)
            (client_near L g w.inside c p hc hp (owed_of L c p b));
        first_slot = λ call L a g e p hp.
            let w = serves k call L a e in
            subst (λ (x : Handout). 1 ≤ backlog_at L x.client p → dist place_count (L.link x.client).last x.place ≤ dist place_count (L.link x.client).last p) (sym w.is)
            (λ b. (slot_near L g w.inside).least p hp (owed_of L (next_in L) p b));
        last_served = λ call L a g e.
            let w = serves k call L a e in ap (λ (M : Ledger). M.turn) w.leaves ∙ sym (ap (λ (x : Handout). x.client) w.is);
        slast_served = λ call L a g e.
            let w = serves k call L a e in
            subst (λ (x : Handout). ((after k call L).link x.client).last ≡ x.place) (sym w.is)
            (ap (λ (M : Ledger). (M.link (next_in L)).last) w.leaves ∙ ap (λ (x : Line). x.last) (link_served L (next_in L) (place_in L (next_in L))));
        slast_other = λ call L a g e c n.
            let w = serves k call L a e in
            ap (λ (M : Ledger). (M.link c).last) w.leaves
            ∙ ap (λ (x : Line). x.last) (link_other L (next_in L) (place_in L (next_in L)) c (λ q. n (q ∙ sym (ap (λ (x : Handout). x.client) w.is))));
        last_kept = λ call L c p g kp e. (still k c (service_of p) (slot_at p) call L e kp).0;
        slast_kept = λ call L c p g kp e. (still k c (service_of p) (slot_at p) call L e kp).1;
        one_less = λ call L a c p g e f. taken call L a c p g e f;
        others_kept = λ call L a c p g e f. kept_others call L a c p g e f;
        kept = λ call L c p g kp e. (still k c (service_of p) (slot_at p) call L e kp).2;
      }
