-- The desk and the ledger: alike and standing before, alike and standing after an account, a player, a service or a client's record is another.
-- Assumes nothing.
use mathlib.Core.Path.{◌≡◌, refl, sym, ap, ◌∙◌, subst}
use mathlib.Core.Bool.{Bool, true, false, not, ◌&&◌, ◌||◌}
use mathlib.Core.Logic.{⊎_elim}
use mathlib.Core.List.{List, [], ◌∷◌}
use Prim.Native.Nat.{ℕ, zero, suc, ◌+◌, ◌<◌}
use native.Mathlib.Decide.{ℕ_discrete}
use native.Mathlib.Nat.{le_of_suc-le-suc, not-suc-le-zero, zero-add, suc-add, add-suc, add-zero}
use native.Mathlib.Omega.{arith}
use borrow.Author.Tests.{eq-eqb, ne_eqb}
use lib.ListN.{length, get_or, set, length-set, replicate}
use lib.Seq.{get_or-set_same, get_or-set_other}
use Rattle.ground.specs.Cases.{pick, has}
use Rattle.ground.specs.Lists.{map_from}
use Rattle.ground.proofs.Cases.{true_or}
use Rattle.catalogue_titles.specs.Lent.{Lent}
use Rattle.player_state.specs.declared.Player.{Player}
use Rattle.player_check.specs.Standing.{player_rule}
use Rattle.desk_slots.specs.Slots.{slot_count, service_count, client_count, characteristic_of}
use Rattle.desk_slots.specs.Characteristics.{is_in}
use Rattle.desk_slots.proofs.SetLaws.{set_has}
use Rattle.desk_notices.specs.Changes.{changed, track_changed}
use Rattle.desk_notices.proofs.Differing.{changed_unread}
use Rattle.desk_notices.specs.declared.Cause.{Cause}
use Rattle.desk_notices.specs.Owed.{falls_due, spared, due_to, altered_of, settled}
use Rattle.desk_client.specs.declared.Link.{Link}
use Rattle.desk_client.specs.declared.Account.{Account}
use Rattle.desk_client.specs.declared.Client.{Client}
use Rattle.desk_client.specs.Client.{control_slot, account_fits, no_account, account_with, start_link, blank_account, client_rule}
use Rattle.desk_client.specs.Duties.{noted}
use Rattle.desk_client.proofs.Rule.{connected_fit, fit_connected, unconnected_blank, blank_unconnected}
use Rattle.desk_client.proofs.Kept.{kept_noted, kept_blank}
use Rattle.desk_state.specs.declared.Service.{Service}
use Rattle.desk_state.specs.declared.Desk.{Desk}
use Rattle.desk_state.specs.Desk.{no_link, no_service, link_at, service_at, account_in, service_rule, started_service, started_desk, desk_rule, with_account, with_service, with_client}
use Rattle.desk_state.proofs.Laws.{listed, service_player, service_account, service_stands, kept_client}
use Rattle.desk_history.specs.Ledger.{Line, Claims, Book, Ledger, no_claims, no_line, opening, in_service, changing, noticing, becoming}
use Rattle.desk_history.specs.Stored.{LikeLink, LikeAccount, LikeService, Agrees}
use Rattle.player_values.specs.Values.{source_of}
use Rattle.desk_history.proofs.Likeness.{like_blank, like_start, like_noted}

-- a list that is the same throughout
pub same_throughout : {A : Type 0} (n i : ℕ) (x e : A) → i < n → get_or (replicate n x) i e ≡ x
same_throughout zero i x e h = absurd (not-suc-le-zero h)
same_throughout (suc n) zero x e h = refl
same_throughout (suc n) (suc i) x e h = same_throughout n i x e (le_of_suc-le-suc h)

pub agree_start : (p q : Player) → Agrees (opening p q) (started_desk p q)
unfolding started_desk
agree_start p q =
    record {
      turn = refl;
      links = refl;
      link = λ c h. subst (LikeLink no_line) (sym (same_throughout client_count c start_link no_link h)) like_start;
      services = refl;
      service = at;
    }
  where
    fresh : (r : Player) → LikeService (record { player = r; account = λ c. no_claims }) (started_service r)
    fresh r =
        record {
          player = refl;
          long = refl;
          account = λ c h. subst (LikeAccount no_claims) (sym (same_throughout client_count c blank_account no_account h)) like_blank;
        }

    at : (v : ℕ) → v < service_count → LikeService ((opening p q).service v) (get_or (started_service p ∷ started_service q ∷ []) v no_service)
    at zero h = fresh p
    at (suc zero) h = fresh q
    at (suc (suc v)) h = absurd (let z : ⊥ = omega arith in z)

-- what a list has at each place, where one is another
pub at_each : {A : Type 0} (Fits : ℕ → A → Type 0) (s : List A) (i : ℕ) (y e : A) → i < length s → Fits i y
    → (j : ℕ) → ((j ≡ i → ⊥) → Fits j (get_or s j e)) → Fits j (get_or (set s i y) j e)
at_each Fits s i y e l new j old =
    elim (ℕ_discrete j i) [
      | yes q ↦ subst (λ (n : ℕ). Fits n (get_or (set s i y) n e)) (sym q) (subst (Fits i) (sym (get_or-set_same s i y e l)) new)
      | no n ↦ subst (Fits j) (sym (get_or-set_other s i j y e n)) (old n)
    ]

-- ---- of a service, one client's account
module _ (b : Book) (s : Service) (like : LikeService b s) (who : ℕ) (there : who < client_count) (a : Account) where
  inside : who < length s.accounts
  inside = subst (λ (n : ℕ). who < n) (sym like.long) there

  -- the book is another of that client only
  pub like_with : (m : Book) → m.player ≡ b.player → LikeAccount (m.account who) a → ((c : ℕ) → (c ≡ who → ⊥) → m.account c ≡ b.account c)
      → LikeService m (with_account who a s)
  unfolding with_account
  like_with m player new others =
      record {
        player = like.player ∙ sym player;
        long = length-set s.accounts who a ∙ like.long;
        account = λ c h.
            at_each (λ (c : ℕ). LikeAccount (m.account c)) s.accounts who a no_account inside new c
            (λ n. subst (λ (x : Claims). LikeAccount x (account_in s c)) (sym (others c n)) (like.account c h));
      }

  pub like_changing : (f : Claims → Claims) → LikeAccount (f (b.account who)) a → LikeService (changing who f b) (with_account who a s)
  like_changing f new =
      like_with (changing who f b) refl
      (subst (λ (t : Bool). LikeAccount (pick t (f (b.account who)) (b.account who)) a) (sym (eq-eqb who who refl)) new)
      (λ c n. ap (λ (t : Bool). pick t (f (b.account c)) (b.account c)) (ne_eqb c who n))

  -- 201
  pub account_kept : (groups tracks : List ℕ) (links : List Link) → service_rule groups tracks links s ≡ true → account_fits (link_at links who) a ≡ true
      → service_rule groups tracks links (with_account who a s) ≡ true
  unfolding with_account
  account_kept groups tracks links stands fits =
      service_stands groups tracks links (with_account who a s) (service_player groups tracks links s stands)
      (λ c h. at_each (λ (c : ℕ) (x : Account). account_fits (link_at links c) x ≡ true) s.accounts who a no_account inside fits c
      (λ n. service_account groups tracks links s stands c h))

-- ---- of a service, the player
at_place_lem : (f : ℕ → Account → Account) (j i : ℕ) (l : List Account) → i < length l → get_or (map_from f j l) i no_account ≡ f (j + i) (get_or l i no_account)
at_place_lem f j i [] h = absurd (not-suc-le-zero h)
at_place_lem f j zero (a ∷ l) h = ap (λ (n : ℕ). f n a) (sym (add-zero j))
at_place_lem f j (suc i) (a ∷ l) h = at_place_lem f (suc j) i l (le_of_suc-le-suc h) ∙ ap (λ (n : ℕ). f n (get_or l i no_account)) (suc-add j i ∙ sym (add-suc j i))

map_length : (f : ℕ → Account → Account) (j : ℕ) (l : List Account) → length (map_from f j l) ≡ length l
map_length f j [] = refl
map_length f j (a ∷ l) = ap suc (map_length f (suc j) l)

-- 18 never falls due by a change of values
quiet_control : (k : Lent) (p q : Player) (cause : Cause) (who : ℕ) → has (due_to (source_of k) p q cause who) control_slot ≡ false
unfolding due_to characteristic_of is_in
quiet_control k p q cause who =
    set_has (λ s. falls_due (changed (source_of k) p q (characteristic_of s)) (track_changed p q) (characteristic_of s) && not (spared cause who (characteristic_of s))) slot_count control_slot (omega arith)
    ∙ none (changed (source_of k) p q 18) (track_changed p q) (not (spared cause who 18)) (changed_unread (source_of k) p q 18 refl)
  where
    none : (a t s : Bool) → a ≡ false → ((a || (t && false)) && s) ≡ false
    none true t s e = ap (λ (b : Bool). b && s) e
    none false true s e = refl
    none false false s e = refl

-- 201: an account that is told keeps its rule
told_fits : (l : Link) (a : Account) (due altered : ℕ) → has due control_slot ≡ false → account_fits l a ≡ true → account_fits l (noted due altered a) ≡ true
unfolding noted
told_fits l a due altered quiet fits =
    ⊎_elim
    (λ q.
    let f = connected_fit l a fits q in
    fit_connected l (noted due altered a) q (record { account = kept_noted a f.account due altered quiet; safe = f.safe }))
    (λ q. blank_unconnected l (noted due altered a) q (kept_blank a due altered (unconnected_blank l a fits q)))
    (true_or l.connected)

module _ (k : Lent) (b : Book) (s : Service) (like : LikeService b s) where
  abbrev tells : Player → Player → Cause → ℕ → Account → Account
  tells p q cause who a = noted (due_to (source_of k) p q cause who) (altered_of (source_of k) p q) a

  -- a client's account, once it is told
  told : (cause : Cause) (q : Player) (c : ℕ) → c < client_count → account_in (settled (source_of k) cause q s) c ≡ tells s.player q cause c (account_in s c)
  unfolding settled
  told cause q c h =
      at_place_lem (tells s.player q cause) 0 c s.accounts (subst (λ (n : ℕ). c < n) (sym like.long) h)
      ∙ ap (λ (n : ℕ). tells s.player q cause n (account_in s c)) (zero-add c)

  pub like_becoming : (cause : Player → Cause) (f : Player → Player)
      → LikeService (becoming k (cause b.player) (f b.player) b) (settled (source_of k) (cause s.player) (f s.player) s)
  unfolding settled
  like_becoming cause f =
      record {
        player = ap f like.player;
        long = map_length (tells s.player (f s.player) (cause s.player)) 0 s.accounts ∙ like.long;
        account = λ c h.
            subst (LikeAccount (noticing k b.player (f b.player) (cause b.player) c (b.account c))) (sym (told (cause s.player) (f s.player) c h))
            (subst (λ (p : Player). LikeAccount (noticing k p (f p) (cause p) c (b.account c)) (tells s.player (f s.player) (cause s.player) c (account_in s c))) like.player
            (like_noted (b.account c) (account_in s c) (like.account c h) k s.player (f s.player) (cause s.player) c));
      }

  pub settled_stands : (links : List Link) → service_rule k.groups k.tracks links s ≡ true → (cause : Cause) (q : Player) → player_rule k.groups k.tracks q ≡ true
      → service_rule k.groups k.tracks links (settled (source_of k) cause q s) ≡ true
  unfolding settled
  settled_stands links stands cause q right =
      service_stands k.groups k.tracks links (settled (source_of k) cause q s) right
      (λ c h.
      ap (account_fits (link_at links c)) (told cause q c h)
      ∙ told_fits (link_at links c) (account_in s c) _ _ (quiet_control k s.player q cause c) (service_account k.groups k.tracks links s stands c h))

-- ---- of the whole, one service; one client's record
module _ (L : Ledger) (d : Desk) (agrees : Agrees L d) where
  pub agree_service : (v : ℕ) → v < service_count → (f : Book → Book) (s : Service) → LikeService (f (L.service v)) s → Agrees (in_service v f L) (with_service v s d)
  unfolding with_service
  agree_service v there f s new =
      record {
        turn = agrees.turn;
        links = agrees.links;
        link = agrees.link;
        services = length-set d.services v s ∙ agrees.services;
        service = λ w h.
            at_each (λ (w : ℕ). LikeService ((in_service v f L).service w)) d.services v s no_service (subst (λ (n : ℕ). v < n) (sym agrees.services) there)
            (subst (λ (t : Bool). LikeService (pick t (f (L.service v)) (L.service v)) s) (sym (eq-eqb v v refl)) new) w
            (λ n. subst (λ (t : Bool). LikeService (pick t (f (L.service w)) (L.service w)) (service_at d w)) (sym (ne_eqb w v n)) (agrees.service w h));
      }

  module _ (who : ℕ) (there : who < client_count) (c' : Client) where
    -- the ledger is another of that client only, and whoever is served last
    pub agree_client : (m : Ledger) → LikeLink (m.link who) c'.link → ((c : ℕ) → (c ≡ who → ⊥) → m.link c ≡ L.link c)
        → ((v : ℕ) → v < service_count → LikeService (m.service v) (with_account who (account_with c' v) (service_at d v)))
        → (turn : ℕ) → turn ≡ m.turn → Agrees m (record { services = (with_client who c' d).services; links = (with_client who c' d).links; turn = turn })
    unfolding with_client
    agree_client m line others each turn e =
        record {
          turn = e;
          links = length-set d.links who c'.link ∙ agrees.links;
          link = λ c h.
              at_each (λ (c : ℕ). LikeLink (m.link c)) d.links who c'.link no_link (subst (λ (n : ℕ). who < n) (sym agrees.links) there) line c
              (λ n. subst (λ (x : Line). LikeLink x (link_at d.links c)) (sym (others c n)) (agrees.link c h));
          services = refl;
          service = λ v h.
              subst (LikeService (m.service v)) (sym (listed (λ (v : ℕ). with_account who (account_with c' v) (service_at d v)) service_count v no_service h)) (each v h);
        }

    pub client_kept : (groups tracks : List ℕ) → desk_rule groups tracks d ≡ true → client_rule c' ≡ true → desk_rule groups tracks (with_client who c' d) ≡ true
    client_kept groups tracks stands rule =
        kept_client groups tracks d stands who c' (subst (λ (n : ℕ). who < n) (sym agrees.links) there)
        (λ v h. subst (λ (n : ℕ). who < n) (sym (agrees.service v h).long) there) rule
