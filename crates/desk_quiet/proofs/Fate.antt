-- What a call does to what a client that stays subscribed knows of a slot, but of 7 and 18: the value stays and nothing is learnt of it, or it falls due, or
-- the client learns the value that the call leaves. Assumes nothing.
use mathlib.Core.Path.{◌≡◌, refl, sym, ap, ◌∙◌, subst}
use mathlib.Core.Bool.{Bool, true, false, not, ◌&&◌, ◌||◌, true≢false}
use mathlib.Core.Option.{none, some}
use mathlib.Core.List.{List, [], ◌∷◌, ◌++◌, append-nil}
use Prim.Native.Nat.{ℕ, ◌-◌, ◌≤◌, ◌<◌}
use native.Mathlib.Decide.{ℕ_discrete}
use native.Mathlib.Omega.{arith}
use borrow.Author.Tests.{eq-eqb, ne_eqb, eqb-true}
use lib.Dec.{eqb, leb}
use lib.ListN.{take as firsts}
use lib.Seq.{take_all}
use Rattle.ground.specs.Cases.{pick}
use Rattle.ground.specs.Words.{Octs}
use Rattle.ground.specs.Refusals.{accepted}
use Rattle.ground.proofs.Cases.{clash, and_left, and_right, and_both, and_fails}
use Rattle.catalogue_check.specs.Catalogue.{Right}
use Rattle.catalogue_titles.specs.Lent.{Lent, catalogue_of}
use Rattle.player_state.specs.declared.Player.{Player}
use Rattle.player_state.specs.Player.{renamed, deactivated}
use Rattle.player_moves.specs.Clock.{advanced, activated}
use Rattle.player_values.specs.Values.{source_of, value_of}
use Rattle.desk_slots.specs.Slots.{slot_count, client_count, slot_of, characteristic_of, place_of, service_of, slot_at}
use Rattle.desk_slots.specs.Characteristics.{writer_knows, is_in}
use Rattle.desk_slots.proofs.PlaceLaws.{service_of_place, slot_of_place, place_again}
use Rattle.desk_client.specs.Client.{control_slot}
use Rattle.desk_notices.specs.declared.Cause.{Cause}
use Rattle.desk_notices.specs.Changes.{changed}
use Rattle.desk_notices.specs.Owed.{spared, no_writer, by_writer}
use Rattle.desk_notices.proofs.Differing.{changed_not, unchanged_self}
use Rattle.desk_console.specs.Console.{name_rows, activate_rows, service_rows, quiet_advance}
use Rattle.desk_exchange.specs.Write.{player_written}
use Rattle.desk_history.specs.Calls.{Call, set_name, activate, deactivate, advance, connect, disconnect, subscribe, unsubscribe, read, write, take}
use Rattle.desk_history.specs.Ledger.{Line, Claims, Book, Ledger, no_claims, line_of, no_line, in_service, changing, relinking, becoming, joining, leaving, reading, resulting, serving, passing, next_in, place_in, serving_at, may_connect, may_leave, may_join, may_read, may_write, may_take, outcome, result_of, control_writing, writing, after}
use Rattle.desk_history.specs.Rounds.{prepend}
use Rattle.desk_history.specs.History.{oldest, octets_in, answer_in, due_out, handouts_to}
use Rattle.desk_history.proofs.Exchanges.{w_in, w_long, w_allowed}
use Rattle.desk_history.proofs.Names.{neither}
use Rattle.desk_history.proofs.LedgerLaws.{serving_next, account_served, account_elsewhere, account_other}
use Rattle.desk_quiet.specs.Known.{own_write, learnt_by, slot_changes, WritesOctets}
use Rattle.desk_quiet.proofs.Writer.{writer_knows_lem, written_known}

-- by what is owed before and after, what is read before and after, whether it changed, and what was learnt
pub data Fate (due due' : Bool) (was now : List ℕ) (changes : Bool) (learns : List (List ℕ)) : Type 0 where
  stays : (due' ≡ false → due ≡ false) → now ≡ was → changes ≡ false → learns ≡ [] → Fate due due' was now changes learns
  falls : due' ≡ true → Fate due due' was now changes learns
  learns_it : learns ≡ now ∷ [] → Fate due due' was now changes learns

module _ (k : Lent) (who v s : ℕ) where
  -- the characteristic, and what of its value the client is shown
  abbrev about : ℕ
  about = characteristic_of s

  abbrev pub shown_to : Line → Player → List ℕ
  shown_to x p = firsts (x.mtu - 3) (value_of (source_of k) p about)

  -- and that is what a take hands out
  pub shown_octets : (s ≡ control_slot → ⊥) → (b : Book) (x : Line) → octets_in k b who x s ≡ shown_to x b.player
  shown_octets no_results b x =
      ap (λ (t : Bool). firsts (x.mtu - 3) (pick t (oldest (b.account who).waiting) (value_of (source_of k) b.player about))) (ne_eqb s control_slot no_results)

  -- of a client that is subscribed before and after
  abbrev FateOf : Line → Line → Book → Book → List (List ℕ) → Type 0
  FateOf x y b d learns =
      (b.account who).wants s ≡ true → (d.account who).wants s ≡ true
      → Fate ((b.account who).due s) ((d.account who).due s) (shown_to x b.player) (shown_to y d.player) (slot_changes k s b.player d.player) learns

  -- no player changes from itself
  unchanged : (p : Player) → slot_changes k s p p ≡ false
  unchanged p = let u = unchanged_self (source_of k) p about in λ i. u.0 i || (u.1 i && (eqb about 4 || eqb about 7))

  -- what waits for the client and what it wants stays with the player
  kept : (x : Line) (b d : Book) → d.player ≡ b.player → ((d.account who).wants s ≡ true → (d.account who).due s ≡ false → (b.account who).due s ≡ false) → FateOf x x b d []
  kept x b d same still w w' =
      stays (still w') (ap (shown_to x) same) (ap (slot_changes k s b.player) same ∙ unchanged b.player) refl

  same_fate : (x : Line) (b : Book) → FateOf x x b b []
  same_fate x b = kept x b b refl (λ w d. d)

  -- the service's player becomes another, and the client is not spared
  told : (x : Line) (cause : Cause) (q : Player) (b : Book) → spared cause who about ≡ false → FateOf x x b (becoming k cause q b) []
  told x cause q b owed w w' = go (slot_changes k s b.player q) refl
    where
      due' : ((becoming k cause q b).account who).due s ≡ ((b.account who).due s || (true && (slot_changes k s b.player q && not false)))
      due' = λ i. (b.account who).due s || (w i && (slot_changes k s b.player q && not (owed i)))

      go : (t : Bool) → slot_changes k s b.player q ≡ t
          → Fate ((b.account who).due s) (((becoming k cause q b).account who).due s) (shown_to x b.player) (shown_to x q) (slot_changes k s b.player q) []
      go true e = falls (due' ∙ (λ i. (b.account who).due s || (true && (e i && true))) ∙ or_true ((b.account who).due s))
        where
          or_true : (a : Bool) → (a || true) ≡ true
          or_true true = refl
          or_true false = refl
      go false e =
          stays
          (λ z. (neither ((b.account who).due s) _ (sym (due' ∙ (λ i. (b.account who).due s || (true && (e i && true)))) ∙ z)).0)
          (ap (firsts (x.mtu - 3)) (sym ((changed_not (source_of k) b.player q about).0 (neither (changed (source_of k) b.player q about) _ e).0)))
          e refl

  module _ (client : who < client_count) (not-position : about ≡ 7 → ⊥) (not-control : about ≡ 18 → ⊥) where
    -- nobody wrote, and a step of time spares 7 alone
    unspared : (quiet : Bool) → spared (no_writer quiet) who about ≡ false
    unfolding spared
    unspared quiet = rw (and_fails quiet (ne_eqb about 7 not-position), ne_eqb who client_count (λ e. omega (arith, e)))

    -- a write of another characteristic, or by another client
    unspared_by : (by c : ℕ) → (eqb who by && eqb about c) ≡ false → spared (by_writer by c) who about ≡ false
    unfolding spared
    unspared_by by c apart = go (eqb who by) (eqb about c) apart
      where
        go : (a b : Bool) → (a && b) ≡ false → ((false && eqb about 7) || (a && b && is_in writer_knows about)) ≡ false
        go true true e = clash (sym e)
        go true false e = refl
        go false b e = refl

    -- ---- of the whole ledger
    abbrev FateIn : Ledger → Ledger → List (List ℕ) → Type 0
    FateIn L M learns = FateOf (L.link who) (M.link who) (L.service v) (M.service v) learns

    in_service_lem : (t : Bool) (w : ℕ) (f : Book → Book) (L : Ledger) → ((x : Line) → FateOf x x (L.service v) (f (L.service v)) [])
        → FateIn L (pick t (in_service w f L) L) []
    in_service_lem true w f L new = go (eqb v w)
      where
        go : (u : Bool) → FateOf (L.link who) (L.link who) (L.service v) (pick u (f (L.service v)) (L.service v)) []
        go true = new (L.link who)
        go false = same_fate (L.link who) (L.service v)
    in_service_lem false w f L new = same_fate (L.link who) (L.service v)

    told_in : (t : Bool) (w : ℕ) (cause : Player → Cause) (q : Player → Player) (L : Ledger) → ((p : Player) → spared (cause p) who about ≡ false)
        → FateIn L (pick t (in_service w (λ b. becoming k (cause b.player) (q b.player) b) L) L) []
    told_in t w cause q L owed =
        let b = L.service v in
        in_service_lem t w (λ d. becoming k (cause d.player) (q d.player) d) L (λ x. told x (cause b.player) (q b.player) b (owed b.player))

    -- an account becomes another that owes no less of this slot, where it still wants it
    changing_in : (t : Bool) (w by : ℕ) (f : Claims → Claims) (L : Ledger) → ((a : Claims) → (f a).wants s ≡ true → (f a).due s ≡ false → a.due s ≡ false)
        → FateIn L (pick t (in_service w (changing by f) L) L) []
    changing_in t w by f L still =
        in_service_lem t w (changing by f) L (λ x. kept x (L.service v) (changing by f (L.service v)) refl (go (eqb who by)))
      where
        a : Claims
        a = (L.service v).account who

        go : (u : Bool) → (pick u (f a) a).wants s ≡ true → (pick u (f a) a).due s ≡ false → a.due s ≡ false
        go true w d = still a w d
        go false w d = d

    -- who is linked anew wants nothing
    relinking_in : (t : Bool) (by : ℕ) (line : Line) (L : Ledger) → FateIn L (pick t (relinking by line L) L) []
    relinking_in true by line L = go (eqb who by)
      where
        b : Book
        b = L.service v

        go : (u : Bool) → (b.account who).wants s ≡ true → (pick u no_claims (b.account who)).wants s ≡ true
            → Fate ((b.account who).due s) ((pick u no_claims (b.account who)).due s) (shown_to (L.link who) b.player) (shown_to (pick u line (L.link who)) b.player)
            (slot_changes k s b.player b.player) []
        go true w w' = clash w'
        go false w w' = stays (λ d. d) refl (unchanged b.player) refl
    relinking_in false by line L = same_fate (L.link who) (L.service v)

    -- ---- a write
    module _ (right : Right (catalogue_of k)) (L : Ledger) (room : 23 ≤ (L.link who).mtu) where
      abbrev book : Book
      book = L.service v

      -- its own write of this slot: it is shown what it wrote
      own_known : (value : List ℕ) → Octs value → may_write k L who v about value ≡ true
          → shown_to (L.link who) (writing k who about value book).player ≡ value
      own_known value octets may =
          let known = written_known k right book.player value octets about (writer_knows_lem about (w_in k L who v about value may) not-position not-control)
          (w_long k L who v about value may) (w_allowed k L who v about value may) in
          ap (λ (t : Bool). shown_to (L.link who) (pick t (control_writing k who value book) (becoming k (by_writer who about) (player_written (catalogue_of k) book.player about value) book)).player) (ne_eqb about 18 not-control)
          ∙ ap (firsts ((L.link who).mtu - 3)) known.0 ∙ take_all ((L.link who).mtu - 3) value (omega (arith, known.1))

      -- any other write to the service
      others_write : (by c : ℕ) (value : List ℕ) → (eqb who by && eqb about c) ≡ false → (x : Line) → FateOf x x book (writing k by c value book) []
      others_write by c value apart x = go (eqb c 18)
        where
          q : Player
          q = (outcome k book value).player

          e : spared (by_writer by 18) who about ≡ false
          e = unspared_by by 18 (and_fails (eqb who by) (ne_eqb about 18 not-control))

          -- the result of a control write is none of this slot's affair
          result : (u : Bool) → (book.account who).wants s ≡ true
              → (pick u (resulting (result_of k book value) ((becoming k (by_writer by 18) q book).account who)) ((becoming k (by_writer by 18) q book).account who)).wants s ≡ true
              → Fate ((book.account who).due s)
              ((pick u (resulting (result_of k book value) ((becoming k (by_writer by 18) q book).account who)) ((becoming k (by_writer by 18) q book).account who)).due s)
              (shown_to x book.player) (shown_to x q) (slot_changes k s book.player q) []
          result true = told x (by_writer by 18) q book e
          result false = told x (by_writer by 18) q book e

          go : (t : Bool) → FateOf x x book (pick t (control_writing k by value book) (becoming k (by_writer by c) (player_written (catalogue_of k) book.player c value) book)) []
          go true = result (eqb who by)
          go false = told x (by_writer by c) (player_written (catalogue_of k) book.player c value) book (unspared_by by c apart)

      write_fate : (by w c : ℕ) (value : List ℕ) (number : ℕ) → Octs value → eqb number 0 ≡ may_write k L by w c value
          → FateIn L (pick (may_write k L by w c value) (in_service w (writing k by c value) L) L) (own_write who v s number (write by w c value))
      write_fate by w c value number octets said =
          subst
          (λ (t : Bool). FateIn L (pick (may_write k L by w c value) (in_service w (writing k by c value) L) L) (pick (t && (eqb who by && (eqb v w && eqb about c))) (value ∷ []) []))
          (sym said) (go (may_write k L by w c value) refl)
        where
          -- to this service
          here_written : v ≡ w → may_write k L by w c value ≡ true → (t : Bool) → (eqb who by && eqb about c) ≡ t
              → FateOf (L.link who) (L.link who) book (writing k by c value book) (pick t (value ∷ []) [])
          here_written same may true mine wants wants' =
              let me = eqb-true who by (and_left (eqb who by) (eqb about c) mine) in
              let it = eqb-true about c (and_right (eqb who by) (eqb about c) mine) in
              learns_it (ap (λ (o : List ℕ). o ∷ []) (sym (
              subst (λ (n : ℕ). shown_to (L.link who) (writing k n c value book).player ≡ value) me
              (subst (λ (n : ℕ). shown_to (L.link who) (writing k who n value book).player ≡ value) it
              (own_known value octets ((λ i. may_write k L (me i) (same i) (it i) value) ∙ may))))))
          here_written same may false mine wants wants' = others_write by c value mine (L.link who) wants wants'

          go : (t : Bool) → may_write k L by w c value ≡ t
              → FateIn L (pick t (in_service w (writing k by c value) L) L) (pick (t && (eqb who by && (eqb v w && eqb about c))) (value ∷ []) [])
          go true may = at (eqb v w) refl
            where
              at : (u : Bool) → eqb v w ≡ u
                  → FateOf (L.link who) (L.link who) book (pick u (writing k by c value book) book) (pick (eqb who by && (u && eqb about c)) (value ∷ []) [])
              at true e = here_written (eqb-true v w e) may (eqb who by && eqb about c) refl
              at false e =
                  subst (FateOf (L.link who) (L.link who) book book) (λ i. pick (sym (and_fails (eqb who by) {b = false} refl) i) (value ∷ []) []) (same_fate (L.link who) book)
          go false may = same_fate (L.link who) book

    -- ---- a take: the octets that it hands to this client at this slot are what it is shown
    slot_is : s < slot_count → (p : ℕ) → place_of v s ≡ p → (v ≡ service_of p) × (s ≡ slot_at p)
    slot_is slot p e = (sym (service_of_place v s slot) ∙ ap service_of e, sym (slot_of_place v s slot) ∙ ap slot_at e)

    module _ (slot : s < slot_count) (no_results : s ≡ control_slot → ⊥) (L : Ledger) where
      -- serving a place alters no player and no ATT_MTU
      module _ (n p : ℕ) where
        abbrev served : Ledger
        served = serving_at L n p

        same_player : (served.service v).player ≡ (L.service v).player
        same_player = go (eqb v (service_of p))
          where
            go : (t : Bool) → (pick t (changing n (serving (slot_at p)) (L.service v)) (L.service v)).player ≡ (L.service v).player
            go true = refl
            go false = refl

        same_mtu : (served.link who).mtu ≡ (L.link who).mtu
        same_mtu = go (eqb who n)
          where
            go : (t : Bool) → (pick t (passing p (L.link who)) (L.link who)).mtu ≡ (L.link who).mtu
            go true = refl
            go false = refl

        same_shown : shown_to (served.link who) (served.service v).player ≡ shown_to (L.link who) (L.service v).player
        same_shown = λ i. firsts (same_mtu i - 3) (value_of (source_of k) (same_player i) about)

        -- another place than this one leaves what is owed here
        still_due : (eqb who n && eqb (place_of v s) p) ≡ false → ((served.service v).account who).due s ≡ ((L.service v).account who).due s
        still_due apart =
            elim (ℕ_discrete who n) [
              | no z ↦ ap (λ (a : Claims). a.due s) (account_other L n p v who z)
              | yes q ↦
                  elim (ℕ_discrete v (service_of p)) [
                    | no z ↦ ap (λ (a : Claims). a.due s) (account_elsewhere L n p v who z)
                    | yes z ↦
                        (λ i. (((serving_at L n p).service (z i)).account (q i)).due s)
                        ∙ ap (λ (a : Claims). a.due s) (account_served L n p)
                        ∙ other (eqb (slot_at p) s) (ne_eqb (slot_at p) s (λ e. true≢false (sym (and_both (eq-eqb who n q) (eq-eqb (place_of v s) p ((λ i. place_of (z i) (sym e i)) ∙ place_again p))) ∙ apart)))
                        ∙ sym (λ i. ((L.service (z i)).account (q i)).due s)
                  ]
            ]
          where
            other : (t : Bool) → t ≡ false → (((L.service (service_of p)).account n).due s && not t) ≡ ((L.service (service_of p)).account n).due s
            other true e = clash (sym e)
            other false e = and-true (((L.service (service_of p)).account n).due s)
              where
                and-true : (a : Bool) → (a && true) ≡ a
                and-true true = refl
                and-true false = refl

        serving_fate : (t : Bool) → (eqb who n && eqb (place_of v s) p) ≡ t
            → FateIn L served (pick t (octets_in k (L.service (service_of p)) n (L.link n) (slot_at p) ∷ []) [])
        serving_fate true mine wants wants' =
            let me = eqb-true who n (and_left (eqb who n) (eqb (place_of v s) p) mine) in
            let it = slot_is slot p (eqb-true (place_of v s) p (and_right (eqb who n) (eqb (place_of v s) p) mine)) in
            learns_it (ap (λ (o : List ℕ). o ∷ [])
            (sym (λ i. octets_in k (L.service (it.0 i)) (me i) (L.link (me i)) (it.1 i)) ∙ shown_octets no_results (L.service v) (L.link who) ∙ sym same_shown))
        serving_fate false mine wants wants' =
            stays (λ d. sym (still_due mine) ∙ d) same_shown (ap (slot_changes k s (L.service v).player) same_player ∙ unchanged (L.service v).player) refl

      take_fate : (room : ℕ) → FateIn L (after k (take room) L) (handouts_to who v s (prepend (due_out k (take room) L) []) ++ [])
      take_fate room = go (may_take room) (leb client_count (next_in L))
        where
          n : ℕ
          n = next_in L

          p : ℕ
          p = place_in L (next_in L)

          octets : List ℕ
          octets = octets_in k (L.service (service_of (place_in L (next_in L)))) (next_in L) (L.link (next_in L)) (slot_at (place_in L (next_in L)))

          go : (t u : Bool)
              → FateIn L (pick t (pick u L (serving_next L)) L) (handouts_to who v s (prepend (pick t (pick u none (some (answer_in k L (next_in L)))) none) []) ++ [])
          go true true = same_fate (L.link who) (L.service v)
          go true false =
              subst (FateIn L (serving_next L)) (sym (append-nil (pick (eqb who n && eqb (place_of v s) p) (octets ∷ []) [])))
              (serving_fate n p (eqb who n && eqb (place_of v s) p) refl)
          go false u = same_fate (L.link who) (L.service v)

      -- ---- every call; a write was answered 0 exactly where it was accepted
      abbrev pub Answered : Call → ℕ → Type 0
      Answered (set_name w name) number = Unit {0}
      Answered (activate w g) number = Unit {0}
      Answered (deactivate w) number = Unit {0}
      Answered (advance w step) number = Unit {0}
      Answered (connect by mtu encrypted) number = Unit {0}
      Answered (disconnect by) number = Unit {0}
      Answered (subscribe by w c) number = Unit {0}
      Answered (unsubscribe by w c) number = Unit {0}
      Answered (read by w c offset room) number = Unit {0}
      Answered (write by w c value) number = eqb number 0 ≡ may_write k L by w c value
      Answered (take room) number = Unit {0}

      pub fate : Right (catalogue_of k) → 23 ≤ (L.link who).mtu → (call : Call) (number : ℕ) → WritesOctets call → Answered call number
          → FateIn L (after k call L) (learnt_by who v s call number (due_out k call L))
      fate right m (set_name w name) number o a = told_in (accepted (name_rows w name)) w (λ p. no_writer false) (renamed name) L (λ p. unspared false)
      fate right m (activate w g) number o a =
          told_in (accepted (activate_rows k w g)) w (λ p. no_writer false) (activated k.groups k.tracks g) L (λ p. unspared false)
      fate right m (deactivate w) number o a = told_in (accepted (service_rows w)) w (λ p. no_writer false) deactivated L (λ p. unspared false)
      fate right m (advance w step) number o a =
          told_in (accepted (service_rows w)) w (λ p. no_writer (quiet_advance k.tracks step p)) (advanced k.groups k.tracks step) L (λ p. unspared (quiet_advance k.tracks step p))
      fate right m (connect by mtu encrypted) number o a = relinking_in (may_connect L by mtu) by (line_of true encrypted mtu) L
      fate right m (disconnect by) number o a = relinking_in (may_leave L by) by no_line L
      fate right m (subscribe by w c) number o a = changing_in (may_join L by w c) w by (joining (slot_of c)) L (λ x w' d. d)
      fate right m (unsubscribe by w c) number o a = changing_in (may_join L by w c) w by (leaving (slot_of c)) L (λ x. left_alone (x.wants s) (x.due s) (eqb (slot_of c) s))
        where
          left_alone : (wants due t : Bool) → (wants && not t) ≡ true → (due && not t) ≡ false → due ≡ false
          left_alone wants due true w d = clash (sym (and_fails wants refl) ∙ w)
          left_alone wants true false w d = d
          left_alone wants false false w d = refl
      fate right m (read by w c offset room) number o a = changing_in (may_read k L by w c offset room) w by (reading c offset) L (λ x w' d. d)
      fate right m (write by w c value) number o a = write_fate right L m by w c value number o a
      fate right m (take room) number o a = take_fate room
