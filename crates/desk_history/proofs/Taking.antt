-- A take: the desk serves whom the ledger serves, hands out what the ledger says, and stands and agrees afterwards. Assumes nothing.
use mathlib.Core.Path.{◌≡◌, refl, sym, ap, ◌∙◌, subst}
use mathlib.Core.Bool.{Bool, true, false, not, ◌||◌, true≢false}
use mathlib.Core.Logic.{⊎_elim}
use mathlib.Core.Option.{none, some}
use mathlib.Core.List.{List, [], ◌∷◌, ◌++◌, map}
use Prim.Native.Nat.{ℕ, zero, suc, ◌+◌, ◌-◌, ◌^◌, ◌<◌}
use native.Mathlib.Decide.{ℕ_discrete}
use native.Mathlib.Nat.{not-suc-le-zero}
use native.Mathlib.Omega.{arith}
use borrow.Author.Tests.{eq-eqb, ne_eqb, lt-ltb, ltb-true, leb-false}
use lib.Dec.{eqb, ltb, leb}
use lib.ListN.{length, get_or, take as firsts}
use Rattle.ground.specs.Cases.{pick, has}
use Rattle.ground.specs.Limits.{least_output}
use Rattle.ground.specs.Lists.{span}
use Rattle.ground.specs.Refusals.{Said, granted, Row, row, row_with, said_by, leaves}
use Rattle.ground.proofs.Rows.{said_of_lem}
use Rattle.ground.proofs.Cases.{past, here, clash, true_or}
use Rattle.desk_replies.specs.Replies.{state_right, fronted, link_of, account_of}
use Rattle.catalogue_titles.specs.Lent.{Lent, catalogue_of, lent_rule, renames_row}
use Rattle.catalogue_titles.proofs.Laws.{rules_kept}
use Rattle.catalogue_check.specs.Catalogue.{catalogue_rule, catalogue_carries}
use Rattle.player_state.specs.declared.Player.{Player}
use Rattle.player_values.specs.Values.{source_of, value_of}
use Rattle.desk_slots.specs.Slots.{slot_count, service_count, place_count, client_count, owing, slot_of, characteristic_of, place_of, service_of, slot_at}
use Rattle.desk_slots.specs.Round.{next}
use Rattle.desk_slots.proofs.Bits.{has_zero, no_slot}
use Rattle.desk_slots.proofs.NextLaws.{Nearest, next_hit, next_nearest, next_same}
use Rattle.desk_slots.proofs.PlaceLaws.{AllSets, has_places, places_lt, place_again, service_there, slot_there}
use Rattle.desk_slots.proofs.TableLaws.{slot_back}
use Rattle.desk_client.specs.declared.Entry.{Entry}
use Rattle.desk_client.specs.declared.Link.{Link}
use Rattle.desk_client.specs.declared.Account.{Account}
use Rattle.desk_client.specs.declared.Client.{Client}
use Rattle.desk_client.specs.Client.{control_slot, blank_entry, link_rule, account_fits, no_account, account_with, client_rule}
use Rattle.desk_client.specs.Setters.{with_mark}
use Rattle.desk_client.specs.Duties.{served, passed_on}
use Rattle.desk_client.proofs.Rule.{Fit, connected_linked, linked_connected, connected_fit, fit_connected, mark_within, owed_within, waits_when_owed, few_results, owed_connected, client_stands}
use Rattle.desk_client.proofs.Kept.{kept_served}
use Rattle.desk_client.proofs.SlotBySlot.{served_subscribed}
use Rattle.desk_state.specs.declared.Desk.{Desk}
use Rattle.desk_state.specs.Desk.{no_player, service_at, client_at, with_account, with_client}
use Rattle.desk_state.proofs.Laws.{listed, own_account, link_stands, turn_there, account_stands, desk_stands, service_there as service_stands}
use Rattle.desk_take.specs.Serving.{places_owed, next_place, result_octets, present_octets, player_at, handed_octets, handed_values, after_serving}
use Rattle.desk_take.specs.Take.{owed_sets, next_client, players_of, with_served, taken_by, take_call, take_octets}
use Rattle.desk_history.specs.Ledger.{Claims, Ledger, changing, serving, passing, any_waits as any, owes, owed_at, owed_any, next_in, place_in, serving_at, taking, may_take}
use Rattle.desk_history.specs.History.{oldest, octets_in, answer_in, spoken}
use Rattle.desk_history.specs.Stored.{LikeLink, LikeAccount, LikeService}
use Rattle.desk_history.proofs.Likeness.{like_passed, like_served}
use Rattle.desk_history.proofs.Agreement.{at_each, like_with, like_changing, agree_client, client_kept}
use Rattle.desk_history.proofs.Steps.{Ok, ok_call, guard, like_link}
use Rattle.desk_history.proofs.Exchanges.{as_many}
use Rattle.desk_history.proofs.Serving.{owed_any_lem, any_owed}

-- ---- one account: what is stored as owed is what the ledger owes
some_waits : (w : List Entry) → ltb 0 (length w) ≡ any w
some_waits [] = refl
some_waits (e ∷ w) = lt-ltb 0 (suc (length w)) (omega arith)

owed_slot : (x : Claims) (l : Link) (a : Account) → LikeAccount x a → account_fits l a ≡ true → (s : ℕ) → s < slot_count → has a.owed s ≡ owes x s
owed_slot x l a alike fits s h =
    elim (ℕ_discrete s control_slot) [
      | yes e ↦
          ap (has a.owed) e ∙ waits_when_owed l a fits ∙ ap (ltb 0) (sym (as_many x l a alike fits)) ∙ some_waits x.waiting ∙ here (x.due s) (eq-eqb s control_slot e) refl
      | no n ↦ alike.due s h n ∙ past (any x.waiting) (ne_eqb s control_slot n) refl
    ]

-- numbers that are sets of slots, listed
all_listed : (f : ℕ → ℕ) (n a : ℕ) → ((i : ℕ) → i < a + n → f i < 2 ^ slot_count) → AllSets (map f (span a n))
all_listed f zero a h = tt
all_listed f (suc n) a h = (h a (omega arith), all_listed f n (suc a) (λ i l. h i (omega arith)))

-- ---- the whole
module _ (k : Lent) (right : lent_rule k ≡ true) (L : Ledger) (d : Desk) (ok : Ok k L d) where
  turned : d.turn < client_count
  turned = turn_there k.groups k.tracks d ok.1

  -- a client, with every service
  module _ (who : ℕ) (there : who < client_count) where
    abbrev own : Client
    own = client_at d who

    abbrev set_owed : ℕ → ℕ
    set_owed v = (account_with (client_at d who) v).owed

    line : LikeLink (L.link who) (link_of d who)
    line = like_link k right L d ok who there

    stands : link_rule (link_of d who) ≡ true
    stands = link_stands k.groups k.tracks d ok.1 who there

    module _ (v : ℕ) (h : v < service_count) where
      alike : LikeAccount ((L.service v).account who) (account_of d who v)
      alike = (ok.0.service v h).account who there

      fits : account_fits (link_of d who) (account_of d who v) ≡ true
      fits = account_stands k.groups k.tracks d ok.1 v who h there

      is_own : account_with own v ≡ account_of d who v
      is_own = own_account d who v h

    all_sets : AllSets (map set_owed (span 0 service_count))
    all_sets =
        all_listed set_owed service_count 0
        (λ v h. subst (λ (a : Account). a.owed < 2 ^ slot_count) (sym (is_own v (omega arith))) (owed_within (link_of d who) (account_of d who v) (fits v (omega arith))))

    -- the places that are stored as owed are those that the ledger owes
    owed_bit : (place : ℕ) → place < place_count → has (places_owed own) place ≡ owed_at L who place
    unfolding places_owed
    owed_bit place h =
        let v = service_of place in
        let s = slot_at place in
        let t = service_there place h in
        ap (has (places_owed own)) (sym (place_again place))
        ∙ has_places (map set_owed (span 0 service_count)) all_sets v s (slot_there place)
        ∙ ap (λ (w : ℕ). has w s) (listed set_owed service_count v 0 t ∙ ap (λ (a : Account). a.owed) (is_own v t))
        ∙ owed_slot ((L.service v).account who) (link_of d who) (account_of d who v) (alike v t) (fits v t) s (slot_there place)

    -- the client is owed something
    owing_any : not (eqb (places_owed own) 0) ≡ owed_any L who
    unfolding places_owed
    owing_any = go (owed_any L who) refl
      where
        go : (t : Bool) → owed_any L who ≡ t → not (eqb (places_owed own) 0) ≡ t
        go true e =
            let w = any_owed L who e in
            ap not (ne_eqb (places_owed own) 0 (λ z. true≢false (sym (owed_bit w.0 w.1 ∙ w.2) ∙ ap (λ (v : ℕ). has v w.0) z ∙ has_zero w.0)))
        go false e =
            ap not (eq-eqb (places_owed own) 0 (no_slot place_count (places_owed own) (places_lt (map set_owed (span 0 service_count)) all_sets)
            (λ p h. ⊎_elim (λ (o : owed_at L who p ≡ true). clash (sym e ∙ owed_any_lem L who p h o)) (λ o. owed_bit p h ∙ o) (true_or (owed_at L who p)))))

    -- and the place that comes next
    place_same : next_place own ≡ place_in L who
    unfolding place_in client_at
    place_same =
        next_same place_count (has (places_owed own)) (owed_at L who) (link_of d who).mark (mark_within (link_of d who) stands) owed_bit
        ∙ ap (next place_count (owed_at L who)) line.last

  -- the same client comes next
  next_agrees : next_client d ≡ next_in L
  unfolding next_client next_in owing owed_sets
  next_agrees =
      next_same client_count (owing (owed_sets d)) (owed_any L) d.turn turned
      (λ c h. ap (λ (w : ℕ). not (eqb w 0)) (listed (λ (who : ℕ). places_owed (client_at d who)) client_count c 0 h) ∙ owing_any c h)
      ∙ ap (next client_count (owed_any L)) ok.0.turn

  module _ (inside : next_in L < client_count) where
    abbrev who : ℕ
    who = next_in L

    abbrev place : ℕ
    place = place_in L (next_in L)

    abbrev v : ℕ
    v = service_of (place_in L (next_in L))

    abbrev slot : ℕ
    slot = slot_at (place_in L (next_in L))

    -- the client's link, its account with the service that is served, and what the ledger says of it
    abbrev link : Link
    link = link_of d (next_in L)

    abbrev account : Account
    account = account_of d (next_in L) (service_of (place_in L (next_in L)))

    abbrev x : Claims
    x = (L.service (service_of (place_in L (next_in L)))).account (next_in L)

    near : Nearest client_count (owed_any L) L.turn who
    unfolding next_in
    near = next_hit client_count (owed_any L) L.turn (subst (λ (n : ℕ). n < client_count) ok.0.turn turned) inside

    -- the place that is served is owed
    near_place : Nearest place_count (owed_at L who) (L.link who).last place
    unfolding place_in
    near_place =
        let w = any_owed L who near.holds in
        next_nearest place_count (owed_at L who) (L.link who).last (subst (λ (n : ℕ). n < place_count) (line who inside).last (mark_within link (stands who inside))) w.0 w.1 w.2

    serviced : v < service_count
    serviced = service_there place near_place.inside

    fitting : account_fits link account ≡ true
    fitting = fits who inside v serviced

    like_account : LikeAccount x account
    like_account = alike who inside v serviced

    is_owed : has account.owed slot ≡ true
    is_owed = owed_slot x link account like_account fitting slot (slot_there place) ∙ near_place.holds

    waits : slot ≡ control_slot → 0 < account.waiting
    waits e = ltb-true 0 account.waiting (sym (waits_when_owed link account fitting) ∙ ap (has account.owed) (sym e) ∙ is_owed)

    connected : link.connected ≡ true
    connected = owed_connected link account fitting slot is_owed

    abbrev after : Client
    after = passed_on (place_in L (next_in L)) (client_at d (next_in L))

    -- the client's accounts afterwards: of the service that is served another, of the others as they were
    each_account : (Fits : ℕ → Account → Type 0) → Fits v (served slot account) → ((w : ℕ) → w < service_count → (w ≡ v → ⊥) → Fits w (account_of d who w))
        → (w : ℕ) → w < service_count → Fits w (account_with after w)
    unfolding passed_on client_at
    each_account Fits new others w h =
        at_each Fits (client_at d who).accounts v (served slot (account_with (client_at d who) v)) no_account serviced
        (subst (λ (a : Account). Fits v (served slot a)) (sym (is_own who inside v serviced)) new) w
        (λ n. subst (Fits w) (sym (is_own who inside w h)) (others w h n))

    served_rule : client_rule after ≡ true
    unfolding passed_on client_at
    served_rule =
        client_stands after
        (linked_connected (with_mark place link) connected
        (let l = connected_linked link (stands who inside) connected in record { mtu_from = l.mtu_from; mtu_to = l.mtu_to; marked = near_place.inside }))
        (each_account (λ w a. account_fits (with_mark place link) a ≡ true)
        (again (served slot account)
        (let f = connected_fit link account fitting connected in
        record {
          account = kept_served account f.account slot like_account.long is_owed;
          safe = ap (λ (n : ℕ). link.encrypted || eqb n 0) (served_subscribed account slot) ∙ f.safe;
        }))
        (λ w h n. again (account_of d who w) (connected_fit link (account_of d who w) (fits who inside w h) connected)))
      where
        -- the mark does not matter to an account
        again : (a : Account) → Fit link a → account_fits (with_mark place link) a ≡ true
        again a f = fit_connected (with_mark place link) a connected (record { account = f.account; safe = f.safe })

    served_like : (w : ℕ) → w < service_count → LikeService ((serving_at L who place).service w) (with_account who (account_with after w) (service_at d w))
    served_like =
        each_account (λ w a. LikeService ((serving_at L who place).service w) (with_account who a (service_at d w)))
        (subst (λ (t : Bool). LikeService (pick t (changing who (serving slot) (L.service v)) (L.service v)) (with_account who (served slot account) (service_at d v))) (sym (eq-eqb v v refl))
        (like_changing (L.service v) (service_at d v) (ok.0.service v serviced) who inside (served slot account) (serving slot)
        (like_served x account like_account slot (few_results link account fitting) waits)))
        (λ w h n.
        subst (λ (t : Bool). LikeService (pick t (changing who (serving slot) (L.service w)) (L.service w)) (with_account who (account_of d who w) (service_at d w))) (sym (ne_eqb w v n))
        (like_with (L.service w) (service_at d w) (ok.0.service w h) who inside (account_of d who w) (L.service w) refl (alike who inside w h) (λ c m. refl)))

    served_link : LikeLink ((serving_at L who place).link who) after.link
    unfolding passed_on client_at
    served_link =
        subst (λ (t : Bool). LikeLink (pick t (passing place (L.link who)) (L.link who)) (with_mark place link)) (sym (eq-eqb who who refl))
        (like_passed (L.link who) link (line who inside) place)

    served_ok : Ok k (serving_at L who place) (with_served who after d)
    unfolding with_served
    served_ok =
        let kept = client_kept L d ok.0 who inside after k.groups k.tracks ok.1 served_rule in (
          agree_client L d ok.0 who inside after (serving_at L who place) served_link
              (λ c n. ap (λ (t : Bool). pick t (passing place (L.link c)) (L.link c)) (ne_eqb c who n)) served_like who refl,
          desk_stands k.groups k.tracks (with_served who after d)
              (service_stands k.groups k.tracks (with_client who after d) kept) (link_stands k.groups k.tracks (with_client who after d) kept) inside,
        )

    -- what is handed out is what the ledger says
    first_result : (n : ℕ) (rs : List Entry) → 0 < n → 0 < length rs → result_octets (get_or rs 0 blank_entry) ≡ oldest (firsts n rs)
    first_result zero rs h m = absurd (not-suc-le-zero h)
    first_result (suc n) [] h m = absurd (not-suc-le-zero m)
    first_result (suc n) (e ∷ rs) h m = refl

    abbrev value : Player → List ℕ
    value p = value_of (source_of k) p (characteristic_of (slot_at (place_in L (next_in L))))

    present : present_octets k (service_at d v).player account slot ≡ pick (eqb slot control_slot) (oldest x.waiting) (value (L.service v).player)
    present = at (ℕ_discrete slot control_slot)
      where
        at : Dec (slot ≡ control_slot) → present_octets k (service_at d v).player account slot ≡ pick (eqb slot control_slot) (oldest x.waiting) (value (L.service v).player)
        at (yes e) =
            sym (here _ (eq-eqb slot control_slot e) refl)
            ∙ first_result account.waiting account.results (waits e) (omega (arith, like_account.long)) ∙ ap oldest like_account.waiting
            ∙ here _ (eq-eqb slot control_slot e) refl
        at (no n) = sym (past _ (ne_eqb slot control_slot n) refl) ∙ ap value (ok.0.service v serviced).player ∙ past _ (ne_eqb slot control_slot n) refl

    octets_agree : handed_octets k (players_of d) (client_at d who) ≡ octets_in k (L.service v) who (L.link who) slot
    unfolding handed_octets client_at
    octets_agree =
        ap (λ (p : ℕ). firsts (link.mtu - 3) (present_octets k (player_at (players_of d) (service_of p)) (account_with (client_at d who) (service_of p)) (slot_at p))) (place_same who inside)
        ∙ (λ i. firsts (link.mtu - 3) (present_octets k (listed (λ (w : ℕ). (service_at d w).player) service_count v no_player serviced i) (is_own who inside v serviced i) slot))
        ∙ (λ i. firsts ((line who inside).mtu i - 3) (present i))

    -- the place that is named is the one that was served
    place_named : place_of (service_of (next_place (client_at d who))) (slot_of (characteristic_of (slot_at (next_place (client_at d who))))) ≡ place
    place_named =
        ap (λ (p : ℕ). place_of (service_of p) (slot_of (characteristic_of (slot_at p)))) (place_same who inside)
        ∙ ap (place_of v) (slot_back slot (slot_there place)) ∙ place_again place

  taken_ok : Ok k (taking L (next_in L)) (taken_by k d (next_in L)).state
  taken_ok = go (leb client_count (next_in L)) refl
    where
      go : (t : Bool) → leb client_count (next_in L) ≡ t
          → Ok k (pick t L (serving_at L (next_in L) (place_in L (next_in L))))
          (pick t (leaves (granted []) d) (leaves (granted (next_in L ∷ handed_values k (players_of d) (client_at d (next_in L)))) (with_served (next_in L) (after_serving (client_at d (next_in L))) d))).state
      go true e = ok
      go false e =
          let h = leb-false client_count (next_in L) e in
          subst (λ (p : ℕ). Ok k (serving_at L (next_in L) (place_in L (next_in L))) (with_served (next_in L) (passed_on p (client_at d (next_in L))) d))
          (sym (place_same (next_in L) h)) (served_ok h)

  pub take_step : (room : ℕ) → Ok k (pick (may_take room) (taking L (next_in L)) L) (take_call k d room).state
  unfolding take_call
  take_step room =
      ok_call k right L d ok (ltb room least_output) (may_take room) [] _ (taking L (next_in L)) refl
      (λ e. subst (λ (n : ℕ). Ok k (taking L (next_in L)) (taken_by k d n).state) (sym next_agrees) taken_ok)

  -- the refusals of a take carry nothing where the catalogue is right
  no_values : (carried : List ℕ) (wrong misnamed small fallen : Bool) → wrong ≡ false
      → (said_by (row_with 200 carried wrong ∷ row 224 misnamed ∷ row 205 small ∷ row 201 fallen ∷ [])).values ≡ []
  no_values carried true misnamed small _ e = clash (sym e)
  no_values carried false true small _ e = refl
  no_values carried false false true _ e = refl
  no_values carried false false false true e = refl
  no_values carried false false false false e = refl

  -- what the desk says of a take, and what it hands out
  pub take_agrees : (room : ℕ) → spoken (take_call k d room).said.values (take_octets k d) ≡ pick (may_take room) (pick (leb client_count (next_in L)) none (some (answer_in k L (next_in L)))) none
  unfolding take_call take_octets
  take_agrees room =
      ap (λ (s : Said). spoken s.values (take_octets k d)) (said_of_lem d rows (taken_by k d (next_client d)) ∙ (λ i. pick (guard k right L d ok (ltb room least_output) [] i) (taken_by k d (next_agrees i)).said (said_by rows)))
      ∙ enough (may_take room)
    where
      rows : List Row
      rows = fronted k (ltb room least_output) d ++ []

      octets : ℕ → List ℕ
      octets n = pick (leb client_count n) [] (handed_octets k (players_of d) (client_at d n))

      serves : (u : Bool) → leb client_count (next_in L) ≡ u
          → spoken
          (pick u (leaves (granted []) d) (leaves (granted (next_in L ∷ handed_values k (players_of d) (client_at d (next_in L)))) (with_served (next_in L) (after_serving (client_at d (next_in L))) d))).said.values
          (pick u [] (handed_octets k (players_of d) (client_at d (next_in L))))
          ≡ pick u none (some (answer_in k L (next_in L)))
      serves true e = refl
      serves false e =
          let h = leb-false client_count (next_in L) e in
          λ i. some (record { client = next_in L; place = place_named h i; octets = octets_agree h i })

      enough : (t : Bool) → spoken (pick t (taken_by k d (next_in L)).said (said_by rows)).values (octets (next_client d))
          ≡ pick t (pick (leb client_count (next_in L)) none (some (answer_in k L (next_in L)))) none
      enough true = (λ i. spoken (taken_by k d (next_in L)).said.values (octets (next_agrees i))) ∙ serves (leb client_count (next_in L)) refl
      enough false = ap (λ (v : List ℕ). spoken v (octets (next_client d))) (no_values (catalogue_carries (catalogue_of k)) (not (catalogue_rule (catalogue_of k))) (renames_row k).applies (ltb room least_output) (not (state_right k d)) (ap not (rules_kept k right)))
