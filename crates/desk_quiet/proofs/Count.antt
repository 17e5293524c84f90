-- How many things are owed to all clients: at most as many as there is room for, and one less after each take with enough room, until there are none.
-- Assumes nothing.
use mathlib.Core.Path.{◌≡◌, refl, sym, ap, ◌∙◌, subst}
use mathlib.Core.Bool.{Bool, true, false, not, ◌&&◌}
use mathlib.Core.Logic.{⊎_elim}
use mathlib.Core.List.{List, ◌∷◌}
use Prim.Native.Nat.{ℕ, suc, ◌-◌, ◌≤◌, ◌<◌, zero-le}
use native.Mathlib.Nat.{le_refl, le_antisymm}
use native.Mathlib.Omega.{arith}
use borrow.Author.Tests.{le-ltb, leb-true, leb-false}
use lib.Dec.{eqb, leb}
use lib.ListN.{length}
use Rattle.ground.specs.Cases.{pick}
use Rattle.ground.specs.Limits.{least_output}
use Rattle.ground.specs.Lists.{sum_below}
use Rattle.ground.proofs.Cases.{clash, le_or, true_or}
use Rattle.ground.proofs.Bounded.{sum_within, sum_at_most, sum_same, sum_one_more}
use Rattle.catalogue_titles.specs.Lent.{Lent, lent_rule}
use Rattle.player_check.specs.Standing.{text_rule}
use Rattle.desk_slots.specs.Slots.{service_count, place_count, client_count, place_of, service_of, slot_at}
use Rattle.desk_slots.proofs.NextLaws.{next_nearest}
use Rattle.desk_slots.proofs.PlaceLaws.{service_there, slot_there, place_there}
use Rattle.desk_client.specs.Client.{most_results, control_slot, is_control}
use Rattle.desk_client.proofs.Rule.{few_results}
use Rattle.desk_state.specs.Desk.{link_at, service_at, account_in}
use Rattle.desk_state.proofs.Laws.{account_stands}
use Rattle.desk_console.specs.Console.{Beginning}
use Rattle.desk_history.specs.Calls.{Call, take}
use Rattle.desk_history.specs.Ledger.{Ledger, owes, owed_at, owed_any, next_in, place_in, serving_at, taking, after}
use Rattle.desk_history.specs.History.{ledger_at, desk_at, onward}
use Rattle.desk_history.proofs.Serving.{backlog_at, owes_of, owes_to, owed_any_lem, backlog_at_lem}
use Rattle.desk_history.proofs.LedgerLaws.{InRange, slot_near, serving_next, place_takes, place_keeps, client_keeps}
use Rattle.desk_history.proofs.Exchanges.{as_many}
use Rattle.desk_history.proofs.Agree.{ok, in_range}
use Rattle.desk_quiet.specs.Quiet.{OnlyTakes, no_call, a_take, Quiet, most_owed}

-- to a client, and to all
abbrev pub owed_to : Ledger → ℕ → ℕ
owed_to L who = sum_below place_count (backlog_at L who)

abbrev pub owed_count : Ledger → ℕ
owed_count L = sum_below client_count (owed_to L)

-- one less where an owed place is served
one_less : (L : Ledger) (who p : ℕ) → who < client_count → p < place_count → owed_at L who p ≡ true → owed_count L ≡ suc (owed_count (serving_at L who p))
one_less L who p client place owed =
    sum_one_more (owed_to L) (owed_to (serving_at L who p)) client_count who client
    (sum_one_more (backlog_at L who) (backlog_at (serving_at L who p) who) place_count p place (place_takes L who p owed) (place_keeps L who p))
    (λ c n. sum_same (backlog_at L c) (backlog_at (serving_at L who p) c) place_count (λ q h. client_keeps L who p c q n))

of_nothing : sum_below client_count (λ c. sum_below place_count (λ q. 0)) ≡ 0
unfolding sum_below
of_nothing = refl

-- whoever is owed anything is counted
module _ (L : Ledger) where
  counted : (who p : ℕ) → who < client_count → p < place_count → backlog_at L who p ≤ owed_count L
  counted who p client place = omega (arith, sum_within (backlog_at L who) place_count p place, sum_within (owed_to L) client_count who client)

  pub none_owed : owed_count L ≡ 0 → Quiet L
  none_owed none who v s client service slot =
      ⊎_elim
      (λ (e : owes ((L.service v).account who) s ≡ true).
      absurd (let z : ⊥ = omega (arith, owes_to ((L.service v).account who) s e, backlog_at_lem L who v s slot, counted who (place_of v s) client (place_there v s service slot), none) in z))
      (λ e. e)
      (true_or (owes ((L.service v).account who) s))

  -- and where nothing is owed, nothing is counted
  none_counted : ((c q : ℕ) → c < client_count → q < place_count → owed_at L c q ≡ false) → owed_count L ≡ 0
  none_counted unowed =
      le_antisymm
      (subst (λ (n : ℕ). owed_count L ≤ n) of_nothing
      (sum_at_most (owed_to L) (λ c. sum_below place_count (λ q. 0)) client_count
      (λ c client. sum_at_most (backlog_at L c) (λ q. 0) place_count
      (λ q place. ⊎_elim (λ l. l) (λ l. clash (sym (unowed c q client place) ∙ owes_of ((L.service (service_of q)).account c) (slot_at q) l)) (le_or (backlog_at L c q) 0)))))
      zero-le

  pub quiet_owes_nothing : Quiet L → owed_count L ≡ 0
  quiet_owes_nothing quiet = none_counted (λ c q client place. quiet c (service_of q) (slot_at q) client (service_there q place) (slot_there q))

  nobody_next : InRange L → client_count ≤ next_in L → owed_count L ≡ 0
  unfolding next_in
  nobody_next good over =
      none_counted (λ c q client place.
      ⊎_elim
      (λ (e : owed_at L c q ≡ true).
      absurd (let z : ⊥ = omega (arith, (next_nearest client_count (owed_any L) L.turn good.0 c client (owed_any_lem L c q place e)).inside, over) in z))
      (λ e. e)
      (true_or (owed_at L c q)))

-- a take with enough room: one less, or none still
take_counts : (k : Lent) (L : Ledger) → InRange L → (room : ℕ) → least_output ≤ room → owed_count (after k (take room) L) ≡ owed_count L - 1
take_counts k L good room enough =
    ap (λ (t : Bool). owed_count (pick (not t && true) (taking L (next_in L)) L)) (le-ltb room least_output enough) ∙ go (leb client_count (next_in L)) refl
  where
    go : (t : Bool) → leb client_count (next_in L) ≡ t → owed_count (pick t L (serving_next L)) ≡ owed_count L - 1
    go true e = let none = nobody_next L good (leb-true client_count (next_in L) e) in omega (arith, none)
    go false e =
        let inside = leb-false client_count (next_in L) e in
        let near = slot_near L good inside in
        omega (arith, one_less L (next_in L) (place_in L (next_in L)) inside near.inside near.holds)

module _ (k : Lent) (right : lent_rule k ≡ true) (gen nam : Beginning) (gt : text_rule gen.name ≡ true) (nt : text_rule nam.name ≡ true) where
  abbrev ledger : List Call → Ledger
  ledger h = ledger_at k gen nam h

  -- as many less as there were takes
  pub takes_count : (h ks : List Call) → OnlyTakes ks → owed_count (ledger (onward k gen nam h ks)) ≡ owed_count (ledger h) - length ks
  takes_count h ks no_call = omega arith
  takes_count h ks (a_take {room = room} {ks = rest} enough more) =
      takes_count (take room ∷ h) rest more ∙ omega (arith, take_counts k (ledger h) (in_range k right gen nam gt nt h) room enough)

  -- and never more than there is room for: a value of each slot but 18, and as many results as may wait
  few_waiting : (h : List Call) (who v : ℕ) → who < client_count → v < service_count → length (((ledger h).service v).account who).waiting ≤ most_results
  few_waiting h who v client service =
      let d = desk_at k gen nam h in
      let o = ok k right gen nam gt nt h in
      let link = link_at d.links who in
      let account = account_in (service_at d v) who in
      let fits = account_stands k.groups k.tracks d o.1 v who service client in
      omega (arith, as_many (((ledger h).service v).account who) link account ((o.0.service v service).account who client) fits, few_results link account fits)

  abbrev room_at : ℕ → ℕ
  room_at p = pick (is_control (slot_at p)) most_results 1

  all_rooms : sum_below client_count (λ c. sum_below place_count room_at) ≡ most_owed
  unfolding sum_below slot_at
  all_rooms = refl

  pub most_owed_lem : (h : List Call) → owed_count (ledger h) ≤ most_owed
  most_owed_lem h =
      subst (λ (n : ℕ). owed_count (ledger h) ≤ n) all_rooms
      (sum_at_most (owed_to (ledger h)) (λ c. sum_below place_count room_at) client_count
      (λ c client. sum_at_most (backlog_at (ledger h) c) room_at place_count
      (λ p place. fits (eqb (slot_at p) control_slot) ((((ledger h).service (service_of p)).account c).due (slot_at p)) _
      (few_waiting h c (service_of p) client (service_there p place)))))
    where
      fits : (t b : Bool) (n : ℕ) → n ≤ most_results → pick t n (pick b 1 0) ≤ pick t most_results 1
      fits true b n few = few
      fits false true n few = le_refl 1
      fits false false n few = zero-le
