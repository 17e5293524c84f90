-- When things go quiet (SCOPE 21.11 and 21.12), sentence by sentence, over every history of SCOPE 21.3: any list of calls with any arguments, accepted or
-- refused. What is owed is the ledger's, from the calls and the rules alone. What is learnt is what the takes hand out and what the writes that are answered 0
-- carry (`specs/Known.antt`). Assumes nothing.
use mathlib.Core.Path.{◌≡◌, refl, sym, ap, ◌∙◌}
use mathlib.Core.Bool.{Bool, true, false}
use mathlib.Core.Option.{none, some}
use mathlib.Core.List.{List, ◌∷◌}
use Prim.Native.Nat.{ℕ, zero, suc, ◌-◌, ◌≤◌, ◌<◌}
use native.Mathlib.Omega.{arith}
use borrow.Author.Tests.{leb-false}
use lib.Dec.{leb}
use lib.ListN.{length, take as firsts}
use Rattle.ground.specs.Cases.{pick}
use Rattle.ground.proofs.Cases.{clash}
use Rattle.catalogue_titles.specs.Lent.{Lent, lent_rule}
use Rattle.player_check.specs.Standing.{text_rule}
use Rattle.desk_slots.specs.Slots.{service_count, client_count, characteristic_of, service_of, slot_at}
use Rattle.desk_slots.proofs.PlaceLaws.{service_there, slot_there}
use Rattle.player_values.specs.Values.{source_of, value_of}
use Rattle.desk_console.specs.Console.{Beginning}
use Rattle.desk_history.specs.Calls.{Call, take}
use Rattle.desk_history.specs.Ledger.{Ledger, owes, next_in, place_in, may_take}
use Rattle.desk_history.specs.History.{answer_in, handed_out, ledger_at, desk_at, onward, subscribed_at}
use Rattle.desk_history.specs.Reached.{one_track, plain, takes}
use Rattle.desk_history.proofs.LedgerLaws.{slot_near}
use Rattle.desk_history.proofs.Agree.{hands_at, in_range}
use Rattle.desk_history.proofs.Reached.{one_track_right, no_name_right}
use Rattle.desk_quiet.specs.Quiet.{OnlyTakes, no_call, a_take, Quiet, most_owed}
use Rattle.desk_quiet.specs.Known.{Claimed, newest, changed_since, learnt, present_at, AllOctets}
use Rattle.desk_quiet.specs.Full.{full_history}
use Rattle.desk_quiet.proofs.Count.{owed_count, none_owed, quiet_owes_nothing, takes_count, most_owed_lem}
use Rattle.desk_quiet.proofs.Full.{full_owes}
use Rattle.desk_quiet.proofs.Fate.{shown_to, shown_octets}
use Rattle.desk_quiet.proofs.Known.{slot_not_18, knows_present}

-- SCOPE 21.11: "168 is 4 clients times (2 times 13 values plus 2 times 8 results)."
pub hundred_sixty_eight : most_owed ≡ 168
hundred_sixty_eight = refl

only_takes : (n : ℕ) → OnlyTakes (takes n)
only_takes zero = no_call
only_takes (suc n) = a_take {room = 128} (omega arith) (only_takes n)

module _ (k : Lent) (right : lent_rule k ≡ true) (gen nam : Beginning) (gt : text_rule gen.name ≡ true) (nt : text_rule nam.name ≡ true) where
  abbrev ledger : List Call → Ledger
  ledger h = ledger_at k gen nam h

  abbrev then : List Call → List Call → List Call
  then h ks = onward k gen nam h ks

  -- each take with enough room leaves one thing less owed, until there is none
  pub each_take_one_less : (h ks : List Call) → OnlyTakes ks → owed_count (ledger (then h ks)) ≡ owed_count (ledger h) - length ks
  each_take_one_less h ks only = takes_count k right gen nam gt nt h ks only

  -- SCOPE 21.11: "once only takes with enough room are called, after at most 168 takes nothing more is owed"
  pub quiet_by_the_168th : (h ks : List Call) → OnlyTakes ks → most_owed ≤ length ks → Quiet (ledger (then h ks))
  quiet_by_the_168th h ks only enough =
      none_owed (ledger (then h ks)) (let most = most_owed_lem k right gen nam gt nt h in omega (arith, each_take_one_less h ks only, most))

  -- and a take then says so
  pub then_takes_say_so : (h : List Call) (room : ℕ) → Quiet (ledger h) → handed_out k (take room) (desk_at k gen nam h) ≡ none
  then_takes_say_so h room quiet = hands_at k right gen nam gt nt (take room) h ∙ go (may_take room) (leb client_count (next_in (ledger h))) refl
    where
      L : Ledger
      L = ledger_at k gen nam h

      go : (t u : Bool) → leb client_count (next_in L) ≡ u → pick t (pick u none (some (answer_in k L (next_in L)))) none ≡ none
      go true true e = refl
      go true false e =
          let inside = leb-false client_count (next_in L) e in
          let near = slot_near L (in_range k right gen nam gt nt h) inside in
          let place = place_in L (next_in L) in
          clash (sym (quiet (next_in L) (service_of place) (slot_at place) inside (service_there place near.inside) (slot_there place)) ∙ near.holds)
      go false u e = refl

  module _ (who v s : ℕ) (client : who < client_count) (service : v < service_count) (claimed : Claimed s) where
    -- whenever such a slot is not owed, and it changed since the client subscribed, what the client learnt of it last is the present value
    pub known_unless_owed : (h : List Call) → AllOctets h → subscribed_at k gen nam who v s h ≡ true → owes (((ledger h).service v).account who) s ≡ false
        → changed_since k gen nam who v s h ≡ true → newest (learnt k gen nam who v s h) ≡ some (present_at k gen nam who v s h)
    known_unless_owed h octets subscribed unowed changed =
        knows_present k right gen nam gt nt who v s client claimed.slot claimed.but_position claimed.but_results h octets subscribed unowed changed

    -- SCOPE 21.12: "Then for every subscribed slot but 7 and 18 that changed since subscribing, what the client last took, or itself wrote with success since,
    -- is the present value as far as ATT_MTU − 3 reaches."
    pub then_screens_agree : (h ks : List Call) → OnlyTakes ks → most_owed ≤ length ks → AllOctets h → subscribed_at k gen nam who v s (then h ks) ≡ true
        → changed_since k gen nam who v s (then h ks) ≡ true → newest (learnt k gen nam who v s (then h ks)) ≡ some (present_at k gen nam who v s (then h ks))
    then_screens_agree h ks only enough octets subscribed changed =
        known_unless_owed (then h ks) (takes_write_nothing h ks only octets) subscribed (quiet_by_the_168th h ks only enough who v s client service claimed.slot) changed
      where
        takes_write_nothing : (h ks : List Call) → OnlyTakes ks → AllOctets h → AllOctets (then h ks)
        takes_write_nothing h ks no_call o = o
        takes_write_nothing h ks (a_take {room = room} {ks = rest} enough more) o = takes_write_nothing (take room ∷ h) rest more (tt, o)

  -- so two clients with one ATT_MTU know the same of it
  pub two_know_the_same : (a b v s : ℕ) → a < client_count → b < client_count → v < service_count → Claimed s → (h : List Call) → AllOctets h → Quiet (ledger h)
      → subscribed_at k gen nam a v s h ≡ true → subscribed_at k gen nam b v s h ≡ true
      → changed_since k gen nam a v s h ≡ true → changed_since k gen nam b v s h ≡ true → ((ledger h).link a).mtu ≡ ((ledger h).link b).mtu
      → newest (learnt k gen nam a v s h) ≡ newest (learnt k gen nam b v s h)
  two_know_the_same a b v s a-client b-client service claimed h octets quiet a-wants b-wants a-changed b-changed same =
      known_unless_owed a v s a-client service claimed h octets a-wants (quiet a v s a-client service claimed.slot) a-changed
      ∙ ap some (present a ∙ (λ i. firsts (same i - 3) (value_of (source_of k) ((ledger h).service v).player (characteristic_of s))) ∙ sym (present b))
      ∙ sym (known_unless_owed b v s b-client service claimed h octets b-wants (quiet b v s b-client service claimed.slot) b-changed)
    where
      -- whatever waits for the client at 18
      present : (who : ℕ) → present_at k gen nam who v s h ≡ shown_to k who v s ((ledger_at k gen nam h).link who) ((ledger_at k gen nam h).service v).player
      present who =
          shown_octets k who v s (slot_not_18 s claimed.but_results) ((ledger_at k gen nam h).service v) ((ledger_at k gen nam h).link who)

-- and 168 is reached: after this history and 167 takes something is owed still
pub hundred_sixty_eight_reached : Quiet (ledger_at one_track plain plain (onward one_track plain plain full_history (takes 167))) → ⊥
hundred_sixty_eight_reached quiet =
    let left = each_take_one_less one_track one_track_right plain plain no_name_right no_name_right full_history (takes 167) (only_takes 167) in
    let none = quiet_owes_nothing (ledger_at one_track plain plain (onward one_track plain plain full_history (takes 167))) quiet in
    omega (arith, left, none, full_owes)
