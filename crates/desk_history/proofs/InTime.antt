-- Everything that waits is handed out in time: the ledger is a fair system, and the desk hands out what it says. Assumes nothing.
use mathlib.Core.Path.{◌≡◌, sym, subst}
use mathlib.Core.Bool.{true}
use mathlib.Core.List.{List}
use Prim.Native.Nat.{ℕ, ◌*◌, ◌≤◌, ◌<◌}
use lib.ListN.{length, take as firsts}
use Rattle.catalogue_titles.specs.Lent.{Lent, lent_rule}
use Rattle.player_check.specs.Standing.{text_rule}
use Rattle.desk_slots.specs.Slots.{slot_count, service_count, place_count, client_count, place_of}
use Rattle.desk_slots.proofs.PlaceLaws.{place_there}
use Rattle.desk_console.specs.Console.{Beginning}
use Rattle.desk_history.specs.Calls.{Call}
use Rattle.desk_history.specs.Ledger.{Ledger}
use Rattle.desk_history.specs.Rounds.{Handout, count_for}
use Rattle.desk_history.specs.History.{ledger_at, given, bound, Stays}
use Rattle.desk_history.proofs.Fairness.{in_time}
use Rattle.desk_history.proofs.Serving.{backlog, backlog_at_lem}
use Rattle.desk_history.proofs.LedgerLaws.{ledger_system, laws}
use Rattle.desk_history.proofs.Agree.{given_is, in_range, keeps_on}

module _ (k : Lent) (right : lent_rule k ≡ true) (gen nam : Beginning) (gt : text_rule gen.name ≡ true) (nt : text_rule nam.name ≡ true) where
  abbrev ledger : List Call → Ledger
  ledger h = ledger_at k gen nam h

  module _ (who v s : ℕ) (client : who < client_count) (service : v < service_count) (slot : s < slot_count) (h ks : List Call) (stays : Stays k gen nam who v s h ks) where
    pub many_in_time : (j : ℕ) → j ≤ backlog (((ledger h).service v).account who) s → bound * j ≤ length (given k gen nam h ks)
        → j ≤ count_for who (place_of v s) (firsts (bound * j) (given k gen nam h ks))
    many_in_time j waits enough =
        subst (λ (l : List Handout). j ≤ count_for who (place_of v s) (firsts (bound * j) l)) (sym (given_is k right gen nam gt nt h ks))
        (in_time (ledger_system k) client_count place_count (laws k) who (place_of v s) client (place_there v s service slot) j ks (ledger h) (in_range k right gen nam gt nt h)
        (keeps_on k right gen nam gt nt who v s slot h ks stays)
        (subst (λ (n : ℕ). j ≤ n) (sym (backlog_at_lem (ledger h) who v s slot)) waits)
        (subst (λ (l : List Handout). bound * j ≤ length l) (given_is k right gen nam gt nt h ks) enough))
