-- When things go quiet (SCOPE 21.11 and 21.12), of the library that C links, over every history of SCOPE 21.3. What C hears and what its writes returned is
-- read off numbers, words and outputs; what is owed and what is present is the ledger's. Assumes nothing.
use mathlib.Core.Path.{◌≡◌, refl, ap, ◌∙◌}
use mathlib.Core.Bool.{true, false}
use mathlib.Core.Option.{Option, none, some}
use mathlib.Core.List.{List, [], ◌++◌}
use Prim.Native.Nat.{ℕ, ◌≤◌, ◌<◌}
use lib.ListN.{length}
use Rattle.ground.specs.Cases.{pick}
use Rattle.catalogue_titles.specs.Lent.{Lent}
use Rattle.desk_slots.specs.Slots.{service_count, client_count}
use Rattle.desk_console.specs.Console.{Beginning}
use Rattle.desk_history.specs.Calls.{Call, take, left}
use Rattle.desk_history.specs.Ledger.{owes}
use Rattle.desk_history.specs.Rounds.{Handout}
use Rattle.desk_history.specs.History.{ledger_at, desk_at, onward, subscribed_at}
use Rattle.desk_quiet.specs.Quiet.{OnlyTakes, Quiet, most_owed}
use Rattle.desk_quiet.specs.Known.{Claimed, learnt_by, newest, changed_since, learnt, present_at, AllOctets}
use Rattle.desk_quiet.proofs.Quiet as desk
use Rattle.mcs_history.specs.Library.{Made, other, taken, Run, started, then, answered_with, learnt_from}
use Rattle.mcs_history.proofs.Demand3.{hears_made, answers, right, gt, nt}

module _ (k : Lent) (gen nam : Beginning) where
  -- what a call returned is what its definition says after the history
  returned : {h : List Call} {call : Call} {state state' : List ℕ} {o : Option Handout} → Run k gen nam h state → (m : Made k call state state' o)
      → answered_with m ≡ (left k call (desk_at k gen nam h)).said.number
  returned run (other call no-take l) = answers k gen nam call run l
  returned run (taken {out = out} t) = answers k gen nam (take (length out)) run t.leaves

  -- so what a client learnt from the library is what it learnt by the definitions
  learnt_is : (who v s : ℕ) {h : List Call} {state : List ℕ} (run : Run k gen nam h state) → learnt_from who v s run ≡ learnt k gen nam who v s h
  learnt_is who v s (started l) = refl
  learnt_is who v s (then {h = h} {call = call} run m) =
      λ i. pick (subscribed_at k gen nam who v s h) (learnt_by who v s call (returned run m i) (hears_made k gen nam run m i) ++ learnt_is who v s run i) []

  module _ {h : List Call} {state : List ℕ} (run : Run k gen nam h state) where
    -- SCOPE 21.11: "once only takes with enough room are called, after at most 168 takes nothing more is owed"
    pub quiet_by_the_168th : (ks : List Call) → OnlyTakes ks → most_owed ≤ length ks → Quiet (ledger_at k gen nam (onward k gen nam h ks))
    quiet_by_the_168th ks only enough = desk.quiet_by_the_168th k (right k gen nam run) gen nam (gt k gen nam run) (nt k gen nam run) h ks only enough

    -- and where nothing is owed, a take says so
    pub then_takes_say_so : {room : ℕ} {state' : List ℕ} {o : Option Handout} → Quiet (ledger_at k gen nam h) → Made k (take room) state state' o → o ≡ none
    then_takes_say_so {room} quiet m = hears_made k gen nam run m ∙ desk.then_takes_say_so k (right k gen nam run) gen nam (gt k gen nam run) (nt k gen nam run) h room quiet

    -- whenever a slot but 7 and 18 is not owed, and it changed since the client subscribed, what the client learnt of it last is the present value
    pub known_unless_owed : (who v s : ℕ) → who < client_count → v < service_count → Claimed s → AllOctets h → subscribed_at k gen nam who v s h ≡ true
        → owes (((ledger_at k gen nam h).service v).account who) s ≡ false → changed_since k gen nam who v s h ≡ true
        → newest (learnt_from who v s run) ≡ some (present_at k gen nam who v s h)
    known_unless_owed who v s client service claimed octets subscribed unowed changed =
        ap newest (learnt_is who v s run) ∙ desk.known_unless_owed k (right k gen nam run) gen nam (gt k gen nam run) (nt k gen nam run) who v s client service claimed h octets subscribed unowed changed

  -- SCOPE 21.12: "Then for every subscribed slot but 7 and 18 that changed since subscribing, what the client last took, or itself wrote with success since, is
  -- the present value as far as ATT_MTU − 3 reaches."; after any history h and then enough takes, in any run of all of these calls
  pub then_screens_agree : (h ks : List Call) {state : List ℕ} (run : Run k gen nam (onward k gen nam h ks) state) → OnlyTakes ks → most_owed ≤ length ks
      → (who v s : ℕ) → who < client_count → v < service_count → Claimed s → AllOctets h
      → subscribed_at k gen nam who v s (onward k gen nam h ks) ≡ true → changed_since k gen nam who v s (onward k gen nam h ks) ≡ true
      → newest (learnt_from who v s run) ≡ some (present_at k gen nam who v s (onward k gen nam h ks))
  then_screens_agree h ks run only enough who v s client service claimed octets subscribed changed =
      ap newest (learnt_is who v s run)
      ∙ desk.then_screens_agree k (right k gen nam run) gen nam (gt k gen nam run) (nt k gen nam run) who v s client service claimed h ks only enough octets subscribed changed
