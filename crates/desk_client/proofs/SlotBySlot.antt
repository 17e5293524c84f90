-- What becomes of an account, slot by slot: who is subscribed to what, what is owed, and which results wait. Assumes nothing.
use mathlib.Core.Path.{◌≡◌, refl, sym, ap, ◌∙◌}
use mathlib.Core.Bool.{Bool, true, false, not, ◌&&◌, ◌||◌}
use mathlib.Core.List.{[], ◌∷◌, ◌++◌}
use Prim.Native.Nat.{ℕ, ◌+◌, ◌-◌, ◌≤◌, ◌<◌}
use native.Mathlib.Omega.{arith}
use borrow.Author.Tests.{ne_eqb, lt-ltb}
use lib.Dec.{eqb, ltb}
use lib.ListN.{length, take, drop, set}
use Rattle.ground.specs.Cases.{pick, has}
use Rattle.ground.proofs.Cases.{past, here}
use Rattle.desk_slots.specs.Slots.{insert, remove, inter}
use Rattle.desk_slots.proofs.SlotLaws.{has_insert, has_remove, has_union, has_inter, has_minus}
use Rattle.desk_client.specs.declared.Entry.{Entry}
use Rattle.desk_client.specs.declared.Account.{Account}
use Rattle.desk_client.specs.Client.{control_slot, is_control, most_results}
use Rattle.desk_client.specs.Setters.{with_slots, with_owed, with_queue}
use Rattle.desk_client.specs.Queue.{queue_of, without_oldest, pushed, popped}
use Rattle.desk_client.specs.Duties.{joined, dropped, noted, was_read, resulted, result_taken, served}
use Rattle.desk_client.proofs.Laws.{push_appends, pop_drops}

module _ (a : Account) where
  -- subscribing
  pub joined_subscribed : (s t : ℕ) → has (joined s a).subscribed t ≡ (has a.subscribed t || eqb s t)
  unfolding joined
  joined_subscribed s t = has_insert a.subscribed s t

  pub joined_owed : (s : ℕ) → (joined s a).owed ≡ a.owed
  unfolding joined
  joined_owed s = refl

  pub joined_queue : (s : ℕ) → queue_of (joined s a) ≡ queue_of a
  unfolding joined
  joined_queue s = refl

  -- unsubscribing
  pub dropped_subscribed : (s t : ℕ) → has (dropped s a).subscribed t ≡ (has a.subscribed t && not (eqb s t))
  unfolding dropped
  dropped_subscribed s t = has_remove a.subscribed s t

  pub dropped_owed : (s t : ℕ) → has (dropped s a).owed t ≡ (has a.owed t && not (eqb s t))
  unfolding dropped
  dropped_owed s t = has_remove a.owed s t

  pub dropped_queue : (s : ℕ) → queue_of (dropped s a) ≡ pick (eqb s control_slot) [] (queue_of a)
  unfolding dropped
  dropped_queue s = choose (eqb s control_slot)
    where
      choose : (t : Bool) → take (pick t 0 a.waiting) a.results ≡ pick t [] (take a.waiting a.results)
      choose true = refl
      choose false = refl

  -- values changed
  pub noted_subscribed : (due altered : ℕ) → (noted due altered a).subscribed ≡ a.subscribed
  unfolding noted
  noted_subscribed due altered = refl

  pub noted_owed : (due altered t : ℕ) → has (noted due altered a).owed t ≡ (has a.owed t || (has a.subscribed t && has due t))
  unfolding noted
  noted_owed due altered t = has_union a.owed (inter a.subscribed due) t ∙ ap (λ (b : Bool). has a.owed t || b) (has_inter a.subscribed due t)

  pub noted_queue : (due altered : ℕ) → queue_of (noted due altered a) ≡ queue_of a
  unfolding noted
  noted_queue due altered = refl

  pub noted_fresh : (due altered x : ℕ) → has (noted due altered a).fresh x ≡ (has a.fresh x && not (has altered x))
  unfolding noted
  noted_fresh due altered x = has_minus a.fresh altered x

  -- a read at 0
  pub read_fresh : (y x : ℕ) → has (was_read y a).fresh x ≡ (has a.fresh x || eqb y x)
  unfolding was_read
  read_fresh y x = has_insert a.fresh y x

-- a result falls due: nothing to a client that is not subscribed to 18, else one more behind those that wait
module _ (a : Account) (opcode code : ℕ) where
  abbrev entry : Entry
  entry = record { opcode = opcode; code = code }

  pub resulted_none : has a.subscribed control_slot ≡ false → resulted opcode code a ≡ a
  unfolding resulted
  resulted_none e = sym (past _ e refl)

  pub resulted_subscribed : (resulted opcode code a).subscribed ≡ a.subscribed
  unfolding resulted pushed
  resulted_subscribed = go (has a.subscribed control_slot) (ltb a.waiting most_results)
    where
      go : (t u : Bool) → (pick t (with_owed (insert a.owed control_slot) (pick u (with_queue (a.waiting + 1) (set a.results a.waiting entry) a) a)) a).subscribed ≡ a.subscribed
      go true true = refl
      go true false = refl
      go false u = refl

  module _ (wants : has a.subscribed control_slot ≡ true) (room : a.waiting < most_results) where
    pub resulted_is : resulted opcode code a ≡ with_slots a.subscribed (insert a.owed control_slot) (a.waiting + 1) (set a.results a.waiting entry) a
    unfolding resulted pushed
    resulted_is =
        sym (here _ wants refl) ∙ ap (with_owed (insert a.owed control_slot)) (sym (here _ (lt-ltb a.waiting most_results room) refl))

    pub resulted_owed : (t : ℕ) → has (resulted opcode code a).owed t ≡ (has a.owed t || eqb control_slot t)
    resulted_owed t = ap (λ (r : Account). has r.owed t) resulted_is ∙ has_insert a.owed control_slot t

    pub resulted_queue : length a.results ≡ most_results → queue_of (resulted opcode code a) ≡ queue_of a ++ (entry ∷ [])
    unfolding pushed
    resulted_queue long =
        ap queue_of resulted_is ∙ sym (ap queue_of pushed_is) ∙ push_appends a long opcode code room
      where
        pushed_is : pushed opcode code a ≡ with_queue (a.waiting + 1) (set a.results a.waiting entry) a
        pushed_is = sym (here _ (lt-ltb a.waiting most_results room) refl)

-- a slot is served
module _ (a : Account) where
  pub served_value : (s : ℕ) → (s ≡ control_slot → ⊥) → served s a ≡ with_slots a.subscribed (remove a.owed s) a.waiting a.results a
  unfolding served
  served_value s n = sym (past _ (ne_eqb s control_slot n) refl)

  pub served_subscribed : (s : ℕ) → (served s a).subscribed ≡ a.subscribed
  unfolding served result_taken popped
  served_subscribed s = go (is_control s) (eqb a.waiting 0)
    where
      go : (t u : Bool)
          → (pick t (with_owed (pick (ltb 1 a.waiting) a.owed (remove a.owed control_slot)) (pick u a (with_queue (a.waiting - 1) (without_oldest a.results) a))) (with_owed (remove a.owed s) a)).subscribed
          ≡ a.subscribed
      go true true = refl
      go true false = refl
      go false u = refl

  module _ (some : 0 < a.waiting) where
    popped_is : popped a ≡ with_queue (a.waiting - 1) (without_oldest a.results) a
    unfolding popped
    popped_is = sym (past _ (ne_eqb a.waiting 0 (λ e. omega arith)) refl)

    -- 18: the oldest result goes, and the slot is owed as long as others wait
    pub served_result : served control_slot a
        ≡ with_slots a.subscribed (pick (ltb 1 a.waiting) a.owed (remove a.owed control_slot)) (a.waiting - 1) (without_oldest a.results) a
    unfolding served result_taken
    served_result = ap (with_owed (pick (ltb 1 a.waiting) a.owed (remove a.owed control_slot))) popped_is

    pub served_queue : length a.results ≡ most_results → a.waiting ≤ most_results → queue_of (served control_slot a) ≡ drop 1 (queue_of a)
    served_queue long few = ap queue_of served_result ∙ sym (ap queue_of popped_is) ∙ pop_drops a long some few
