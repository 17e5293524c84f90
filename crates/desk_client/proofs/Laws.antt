-- Records that keep the clients' part of 201, and the queue of results: pushing appends, popping drops the oldest. Assumes nothing.
use mathlib.Core.Path.{◌≡◌, refl, sym, ap, ◌∙◌}
use mathlib.Core.Bool.{Bool, true, false, ◌&&◌, ◌||◌}
use mathlib.Core.List.{List, [], ◌∷◌, ◌++◌}
use Prim.Native.Nat.{ℕ, suc, ◌-◌, ◌<◌, ◌≤◌}
use native.Mathlib.Nat.{le_of_suc-le-suc, not-suc-le-zero}
use native.Mathlib.Numerals.{add-one}
use native.Mathlib.Omega.{arith}
use borrow.Author.Tests.{lt-ltb, ne_eqb}
use lib.ListN.{length, take, drop}
use lib.Seq.{take-suc-set, take-append-le}
use Rattle.ground.specs.Cases.{pick, has}
use Rattle.ground.specs.Lists.{all_below}
use Rattle.desk_slots.specs.Slots.{inter, only_slots, slot_of}
use Rattle.desk_client.specs.declared.Link.{Link}
use Rattle.desk_client.specs.declared.Account.{Account}
use Rattle.desk_client.specs.Client.{mtu_right, control_slot, most_results, blank_entry, blank_rule, account_rule, link_rule, account_fits, client_rule, blank_account, start_link, connected_link, blank_client}
use Rattle.desk_client.specs.Queue.{queue_of, pushed, popped}

-- the control point's slot is the table's
pub control_slot_lem : slot_of 18 ≡ control_slot
unfolding slot_of
control_slot_lem = refl

-- start's link keeps the rule, and so does a new one; and the blank account fits both
pub start_link_stands : link_rule start_link ≡ true
unfolding link_rule start_link
start_link_stands = refl

pub connected_link_stands : (mtu : ℕ) (encrypted : Bool) → mtu_right mtu ≡ true → link_rule (connected_link mtu encrypted) ≡ true
unfolding link_rule connected_link
connected_link_stands mtu encrypted e = rw e

pub blank_fits : (l : Link) → account_fits l blank_account ≡ true
unfolding account_fits account_rule blank_rule blank_account only_slots inter has all_below
blank_fits l = at l.connected l.encrypted
  where
    at : (t u : Bool) → pick t (true && (u || true)) true ≡ true
    at true true = refl
    at true false = refl
    at false u = refl

-- a record that no service owes anything keeps the rule where its link does
pub blank_client_stands : (l : Link) → link_rule l ≡ true → client_rule (blank_client l) ≡ true
unfolding client_rule all_below
blank_client_stands l e = rw (e, blank_fits l)

dropped : {A : Type 0} (n : ℕ) (xs : List A) (b : A) → n < length xs → take n (drop 1 xs ++ (b ∷ [])) ≡ drop 1 (take (suc n) xs)
dropped n [] b h = absurd (not-suc-le-zero h)
dropped n (x ∷ xs) b h = take-append-le n xs (b ∷ []) (le_of_suc-le-suc h)

module _ (a : Account) (long : length a.results ≡ most_results) where
  pub push_appends : (opcode code : ℕ) → a.waiting < most_results → queue_of (pushed opcode code a) ≡ queue_of a ++ (record { opcode = opcode; code = code } ∷ [])
  unfolding pushed
  push_appends opcode code h =
      let l : a.waiting < length a.results = omega arith in
      rw (lt-ltb a.waiting 8 h, add-one a.waiting) (take-suc-set a.results a.waiting (record { opcode = opcode; code = code }) l)

  pub pop_drops : 0 < a.waiting → a.waiting ≤ most_results → queue_of (popped a) ≡ drop 1 (queue_of a)
  unfolding popped
  pop_drops p h =
      let z : a.waiting ≡ 0 → ⊥ = λ q. omega arith in
      let w : a.waiting ≡ suc (a.waiting - 1) = omega arith in
      rw (ne_eqb a.waiting 0 z)
      (dropped (a.waiting - 1) a.results blank_entry (omega arith) ∙ ap (λ (n : ℕ). drop 1 (take n a.results)) (sym w))
