-- What waits for a client at a slot of a service, and at a place of its round. Assumes nothing.
use mathlib.Core.Path.{◌≡◌, refl, sym, ap, ◌∙◌, subst}
use mathlib.Core.Bool.{Bool, true, false, ◌||◌}
use mathlib.Core.Logic.{◌⊎◌, inl, inr, ⊎_elim}
use mathlib.Core.List.{map, List, [], ◌∷◌}
use Prim.Native.Nat.{ℕ, zero, suc, ◌≤◌, ◌<◌, zero-le, suc-le-suc}
use native.Mathlib.Nat.{le_refl, not-suc-le-zero}
use native.Mathlib.Decide.{ℕ_discrete}
use native.Mathlib.Omega.{arith}
use lib.Dec.{eqb}
use lib.ListN.{length}
use Rattle.ground.specs.Cases.{pick}
use Rattle.ground.proofs.Cases.{clash}
use Rattle.desk_slots.specs.Slots.{slot_count, place_count, place_of, service_of, slot_at}
use Rattle.desk_slots.proofs.PlaceLaws.{service_of_place, slot_of_place}
use Rattle.desk_client.specs.declared.Entry.{Entry}
use Rattle.desk_client.specs.Client.{control_slot, is_control}
use Rattle.desk_take.specs.Serving.{result_octets}
use Rattle.desk_history.specs.Ledger.{Claims, Ledger, any_waits as any, owes, owed_at, any_below, owed_any}

-- how many things wait at a slot; for client who at a place
abbrev pub backlog : Claims → ℕ → ℕ
backlog x s = pick (is_control s) (length x.waiting) (pick (x.due s) 1 0)

abbrev pub backlog_at : Ledger → ℕ → ℕ → ℕ
backlog_at L who place = backlog ((L.service (service_of place)).account who) (slot_at place)

any_of : {A : Type 0} (l : List A) → 1 ≤ length l → any l ≡ true
any_of [] h = absurd (not-suc-le-zero h)
any_of (x ∷ l) h = refl

pub owes_of : (x : Claims) (s : ℕ) → 1 ≤ backlog x s → owes x s ≡ true
owes_of x s = go (eqb s control_slot) (x.due s)
  where
    go : (t b : Bool) → 1 ≤ pick t (length x.waiting) (pick b 1 0) → pick t (any x.waiting) b ≡ true
    go true b h = any_of x.waiting h
    go false true h = refl
    go false false h = absurd (not-suc-le-zero h)

pub owes_to : (x : Claims) (s : ℕ) → owes x s ≡ true → 1 ≤ backlog x s
owes_to x s = go (eqb s control_slot) (x.due s) x.waiting
  where
    go : (t b : Bool) (l : List Entry) → pick t (any l) b ≡ true → 1 ≤ pick t (length l) (pick b 1 0)
    go true b [] h = clash h
    go true b (e ∷ l) h = suc-le-suc zero-le
    go false true l h = le_refl 1
    go false false l h = clash h

-- something is owed where a slot is, and then a slot is
any_below_lem : (n : ℕ) (test : ℕ → Bool) (i : ℕ) → i < n → test i ≡ true → any_below n test ≡ true
unfolding any_below
any_below_lem zero test i h e = absurd (not-suc-le-zero h)
any_below_lem (suc n) test i h e = at (any_below n test) (test n) refl refl (any_below_lem n test i)
  where
    at : (a b : Bool) → any_below n test ≡ a → test n ≡ b → (i < n → test i ≡ true → any_below n test ≡ true) → (a || b) ≡ true
    at true b p q ih = refl
    at false true p q ih = refl
    at false false p q ih =
        ⊎_elim (λ (w : i ≡ n). clash (sym (ap test w ∙ q) ∙ e)) (λ (w : i < n). clash (sym p ∙ ih w e)) (split i n h)
      where
        split : (x y : ℕ) → x < suc y → (x ≡ y) ⊎ (x < y)
        split x y l = elim (ℕ_discrete x y) [ yes z ↦ inl z | no z ↦ inr (omega arith) ]

below_any : (n : ℕ) (test : ℕ → Bool) → any_below n test ≡ true → (i : ℕ) × (i < n) × (test i ≡ true)
unfolding any_below
below_any zero test e = clash e
below_any (suc n) test e = at (any_below n test) (test n) refl refl e (below_any n test)
  where
    at : (a b : Bool) → any_below n test ≡ a → test n ≡ b → (a || b) ≡ true → (any_below n test ≡ true → (i : ℕ) × (i < n) × (test i ≡ true))
        → (i : ℕ) × (i < suc n) × (test i ≡ true)
    at true b p q h ih = let w = ih p in (w.0, omega (arith, w.1), w.2)
    at false true p q h ih = (n, omega arith, q)
    at false false p q h ih = clash h

pub owed_any_lem : (L : Ledger) (who place : ℕ) → place < place_count → owed_at L who place ≡ true → owed_any L who ≡ true
unfolding owed_any
owed_any_lem L who place h e = any_below_lem place_count (owed_at L who) place h e

pub any_owed : (L : Ledger) (who : ℕ) → owed_any L who ≡ true → (place : ℕ) × (place < place_count) × (owed_at L who place ≡ true)
unfolding owed_any
any_owed L who e = below_any place_count (owed_at L who) e

-- at the place of a service's slot, what that service owes at that slot
module _ (L : Ledger) (who v s : ℕ) (h : s < slot_count) where
  at_place_lem : {A : Type 0} (f : Claims → ℕ → A)
      → f ((L.service (service_of (place_of v s))).account who) (slot_at (place_of v s)) ≡ f ((L.service v).account who) s
  at_place_lem f = λ i. f ((L.service (service_of_place v s h i)).account who) (slot_of_place v s h i)

  pub owed_at_lem : owed_at L who (place_of v s) ≡ owes ((L.service v).account who) s
  owed_at_lem = at_place_lem owes

  pub backlog_at_lem : backlog_at L who (place_of v s) ≡ backlog ((L.service v).account who) s
  backlog_at_lem = at_place_lem backlog

-- as many results wait as the list has
pub results_backlog : (x : Claims) (j : ℕ) → j ≤ length (map result_octets x.waiting) → j ≤ backlog x control_slot
results_backlog x j h = subst (λ (n : ℕ). j ≤ n) (long x.waiting) h
  where
    long : (l : List Entry) → length (map result_octets l) ≡ length l
    long [] = refl
    long (e ∷ l) = ap suc (long l)
