-- The laws of sets of slots, for any number n of slots: what is in each set, and its bound. Assumes nothing.
use mathlib.Core.Path.{◌≡◌, refl, sym, ap, ◌∙◌}
use mathlib.Core.Bool.{Bool, true, false, not, xor, ◌&&◌, ◌||◌, or-true, or-false, and-true, and-false}
use mathlib.Core.List.{List}
use mathlib.Core.Logic.{⊎_elim}
use Prim.Native.Nat.{ℕ, ◌+◌, ◌^◌, ◌≤◌, ◌<◌}
use native.Mathlib.Decide.{ℕ_discrete}
use native.Mathlib.Omega.{arith}
use borrow.Author.Tests.{eq-eqb, ne_eqb, eqb-true, ltb-true, lt-ltb}
use lib.Bits.{bit_and, xor_add_and, or_disjoint, or_lt, xor_lt, and_le_l}
use lib.Dec.{eqb, lit≤}
use lib.ListN.{get_or}
use lib.Pow.{pow_pos, pow-lt}
use Rattle.ground.specs.Cases.{has}
use Rattle.ground.proofs.Cases.{le_or, clash}
use Rattle.desk_slots.specs.Slots.{slot_count, every_slot, only_slots, insert, remove, union, inter, minus, owing}
use Rattle.desk_slots.proofs.Bits.{has_or, has_and, has_xor, has_pow, has_ones, has_above, has_bound, has_lt, no_slot, ext}

-- what is in each set
pub has_union : (w v s : ℕ) → has (union w v) s ≡ (has w s || has v s)
unfolding union
has_union = has_or

pub has_inter : (w v s : ℕ) → has (inter w v) s ≡ (has w s && has v s)
unfolding inter
has_inter = has_and

minus_bool : (a b : Bool) → xor a (a && b) ≡ (a && not b)
unfolding xor
minus_bool true true = refl
minus_bool true false = refl
minus_bool false b = refl

pub has_minus : (w v s : ℕ) → has (minus w v) s ≡ (has w s && not (has v s))
unfolding minus
has_minus w v s = has_xor w (bit_and w v) s ∙ ap (λ (b : Bool). xor (has w s) b) (has_and w v s) ∙ minus_bool (has w s) (has v s)

pub has_insert : (w s t : ℕ) → has (insert w s) t ≡ (has w t || eqb s t)
unfolding insert
has_insert w s t = has_or w (2 ^ s) t ∙ ap (λ (b : Bool). has w t || b) (has_pow s t)

pub has_remove : (w s t : ℕ) → has (remove w s) t ≡ (has w t && not (eqb s t))
unfolding remove minus
has_remove w s t = has_minus w (2 ^ s) t ∙ ap (λ (b : Bool). has w t && not b) (has_pow s t)

-- the bounds: no set has more slots than those that it is made of
pub union_lt : (n w v : ℕ) → w < 2 ^ n → v < 2 ^ n → union w v < 2 ^ n
unfolding union
union_lt = or_lt

pub inter_lt : (n w v : ℕ) → w < 2 ^ n → inter w v < 2 ^ n
unfolding inter
inter_lt n w v h = omega (arith, and_le_l w v)

pub minus_lt : (n w v : ℕ) → w < 2 ^ n → minus w v < 2 ^ n
unfolding minus
minus_lt n w v h = xor_lt n w (bit_and w v) h (omega (arith, and_le_l w v))

pub insert_lt : (n w s : ℕ) → w < 2 ^ n → s < n → insert w s < 2 ^ n
unfolding insert
insert_lt n w s h l = or_lt n w (2 ^ s) h (pow-lt l)

pub remove_lt : (n w s : ℕ) → w < 2 ^ n → remove w s < 2 ^ n
unfolding remove minus
remove_lt n w s h = minus_lt n w (2 ^ s) h

-- the slot that is put in or taken out, and the others
eqb_self : (k : ℕ) → eqb k k ≡ true
eqb_self k = eq-eqb k k refl

pub insert_same : (w s : ℕ) → has (insert w s) s ≡ true
insert_same w s = has_insert w s s ∙ ap (λ (b : Bool). has w s || b) (eqb_self s) ∙ or-true (has w s)

pub insert_other : (w s t : ℕ) → (s ≡ t → ⊥) → has (insert w s) t ≡ has w t
insert_other w s t h = has_insert w s t ∙ ap (λ (b : Bool). has w t || b) (ne_eqb s t h) ∙ or-false (has w t)

pub remove_same : (w s : ℕ) → has (remove w s) s ≡ false
remove_same w s = has_remove w s s ∙ ap (λ (b : Bool). has w s && not b) (eqb_self s) ∙ and-false (has w s)

pub remove_other : (w s t : ℕ) → (s ≡ t → ⊥) → has (remove w s) t ≡ has w t
remove_other w s t h = has_remove w s t ∙ ap (λ (b : Bool). has w t && not b) (ne_eqb s t h) ∙ and-true (has w t)

-- taking out a slot that is in lessens the number, which so is a measure
pub remove_sub : (n w s : ℕ) → w < 2 ^ n → has w s ≡ true → remove w s + 2 ^ s ≡ w
unfolding remove
remove_sub n w s h e =
    let l = has_lt n w s h e in
    let one : bit_and w (2 ^ s) ≡ 2 ^ s = ext n (bit_and w (2 ^ s)) (2 ^ s) (omega (arith, and_le_l w (2 ^ s))) (pow-lt l) (λ t k. at t (ℕ_discrete s t)) in
    let v = bit_and w (2 ^ s) in
    omega (arith, xor_add_and w v, ap (bit_and w) one ∙ one, one)
  where
    at : (t : ℕ) → Dec (s ≡ t) → has (bit_and w (2 ^ s)) t ≡ has (2 ^ s) t
    at t (yes q) = has_and w (2 ^ s) t ∙ ap (λ (b : Bool). b && has (2 ^ s) t) (ap (has w) (sym q) ∙ e)
    at t (no q) = has_and w (2 ^ s) t ∙ ap (λ (b : Bool). has w t && b) (has_pow s t ∙ ne_eqb s t q) ∙ and-false (has w t) ∙ sym (has_pow s t ∙ ne_eqb s t q)

pub remove_less : (n w s : ℕ) → w < 2 ^ n → has w s ≡ true → remove w s < w
remove_less n w s h e = omega (arith, remove_sub n w s h e, pow_pos s)

-- putting in a slot that is in, and taking out one that is not, changes nothing
or_in : (a b : Bool) → (b ≡ true → a ≡ true) → (a || b) ≡ a
or_in true b h = refl
or_in false true h = sym (h refl)
or_in false false h = refl

pub insert_in : (n w s : ℕ) → w < 2 ^ n → has w s ≡ true → insert w s ≡ w
insert_in n w s h e =
    ext n (insert w s) w (insert_lt n w s h (has_lt n w s h e)) h
    (λ t l. has_insert w s t ∙ or_in (has w t) (eqb s t) (λ q. ap (has w) (sym (eqb-true s t q)) ∙ e))

pub insert_add : (n w s : ℕ) → w < 2 ^ n → has w s ≡ false → insert w s ≡ w + 2 ^ s
unfolding insert
insert_add n w s h e =
    or_disjoint w (2 ^ s) (no_slot n (bit_and w (2 ^ s)) (omega (arith, and_le_l w (2 ^ s))) (λ t l. has_and w (2 ^ s) t ∙ at t (ℕ_discrete s t)))
  where
    at : (t : ℕ) → Dec (s ≡ t) → (has w t && has (2 ^ s) t) ≡ false
    at t (yes q) = ap (λ (b : Bool). b && has (2 ^ s) t) (ap (has w) (sym q) ∙ e)
    at t (no q) = ap (λ (b : Bool). has w t && b) (has_pow s t ∙ ne_eqb s t q) ∙ and-false (has w t)

pub remove_out : (n w s : ℕ) → w < 2 ^ n → has w s ≡ false → remove w s ≡ w
remove_out n w s h e =
    ext n (remove w s) w (remove_lt n w s h) h (λ t l. has_remove w s t ∙ at t (ℕ_discrete s t))
  where
    at : (t : ℕ) → Dec (s ≡ t) → (has w t && not (eqb s t)) ≡ has w t
    at t (yes q) = ap (λ (b : Bool). b && not (eqb s t)) (ap (has w) (sym q) ∙ e) ∙ sym (ap (has w) (sym q) ∙ e)
    at t (no q) = ap (λ (b : Bool). has w t && not b) (ne_eqb s t q) ∙ and-true (has w t)

-- the words that are sets of slots
pub only_lt : (w : ℕ) → only_slots w ≡ true → w < 2 ^ slot_count
unfolding only_slots
only_lt w e = ltb-true w (2 ^ slot_count) e

pub lt_only : (w : ℕ) → w < 2 ^ slot_count → only_slots w ≡ true
unfolding only_slots
lt_only w h = lt-ltb w (2 ^ slot_count) h

pub only_has : (w s : ℕ) → only_slots w ≡ true → slot_count ≤ s → has w s ≡ false
only_has w s e l = has_above slot_count w s (only_lt w e) l

-- a word of m bits none of which lies outside the slots
pub has_only : (m w : ℕ) → slot_count ≤ m → w < 2 ^ m → ((s : ℕ) → slot_count ≤ s → s < m → has w s ≡ false) → only_slots w ≡ true
has_only m w l h f = lt_only w (has_bound slot_count m w l h f)

-- every slot is in the set of all slots
pub has_every : (s : ℕ) → s < slot_count → has every_slot s ≡ true
has_every s h = has_ones slot_count s h

pub every_only : only_slots every_slot ≡ true
every_only = lt_only every_slot (lit≤ tt)

-- clients that are owed something
pub owing_some : (sets : List ℕ) (c : ℕ) → (get_or sets c 0 ≡ 0 → ⊥) → owing sets c ≡ true
unfolding owing
owing_some sets c h = ap not (ne_eqb (get_or sets c 0) 0 h)

pub owing_none : (sets : List ℕ) (c : ℕ) → get_or sets c 0 ≡ 0 → owing sets c ≡ false
unfolding owing
owing_none sets c h = ap not (eq-eqb (get_or sets c 0) 0 h)

pub owing_pos : (sets : List ℕ) (c : ℕ) → owing sets c ≡ true → 0 < get_or sets c 0
owing_pos sets c e = ⊎_elim (λ h. clash (sym (owing_none sets c (omega arith)) ∙ e)) (λ h. h) (le_or (get_or sets c 0) 0)
