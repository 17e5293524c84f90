-- The table of slots: a characteristic and its slot determine each other. Assumes nothing.
use mathlib.Core.Path.{◌≡◌, refl, sym, ap, ◌∙◌}
use mathlib.Core.Bool.{Bool, true, false}
use mathlib.Core.List.{List, [], ◌∷◌}
use Prim.Native.Nat.{ℕ, suc, ◌<◌, ◌≤◌, zero-le, suc-le-suc}
use native.Mathlib.Nat.{le_of_suc-le-suc, not-suc-le-zero}
use borrow.Author.Tests.{eqb-true}
use lib.Dec.{eqb}
use lib.ListN.{length, get_or}
use Rattle.ground.specs.Cases.{pick}
use Rattle.ground.specs.Lists.{all_below}
use Rattle.ground.proofs.Bounded.{all_at}
use Rattle.desk_slots.specs.Slots.{slot_count, slot_table, place_in, slot_of, characteristic_of}

-- as many characteristics as slots
pub table_length : length slot_table ≡ slot_count
table_length = refl

-- what stands at the place of x is x
place_found : (s : List ℕ) (x : ℕ) → place_in s x < length s → get_or s (place_in s x) 0 ≡ x
place_found [] x h = absurd (not-suc-le-zero h)
place_found (y ∷ s) x h = go (eqb x y) refl h (place_found s x)
  where
    go : (t : Bool) → eqb x y ≡ t → pick t 0 (suc (place_in s x)) < suc (length s) → (place_in s x < length s → get_or s (place_in s x) 0 ≡ x)
        → get_or (y ∷ s) (pick t 0 (suc (place_in s x))) 0 ≡ x
    go true e k rest = sym (eqb-true x y e)
    go false e k rest = rest (le_of_suc-le-suc k)

place_le : (s : List ℕ) (x : ℕ) → place_in s x ≤ length s
place_le [] x = zero-le
place_le (y ∷ s) x = go (eqb x y) (place_le s x)
  where
    go : (t : Bool) → place_in s x ≤ length s → pick t 0 (suc (place_in s x)) ≤ suc (length s)
    go true h = zero-le
    go false h = suc-le-suc h

pub slot_le : (c : ℕ) → slot_of c ≤ slot_count
unfolding slot_of
slot_le c = place_le slot_table c

pub slot_found : (c : ℕ) → slot_of c < slot_count → characteristic_of (slot_of c) ≡ c
unfolding slot_of characteristic_of
slot_found c h = place_found slot_table c h

pub slot_back : (s : ℕ) → s < slot_count → slot_of (characteristic_of s) ≡ s
unfolding slot_of characteristic_of all_below
slot_back s h = eqb-true (slot_of (characteristic_of s)) s (all_at (λ (k : ℕ). eqb (slot_of (characteristic_of k)) k) slot_count refl s h)

-- two slots with one characteristic are one
pub slots_apart : (s t : ℕ) → s < slot_count → t < slot_count → characteristic_of s ≡ characteristic_of t → s ≡ t
slots_apart s t hs ht e = sym (slot_back s hs) ∙ ap slot_of e ∙ slot_back t ht
