-- The places of a client's round: a place is a service and a slot of it, and the sets of the services are one set of places. Assumes nothing.
use mathlib.Core.Path.{◌≡◌, sym, ap, ◌∙◌, subst}
use mathlib.Core.Bool.{Bool, ◌||◌, or-false}
use mathlib.Core.List.{List, [], ◌∷◌}
use Prim.Native.Nat.{ℕ, zero, suc, ◌+◌, ◌*◌, ◌^◌, ◌<◌}
use native.Mathlib.Nat.{lt_of_lt_of_le}
use native.Mathlib.Omega.{arith}
use lib.Bits.{bit_or, or_lt}
use lib.Dec.{lit≤}
use lib.ListN.{length, get_or}
use lib.Pow.{pow_mono, shl_lt}
use Rattle.ground.specs.Cases.{has}
use Rattle.desk_slots.specs.Slots.{slot_count, service_count, place_count, place_of, service_of, slot_at, places_of}
use Rattle.desk_slots.proofs.Bits.{has_or, has_zero, has_above, has_shl, has_shl_below}

pub service_of_place : (v s : ℕ) → s < slot_count → service_of (place_of v s) ≡ v
unfolding service_of
service_of_place v s h = omega arith

pub slot_of_place : (v s : ℕ) → s < slot_count → slot_at (place_of v s) ≡ s
unfolding slot_at
slot_of_place v s h = omega arith

pub place_again : (p : ℕ) → place_of (service_of p) (slot_at p) ≡ p
unfolding service_of slot_at
place_again p = omega arith

pub service_there : (p : ℕ) → p < place_count → service_of p < service_count
unfolding service_of
service_there p h = omega arith

pub slot_there : (p : ℕ) → slot_at p < slot_count
unfolding slot_at
slot_there p = omega arith

pub place_there : (v s : ℕ) → v < service_count → s < slot_count → place_of v s < place_count
place_there v s hv hs = omega arith

-- each of these is a set of slots
abbrev pub AllSets : List ℕ → Type 0
AllSets [] = Unit {0}
AllSets (w ∷ sets) = (w < 2 ^ slot_count) × AllSets sets

-- slot s of service v is in the set of places where it is in the set of the service
pub has_places : (sets : List ℕ) → AllSets sets → (v s : ℕ) → s < slot_count → has (places_of sets) (place_of v s) ≡ has (get_or sets v 0) s
unfolding places_of
has_places [] all v s h = has_zero (place_of v s) ∙ sym (has_zero s)
has_places (w ∷ sets) all zero s h =
    let e : place_of 0 s ≡ s = omega arith in
    ap (has (bit_or w (places_of sets * 2 ^ slot_count))) e
    ∙ has_or w (places_of sets * 2 ^ slot_count) s
    ∙ ap (λ (b : Bool). has w s || b) (has_shl_below (places_of sets) slot_count s h) ∙ or-false (has w s)
has_places (w ∷ sets) all (suc v) s h =
    let e : place_of (suc v) s ≡ slot_count + place_of v s = omega arith in
    ap (has (bit_or w (places_of sets * 2 ^ slot_count))) e
    ∙ has_or w (places_of sets * 2 ^ slot_count) (slot_count + place_of v s)
    ∙ ap (λ (b : Bool). b || has (places_of sets * 2 ^ slot_count) (slot_count + place_of v s)) (has_above slot_count w (slot_count + place_of v s) all.0 (omega arith))
    ∙ has_shl (places_of sets) slot_count (place_of v s)
    ∙ has_places sets all.1 v s h

-- the set of places of as many services has no bit behind their places
pub places_lt : (sets : List ℕ) → AllSets sets → places_of sets < 2 ^ (length sets * slot_count)
unfolding places_of
places_lt [] all = lit≤ tt
places_lt (w ∷ sets) all =
    let n = length sets * slot_count in
    let e : n + slot_count ≡ suc (length sets) * slot_count = omega arith in
    subst (λ (m : ℕ). bit_or w (places_of sets * 2 ^ slot_count) < 2 ^ m) e
    (or_lt (n + slot_count) w (places_of sets * 2 ^ slot_count) (lt_of_lt_of_le all.0 (pow_mono {i = slot_count} {j = n + slot_count} (omega arith))) (shl_lt n slot_count (places_lt sets all.1)))
