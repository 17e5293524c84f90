-- The tracks of a group's run and their keys: put in order, the run is sorted, keeps its tracks, and a track's rank is its place. Assumes nothing.
use mathlib.Core.Path.{◌≡◌, refl, sym, ap, ◌∙◌}
use mathlib.Core.Bool.{true, false}
use mathlib.Core.Logic.{inl, inr, ⊎_elim}
use mathlib.Core.List.{List, [], ◌∷◌}
use Prim.Native.Nat.{ℕ, zero, suc, ◌+◌, ◌-◌, ◌*◌, ◌%◌, ◌<◌, ◌≤◌}
use native.Mathlib.Nat.{not-suc-le-zero, eq-or-lt_of_le, zero-add}
use native.Mathlib.Numerals.{add-one}
use native.Mathlib.Omega.{arith}
use lib.Arith.{digits_mod}
use lib.Dec.{ltb}
use lib.ListN.{length, get_or}
use Rattle.ground.specs.Cases.{pick}
use Rattle.ground.specs.Limits.{most_tracks}
use Rattle.ground.specs.Lists.{span}
use Rattle.catalogue_tables.specs.Tables.{stamp_of}
use Rattle.player_walk.specs.Steps.{place}
use Rattle.player_orders.specs.declared.By.{By}
use Rattle.player_orders.specs.declared.By.TheVariants.{Number, Rising, Falling}
use Rattle.player_orders.specs.Order.{comes_before, ordered}
use Rattle.player_orders.specs.Keys.{major, key_of, below}
use Rattle.player_orders.proofs.Compare.{key_compares}
use Rattle.player_orders.proofs.Sorted.{all_at, All, In, Apart, Different, Sorted, sort_sorted, sort_in, sort_all, sort_apart, length_sort, below_sort, below_none, below_all, rank_place, rank_after, place_at_lem, in_index}

pub span_all : (P : ℕ → Type 0) (i n : ℕ) → ((u : ℕ) → i ≤ u → u < i + n → P u) → All P (span i n)
span_all P i zero h = tt
span_all P i (suc n) h = (h i (omega arith) (omega arith), span_all P (suc i) n (λ u a b. h u (omega arith) (omega arith)))

pub span_in : (t i n : ℕ) → i ≤ t → t < i + n → In t (span i n)
span_in t i zero a b = absurd (not-suc-le-zero {n = 0} (omega arith))
span_in t i (suc n) a b = ⊎_elim (λ e. inl (sym e)) (λ q. inr (span_in t (suc i) n q (omega arith))) (eq-or-lt_of_le a)

span_different : (i n : ℕ) → Different (span i n)
span_different i zero = tt
span_different i (suc n) = (span_all (λ u. u ≡ i → ⊥) (suc i) n (λ u a b e. omega arith), span_different (suc i) n)

pub length_span : (i n : ℕ) → length (span i n) ≡ n
length_span i zero = refl
length_span i (suc n) = ap suc (length_span (suc i) n)

-- what is left of the run at i, a turn on
pub span_step : (i e : ℕ) → i < e → span i (e - i) ≡ i ∷ span (i + 1) (e - (i + 1))
span_step i e h =
    let q : e - i ≡ suc (e - (i + 1)) = omega arith in
    rw (q, add-one i)

pub span_done : (i e : ℕ) → e ≤ i → span i (e - i) ≡ []
span_done i e h = let q : e - i ≡ 0 = omega arith in rw q

key_top : (by : By) (tracks : List ℕ) (t : ℕ) → t < 0xFFFF_FFFF → stamp_of tracks t < 0x1_0000_0000 → key_of by tracks t < 0xFFFF_FFFF_FFFF_FFFF
key_top Number tracks t h g = omega arith
key_top Rising tracks t h g = omega arith
key_top Falling tracks t h g = omega arith

module _ (by : By) (tracks : List ℕ) where
  -- a key's low 32 bits are the track's number
  pub number_of_lem : (t : ℕ) → t < 0x1_0000_0000 → key_of by tracks t % 0x1_0000_0000 ≡ t
  number_of_lem t h = digits_mod (major by (stamp_of tracks t)) h

  one_to_one : (t u : ℕ) → t < 0x1_0000_0000 → u < 0x1_0000_0000 → key_of by tracks t ≡ key_of by tracks u → t ≡ u
  one_to_one t u a b e = sym (number_of_lem t a) ∙ ap (λ (k : ℕ). k % 0x1_0000_0000) e ∙ number_of_lem u b

  apart : (i n : ℕ) → i + n ≤ 0x1_0000_0000 → Apart (key_of by tracks) (span i n)
  apart i zero h = tt
  apart i (suc n) h = (
    span_all (λ u. key_of by tracks u ≡ key_of by tracks i → ⊥) (suc i) n
        (λ u a b e. let q : u ≡ i = one_to_one u i (omega arith) (omega arith) e in omega arith),
    apart (suc i) n (omega arith),
  )

  module _ (first count : ℕ) (small : first + count ≤ most_tracks) where
    pub how_many : length (ordered by tracks first count) ≡ count
    unfolding ordered
    how_many = length_sort (comes_before by tracks) (span first count) ∙ length_span first count

    different : Different (ordered by tracks first count)
    unfolding ordered
    different = sort_apart (comes_before by tracks) (λ u. u) (span first count) (span_different first count)

    pub member : (t : ℕ) → first ≤ t → t < first + count → In t (ordered by tracks first count)
    unfolding ordered
    member t a b = sort_in (comes_before by tracks) t (span first count) (span_in t first count a b)

    -- each element is a track of the run
    pub within : All (λ t. (first ≤ t) × (t < first + count)) (ordered by tracks first count)
    unfolding ordered
    within = sort_all (comes_before by tracks) (λ t. (first ≤ t) × (t < first + count)) (span first count) (span_all (λ t. (first ≤ t) × (t < first + count)) first count (λ u a b. (a, b)))

    pub in_list : (k : ℕ) → k < count → k < length (ordered by tracks first count)
    in_list k h = omega (arith, how_many)

    pub at_place_lem : (k : ℕ) → k < count → (first ≤ get_or (ordered by tracks first count) k 0) × (get_or (ordered by tracks first count) k 0 < first + count)
    at_place_lem k h = all_at (λ t. (first ≤ t) × (t < first + count)) (ordered by tracks first count) k within (in_list k h)

    -- keys below x are as many in the order as in the run
    pub as_many : (x : ℕ) → below (key_of by tracks) x (span first count) ≡ below (key_of by tracks) x (ordered by tracks first count)
    unfolding ordered
    as_many x = sym (below_sort (comes_before by tracks) (key_of by tracks) x (span first count))

    -- no track stands at two places
    pub apart_places : (k : ℕ) → k < length (ordered by tracks first count) → place (get_or (ordered by tracks first count) k 0) (ordered by tracks first count) ≡ k
    apart_places k h = place_at_lem (ordered by tracks first count) k different h

    pub at_member : (t : ℕ) → first ≤ t → t < first + count → (k : ℕ) × (k < length (ordered by tracks first count)) × (get_or (ordered by tracks first count) k 0 ≡ t)
    at_member t a b = in_index t (ordered by tracks first count) (member t a b)

    pub place_small : (t : ℕ) → first ≤ t → t < first + count → place t (ordered by tracks first count) < count
    place_small t a b =
        let i = at_member t a b in
        let e : place t (ordered by tracks first count) ≡ i.0 = rw i.2 at (apart_places i.0 i.1) in
        omega (arith, how_many, i.1)

    -- stamps of 32 bits
    module _ (words : (i : ℕ) → get_or tracks i 0 < 0x1_0000_0000) where
      pub is_sorted : Sorted (key_of by tracks) (ordered by tracks first count)
      unfolding ordered
      is_sorted =
          sort_sorted (key_of by tracks) (comes_before by tracks) (λ t. t < 0x1_0000_0000) (key_compares by tracks (λ i. words (i * 6 + 1)))
          (span first count) (span_all (λ t. t < 0x1_0000_0000) first count (λ u a b. omega arith)) (apart first count (omega arith))

      -- a track's rank in the run is its place in the order
      pub rank_is : (t : ℕ) → first ≤ t → t < first + count → below (key_of by tracks) (key_of by tracks t) (span first count) ≡ place t (ordered by tracks first count)
      rank_is t a b = as_many (key_of by tracks t) ∙ rank_place (key_of by tracks) (ordered by tracks first count) t is_sorted different (member t a b)

      pub after_is : (t : ℕ) → first ≤ t → t < first + count → below (key_of by tracks) (key_of by tracks t + 1) (span first count) ≡ suc (place t (ordered by tracks first count))
      after_is t a b =
          let i = at_member t a b in
          as_many (key_of by tracks t + 1)
          ∙ rw i.2 at (rank_after (key_of by tracks) (ordered by tracks first count) i.0 is_sorted i.1)
          ∙ ap suc (sym (rw i.2 at (apart_places i.0 i.1)))

      pub top : (u : ℕ) → u < first + count → key_of by tracks u < 0xFFFF_FFFF_FFFF_FFFF
      top u h = key_top by tracks u (omega arith) (words (u * 6 + 1))

      pub below_top : below (key_of by tracks) 0xFFFF_FFFF_FFFF_FFFF (span first count) ≡ length (ordered by tracks first count)
      below_top =
          below_all (key_of by tracks) 0xFFFF_FFFF_FFFF_FFFF (span first count) (span_all (λ u. key_of by tracks u < 0xFFFF_FFFF_FFFF_FFFF) first count (λ u a b. top u b))
          ∙ length_span first count
          ∙ sym how_many

pub below_zero : (f : ℕ → ℕ) (i n : ℕ) → below f 0 (span i n) ≡ 0
below_zero f i n = below_none f 0 (span i n) (span_all (λ u. 0 ≤ f u) i n (λ u a b. omega arith))

-- a turn of a loop that counts the keys below x
module _ (f : ℕ → ℕ) (x i e n y T : ℕ) (h : i < e) (ey : y ≡ f i) (inv : n + below f x (span i (e - i)) ≡ T) where
  turn : n + pick (ltb y x) (suc (below f x (span (i + 1) (e - (i + 1))))) (below f x (span (i + 1) (e - (i + 1)))) ≡ T
  turn = rw ey (rw (span_step i e h) at inv)

  pub counts : ltb y x ≡ true → n + 1 + below f x (span (i + 1) (e - (i + 1))) ≡ T
  counts q = omega (arith, rw q at turn)

  pub passes : ltb y x ≡ false → n + below f x (span (i + 1) (e - (i + 1))) ≡ T
  passes q = rw q at turn

pub whole : (f : ℕ → ℕ) (x i n : ℕ) → 0 + below f x (span i (i + n - i)) ≡ below f x (span i n)
whole f x i n = let q : i + n - i ≡ n = omega arith in rw (q, zero-add)

pub counted : (f : ℕ → ℕ) (x i e n T : ℕ) → e ≤ i → n + below f x (span i (e - i)) ≡ T → n ≡ T
counted f x i e n T h inv = omega (arith, rw (span_done i e h) at inv)
