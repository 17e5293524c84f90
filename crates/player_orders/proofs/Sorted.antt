-- Sorting keeps what a list has; where what comes before has the lesser key, a key's rank, the number of keys below it, is its place. Assumes nothing.
use mathlib.Core.Path.{◌≡◌, refl, sym, ap, ◌∙◌, subst}
use mathlib.Core.Bool.{Bool, true, false}
use mathlib.Core.Logic.{◌⊎◌, inl, inr, ⊎_elim}
use mathlib.Core.List.{List, [], ◌∷◌}
use Prim.Native.Nat.{ℕ, zero, suc, ◌+◌, ◌<◌, ◌≤◌, suc-le-suc}
use native.Mathlib.Nat.{le_of_suc-le-suc, not-suc-le-zero, eq-or-lt_of_le, le_of_lt}
use native.Mathlib.Omega.{arith}
use borrow.Author.Tests.{lt-ltb, le-ltb, eq-eqb, ne_eqb}
use lib.Dec.{ltb}
use lib.ListN.{length, get_or}
use Rattle.ground.specs.Cases.{pick}
use Rattle.ground.proofs.Cases.{le_or}
use Rattle.player_walk.specs.Steps.{place}
use Rattle.player_orders.specs.Order.{insert, sort}
use Rattle.player_orders.specs.Keys.{below}

-- P of every element
abbrev pub All : (ℕ → Type 0) → List ℕ → Type 0
All P [] = Unit
All P (x ∷ l) = P x × All P l

abbrev pub In : ℕ → List ℕ → Type 0
In t [] = ⊥
In t (u ∷ l) = (t ≡ u) ⊎ In t l

swap : (p q : Bool) (n : ℕ) → pick q (suc (pick p (suc n) n)) (pick p (suc n) n) ≡ pick p (suc (pick q (suc n) n)) (pick q (suc n) n)
swap true true n = refl
swap true false n = refl
swap false true n = refl
swap false false n = refl

map_all : (P Q : ℕ → Type 0) (l : List ℕ) → ((u : ℕ) → P u → Q u) → All P l → All Q l
map_all P Q [] h a = tt
map_all P Q (x ∷ l) h a = (h x a.0, map_all P Q l h a.1)

pub all_at : (P : ℕ → Type 0) (l : List ℕ) (k : ℕ) → All P l → k < length l → P (get_or l k 0)
all_at P [] k a h = absurd (not-suc-le-zero h)
all_at P (x ∷ l) zero a h = a.0
all_at P (x ∷ l) (suc k) a h = all_at P l k a.1 (le_of_suc-le-suc h)

pub in_index : (t : ℕ) (l : List ℕ) → In t l → (k : ℕ) × (k < length l) × (get_or l k 0 ≡ t)
in_index t [] h = elim h [ ]
in_index t (u ∷ l) (inl e) = (zero, omega arith, sym e)
in_index t (u ∷ l) (inr m) = let r = in_index t l m in (suc r.0, suc-le-suc r.1, r.2)

-- no two elements have the same value by f
module _ (f : ℕ → ℕ) where
  abbrev pub Apart : List ℕ → Type 0
  Apart [] = Unit
  Apart (t ∷ l) = All (λ u. f u ≡ f t → ⊥) l × Apart l

-- no element stands at two places
abbrev pub Different : List ℕ → Type 0
Different = Apart (λ u. u)

pub place_at_lem : (l : List ℕ) (k : ℕ) → Different l → k < length l → place (get_or l k 0) l ≡ k
place_at_lem [] k s h = absurd (not-suc-le-zero h)
place_at_lem (t ∷ l) zero s h = rw (eq-eqb t t refl)
place_at_lem (t ∷ l) (suc k) s h =
    let h' = le_of_suc-le-suc h in
    rw (ne_eqb (get_or l k 0) t (all_at (λ v. v ≡ t → ⊥) l k s.0 h')) (ap suc (place_at_lem l k s.1 h'))

module _ (before : ℕ → ℕ → Bool) where
  length_insert : (t : ℕ) (l : List ℕ) → length (insert before t l) ≡ suc (length l)
  length_insert t [] = refl
  length_insert t (u ∷ l) = go (before u t) (length_insert t l)
    where
      go : (b : Bool) → length (insert before t l) ≡ suc (length l) → length (pick b (u ∷ insert before t l) (t ∷ u ∷ l)) ≡ suc (suc (length l))
      go true e = ap suc e
      go false e = refl

  pub length_sort : (l : List ℕ) → length (sort before l) ≡ length l
  length_sort [] = refl
  length_sort (t ∷ l) = length_insert t (sort before l) ∙ ap suc (length_sort l)

  insert_in : (x t : ℕ) (l : List ℕ) → In x (t ∷ l) → In x (insert before t l)
  insert_in x t [] h = h
  insert_in x t (u ∷ l) h = go (before u t) h (insert_in x t l)
    where
      go : (b : Bool) → In x (t ∷ u ∷ l) → (In x (t ∷ l) → In x (insert before t l)) → In x (pick b (u ∷ insert before t l) (t ∷ u ∷ l))
      go true (inl e) r = inr (r (inl e))
      go true (inr (inl e)) r = inl e
      go true (inr (inr m)) r = inr (r (inr m))
      go false h r = h

  pub sort_in : (x : ℕ) (l : List ℕ) → In x l → In x (sort before l)
  sort_in x [] h = elim h [ ]
  sort_in x (t ∷ l) (inl e) = insert_in x t (sort before l) (inl e)
  sort_in x (t ∷ l) (inr m) = insert_in x t (sort before l) (inr (sort_in x l m))

  insert_all : (P : ℕ → Type 0) (t : ℕ) (l : List ℕ) → P t → All P l → All P (insert before t l)
  insert_all P t [] p a = (p, tt)
  insert_all P t (u ∷ l) p a = go (before u t) (insert_all P t l p a.1)
    where
      go : (b : Bool) → All P (insert before t l) → All P (pick b (u ∷ insert before t l) (t ∷ u ∷ l))
      go true r = (a.0, r)
      go false r = (p, a)

  pub sort_all : (P : ℕ → Type 0) (l : List ℕ) → All P l → All P (sort before l)
  sort_all P [] a = tt
  sort_all P (t ∷ l) a = insert_all P t (sort before l) a.0 (sort_all P l a.1)

  module _ (f : ℕ → ℕ) where
    insert_apart : (t : ℕ) (l : List ℕ) → All (λ u. f u ≡ f t → ⊥) l → Apart f l → Apart f (insert before t l)
    insert_apart t [] a s = (tt, tt)
    insert_apart t (u ∷ l) a s = go (before u t) (insert_apart t l a.1 s.1)
      where
        go : (b : Bool) → Apart f (insert before t l) → Apart f (pick b (u ∷ insert before t l) (t ∷ u ∷ l))
        go true r = (insert_all (λ v. f v ≡ f u → ⊥) t l (λ e. a.0 (sym e)) s.0, r)
        go false r = (a, s)

    pub sort_apart : (l : List ℕ) → Apart f l → Apart f (sort before l)
    sort_apart [] a = tt
    sort_apart (t ∷ l) a = insert_apart t (sort before l) (sort_all (λ u. f u ≡ f t → ⊥) l a.0) (sort_apart l a.1)

    below_insert : (x t : ℕ) (l : List ℕ) → below f x (insert before t l) ≡ below f x (t ∷ l)
    below_insert x t [] = refl
    below_insert x t (u ∷ l) = go (before u t) (below_insert x t l)
      where
        go : (b : Bool) → below f x (insert before t l) ≡ pick (ltb (f t) x) (suc (below f x l)) (below f x l) → below f x (pick b (u ∷ insert before t l) (t ∷ u ∷ l)) ≡ below f x (t ∷ u ∷ l)
        go true e = rw e (swap (ltb (f t) x) (ltb (f u) x) (below f x l))
        go false e = refl

    pub below_sort : (x : ℕ) (l : List ℕ) → below f x (sort before l) ≡ below f x l
    below_sort x [] = refl
    below_sort x (t ∷ l) = below_insert x t (sort before l) ∙ ap (λ (n : ℕ). pick (ltb (f t) x) (suc n) n) (below_sort x l)

module _ (f : ℕ → ℕ) where
  abbrev pub Sorted : List ℕ → Type 0
  Sorted [] = Unit
  Sorted (t ∷ l) = All (λ u. f t < f u) l × Sorted l

  -- of elements that have P, the one that comes before has the lesser key
  module _ (before : ℕ → ℕ → Bool) (P : ℕ → Type 0) (compares : (t u : ℕ) → P t → P u → before t u ≡ ltb (f t) (f u)) where
    insert_sorted : (t : ℕ) (l : List ℕ) → P t → All P l → Sorted l → All (λ u. f u ≡ f t → ⊥) l → Sorted (insert before t l)
    insert_sorted t [] p q s a = (tt, tt)
    insert_sorted t (u ∷ l) p q s a = go (le_or (f t) (f u)) (insert_sorted t l p q.1 s.1 a.1)
      where
        go : (f t ≤ f u) ⊎ (f u < f t) → Sorted (insert before t l) → Sorted (pick (before u t) (u ∷ insert before t l) (t ∷ u ∷ l))
        go (inl h) r =
            let lt : f t < f u = ⊎_elim (λ e. absurd (a.0 (sym e))) (λ q. q) (eq-or-lt_of_le h) in
            rw (compares u t q.0 p ∙ le-ltb (f u) (f t) h) (((lt, map_all (λ v. f u < f v) (λ v. f t < f v) l (λ v q. omega arith) s.0), s))
        go (inr h) r = rw (compares u t q.0 p ∙ lt-ltb (f u) (f t) h) ((insert_all before (λ v. f u < f v) t l h s.0, r))

    pub sort_sorted : (l : List ℕ) → All P l → Apart f l → Sorted (sort before l)
    sort_sorted [] q a = tt
    sort_sorted (t ∷ l) q a =
        insert_sorted t (sort before l) q.0 (sort_all before P l q.1) (sort_sorted l q.1 a.1)
        (sort_all before (λ u. f u ≡ f t → ⊥) l a.0)

  pub below_none : (x : ℕ) (l : List ℕ) → All (λ u. x ≤ f u) l → below f x l ≡ 0
  below_none x [] a = refl
  below_none x (u ∷ l) a = rw (le-ltb (f u) x a.0) (below_none x l a.1)

  pub below_all : (x : ℕ) (l : List ℕ) → All (λ u. f u < x) l → below f x l ≡ length l
  below_all x [] a = refl
  below_all x (u ∷ l) a = rw (lt-ltb (f u) x a.0) (ap suc (below_all x l a.1))

  -- where no key lies from x up to z, as many are below the one as below the other
  pub below_same : (x z : ℕ) (l : List ℕ) → x ≤ z → All (λ u. x ≤ f u → z ≤ f u) l → below f x l ≡ below f z l
  below_same x z [] h a = refl
  below_same x z (u ∷ l) h a = go (le_or x (f u)) (below_same x z l h a.1)
    where
      go : (x ≤ f u) ⊎ (f u < x) → below f x l ≡ below f z l → below f x (u ∷ l) ≡ below f z (u ∷ l)
      go (inl q) e = rw (le-ltb (f u) x q, le-ltb (f u) z (a.0 q)) e
      go (inr q) e = rw (lt-ltb (f u) x q, lt-ltb (f u) z (omega arith)) (ap suc e)

  -- the rank of what stands at k is k
  pub rank_at : (l : List ℕ) (k : ℕ) → Sorted l → k < length l → below f (f (get_or l k 0)) l ≡ k
  rank_at [] k s h = absurd (not-suc-le-zero h)
  rank_at (t ∷ l) zero s h = rw (le-ltb (f t) (f t) (omega arith)) (below_none (f t) l (map_all (λ v. f t < f v) (λ v. f t ≤ f v) l (λ v q. le_of_lt q) s.0))
  rank_at (t ∷ l) (suc k) s h =
      let h' = le_of_suc-le-suc h in
      rw (lt-ltb (f t) (f (get_or l k 0)) (all_at (λ v. f t < f v) l k s.0 h')) (ap suc (rank_at l k s.1 h'))

  -- and with its own key one more is counted
  pub rank_after : (l : List ℕ) (k : ℕ) → Sorted l → k < length l → below f (f (get_or l k 0) + 1) l ≡ suc k
  rank_after [] k s h = absurd (not-suc-le-zero h)
  rank_after (t ∷ l) zero s h = rw (lt-ltb (f t) (f t + 1) (omega arith)) (ap suc (below_none (f t + 1) l (map_all (λ v. f t < f v) (λ v. f t + 1 ≤ f v) l (λ v q. omega arith) s.0)))
  rank_after (t ∷ l) (suc k) s h =
      let h' = le_of_suc-le-suc h in
      rw (lt-ltb (f t) (f (get_or l k 0) + 1) (omega (arith, all_at (λ v. f t < f v) l k s.0 h'))) (ap suc (rank_after l k s.1 h'))

  -- so the rank of a member is its place
  pub rank_place : (l : List ℕ) (t : ℕ) → Sorted l → Different l → In t l → below f (f t) l ≡ place t l
  rank_place l t s d m =
      let i = in_index t l m in
      subst (λ (u : ℕ). below f (f u) l ≡ place u l) i.2 (rank_at l i.0 s i.1 ∙ sym (place_at_lem l i.0 d i.1))

  -- keys below x are counted as places are
  pub below_lt : (x : ℕ) (l : List ℕ) (k : ℕ) → Sorted l → k < length l → f (get_or l k 0) < x → k < below f x l
  below_lt x [] k s h g = absurd (not-suc-le-zero h)
  below_lt x (t ∷ l) zero s h g = rw (lt-ltb (f t) x g) (omega arith)
  below_lt x (t ∷ l) (suc k) s h g =
      let h' = le_of_suc-le-suc h in
      rw (lt-ltb (f t) x (omega (arith, all_at (λ v. f t < f v) l k s.0 h'))) (suc-le-suc (below_lt x l k s.1 h' g))

  pub below_le : (x : ℕ) (l : List ℕ) (k : ℕ) → Sorted l → k < length l → x ≤ f (get_or l k 0) → below f x l ≤ k
  below_le x [] k s h g = absurd (not-suc-le-zero h)
  below_le x (t ∷ l) zero s h g =
      rw (le-ltb (f t) x g) (omega (arith, below_none x l (map_all (λ v. f t < f v) (λ v. x ≤ f v) l (λ v q. omega arith) s.0)))
  below_le x (t ∷ l) (suc k) s h g = go (ltb (f t) x) (below_le x l k s.1 (le_of_suc-le-suc h) g)
    where
      go : (b : Bool) → below f x l ≤ k → pick b (suc (below f x l)) (below f x l) ≤ suc k
      go true q = suc-le-suc q
      go false q = omega arith
