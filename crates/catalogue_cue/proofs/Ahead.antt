-- `ahead`, how many octets stand ahead of the first that passes a test, as loops find it. Assumes nothing.
use mathlib.Core.Path.{◌≡◌, refl, sym, ap, ◌∙◌}
use mathlib.Core.Bool.{Bool, true, false}
use mathlib.Core.List.{List, [], ◌∷◌, ◌++◌}
use Prim.Native.Nat.{ℕ, zero, suc, ◌+◌, ◌<◌, ◌≤◌, zero-le, suc-le-suc}
use native.Mathlib.Numerals.{add-one}
use native.Mathlib.Omega.{arith}
use borrow.Author.Tests.{ne_eqb}
use lib.ListN.{length, get_or, drop, drop_of_length-le, length-append, length-drop, get_or-append}
use lib.Seq.{drop-cons, drop-drop, drop-append_seam, get_or-drop}
use Rattle.ground.specs.Cases.{pick}
use Rattle.catalogue_cue.specs.Sheet.{space, unspaced}
use Rattle.catalogue_cue.specs.Scan.{ahead, ahead_end, Passes}

module _ (test : ℕ → Bool) where
  pub ahead_le : (s : List ℕ) → ahead test s ≤ length s
  unfolding ahead
  ahead_le [] = zero-le
  ahead_le (x ∷ s) = by (test x) (ahead_le s)
    where
      by : (t : Bool) {n m : ℕ} → n ≤ m → pick t zero (suc n) ≤ suc m
      by true h = zero-le
      by false h = suc-le-suc h

  module _ (s : List ℕ) (i : ℕ) where
    step : i < length s → ahead test (drop i s) ≡ pick (test (get_or s i 0)) zero (suc (ahead test (drop (i + 1) s)))
    unfolding ahead
    step h = rw (add-one, drop-cons s i 0)

    -- the next octet passes the test
    pub ahead_stops : i < length s → test (get_or s i 0) ≡ true → i ≡ ahead_end test s i
    ahead_stops h e = omega (arith, rw e at (step h))

    -- the next octet does not pass
    pub ahead_goes : i < length s → test (get_or s i 0) ≡ false → ahead_end test s (i + 1) ≡ ahead_end test s i
    ahead_goes h e = omega (arith, rw e at (step h))

    -- the end of the octets
    pub ahead_ends : length s ≤ i → i ≡ ahead_end test s i
    unfolding ahead
    ahead_ends h = rw (drop_of_length-le s h) (omega arith)

  -- many octets do not pass
  pub ahead_past : (n : ℕ) (s : List ℕ) (i : ℕ) → i + n ≤ length s → ((j : ℕ) → j < n → test (get_or s (i + j) 0) ≡ false) → ahead_end test s (i + n) ≡ ahead_end test s i
  ahead_past zero s i h g = let e : i + 0 ≡ i = omega arith in rw e
  ahead_past (suc n) s i h g =
      let e : i + suc n ≡ i + n + 1 = omega arith in
      rw e (ahead_goes s (i + n) (omega arith) (g n (omega arith)) ∙ ahead_past n s i (omega arith) (λ j k. g j (omega arith)))

  -- a search from a place on, as far as another search went
  module _ (s : List ℕ) (at : ℕ) where
    pub passes_more : (i to : ℕ) → Passes test s at i → Passes test s i to → Passes test s at to
    passes_more i to p q = record { low = omega (arith, p.low, q.low); high = q.high; same = q.same ∙ p.same }

  -- the octets before the place that was found do not pass
  pub ahead_none : (s : List ℕ) (j : ℕ) → j < ahead test s → test (get_or s j 0) ≡ false
  unfolding ahead
  ahead_none [] j h = absurd (omega arith)
  ahead_none (x ∷ s) j h = by (test x) refl (ahead_none s) j h
    where
      by : (t : Bool) → test x ≡ t → ((k : ℕ) → k < ahead test s → test (get_or s k 0) ≡ false) → (k : ℕ) → k < pick t zero (suc (ahead test s)) → test (get_or (x ∷ s) k 0) ≡ false
      by true e f k h = absurd (omega arith)
      by false e f zero h = e
      by false e f (suc k) h = f k (omega arith)

  -- and the octet at that place does
  pub ahead_found : (s : List ℕ) → ahead test s < length s → test (get_or s (ahead test s) 0) ≡ true
  unfolding ahead
  ahead_found [] h = absurd (omega arith)
  ahead_found (x ∷ s) h = by (test x) refl (ahead_found s) h
    where
      by : (t : Bool) → test x ≡ t → (ahead test s < length s → test (get_or s (ahead test s) 0) ≡ true)
          → pick t zero (suc (ahead test s)) < suc (length s) → test (get_or (x ∷ s) (pick t zero (suc (ahead test s))) 0) ≡ true
      by true e f k = e
      by false e f k = f (omega arith)

-- one octet further
pub passes_one : {test : ℕ → Bool} {s : List ℕ} {at i : ℕ} → Passes test s at i → i < length s → test (get_or s i 0) ≡ false → Passes test s at (i + 1)
passes_one {test} {s} {at} {i} p h e = record { low = omega (arith, p.low); high = omega arith; same = ahead_goes test s i h e ∙ p.same }

-- a piece of n octets that stands at a place, with the rest behind it
module _ (s piece rest : List ℕ) (i n : ℕ) (splits : drop i s ≡ piece ++ rest) (long : length piece ≡ n) where
  pub piece_within : i ≤ length s → i + n ≤ length s
  piece_within h = omega (arith, ap length splits, length-append piece rest, length-drop i s, long)

  pub piece_at : (j : ℕ) → j < n → get_or s (i + j) 0 ≡ get_or piece j 0
  piece_at j h = sym (get_or-drop i s j 0) ∙ ap (λ (l : List ℕ). get_or l j 0) splits ∙ get_or-append piece rest 0 j (rw long h)

  pub piece_behind : rest ≡ drop (i + n) s
  piece_behind = sym (drop-append_seam piece rest) ∙ (λ k. drop (long k) (sym splits k)) ∙ drop-drop n i s

-- a line that begins with no space
pub unspaced_same : (s : List ℕ) → (get_or s 0 0 ≡ space → ⊥) → unspaced s ≡ s
unfolding unspaced
unspaced_same [] h = refl
unspaced_same (x ∷ s) h = rw (ne_eqb _ _ h)
