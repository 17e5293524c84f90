-- The starts of any track, of which there is one at least: laws of `segment_starts`, and of the closed forms.
-- Assumes nothing.
use mathlib.Core.Path.{◌≡◌, refl, sym, ◌∙◌}
use mathlib.Core.Logic.{⊎_elim}
use mathlib.Core.List.{List, [], ◌∷◌}
use Prim.Native.Nat.{ℕ, zero, suc, ◌-◌, ◌<◌, ◌≤◌}
use native.Mathlib.Nat.{not-suc-le-zero, le_of_suc-le-suc, lt_irrefl}
use native.Mathlib.Omega.{arith}
use borrow.Author.Tests.{lt-ltb, le-ltb, ne_eqb}
use lib.ListN.{length, get_or}
use Rattle.std.specs.Prelude.{Option, Some}
use Rattle.ground.proofs.Cases.{le_or}
use Rattle.player_segments.specs.Segments.{segment_starts, previous_start, next_start, Rising, Below, Cut}
use Rattle.player_segments.specs.Closed.{start_ahead, start_back}
use Rattle.player_segments.proofs.Cuts.{Rises, previous_first}

none : segment_starts [] ≡ 0 ∷ []
unfolding segment_starts
none = refl

more : (x : ℕ) (s : List ℕ) → segment_starts (x ∷ s) ≡ x ∷ s
unfolding segment_starts
more x s = rw (ne_eqb (length (x ∷ s)) 0 (λ e. lt_irrefl 0 (omega arith)))

pub some : (s : List ℕ) → 0 < length (segment_starts s)
some [] = rw none (omega arith)
some (x ∷ s) = rw (more x s) (omega arith)

pub whole_rises : (s : List ℕ) → Rising s → Rises (segment_starts s)
whole_rises [] r = rw none (λ j i h g. absurd (lt_irrefl 0 (omega arith)))
whole_rises (x ∷ s) r = rw (more x s) r.rise

pub whole_within : (s : List ℕ) (d : ℕ) → Below s d → (i : ℕ) → i < length (segment_starts s) → get_or (segment_starts s) i 0 ≤ d
whole_within [] d b = rw none alone
  where
    alone : (i : ℕ) → i < 1 → get_or (0 ∷ []) i 0 ≤ d
    alone zero h = omega arith
    alone (suc i) h = absurd (not-suc-le-zero (le_of_suc-le-suc h))
whole_within (x ∷ s) d b = rw (more x s) (λ i h. omega (arith, b i h))

pub from_zero : (s : List ℕ) → Rising s → get_or (segment_starts s) 0 0 ≡ 0
from_zero [] r = rw none
from_zero (x ∷ s) r = rw (more x s) r.begin

-- with segments of its own the starts are those
pub whole_is : (s : List ℕ) → 0 < length s → segment_starts s ≡ s
whole_is [] h = absurd (not-suc-le-zero h)
whole_is (x ∷ s) h = more x s

-- the first start is 0, which is not above any position: where no other start is either, the position lies in the first segment
cut_first : (s : List ℕ) (p k : ℕ) → Rising s → Cut s p k → k < 2 → Cut (segment_starts s) p 1
cut_first [] p k r cut h = rw none (record { within = omega arith; low = alone; high = λ j q g. absurd (lt_irrefl j (omega arith)) })
  where
    alone : (j : ℕ) → j < 1 → get_or (0 ∷ []) j 0 ≤ p
    alone zero q = omega arith
    alone (suc j) q = absurd (not-suc-le-zero (le_of_suc-le-suc q))
cut_first (x ∷ s) p k r cut h = rw (more x s) (record { within = omega arith; low = first; high = λ j q g. cut.high j (omega arith) g })
  where
    first : (j : ℕ) → j < 1 → get_or (x ∷ s) j 0 ≤ p
    first zero q = omega (arith, r.begin)
    first (suc j) q = absurd (not-suc-le-zero (le_of_suc-le-suc q))

pub previous_in_first : (s : List ℕ) (p k : ℕ) → Rising s → Cut s p k → k < 2 → 0 ≡ previous_start (segment_starts s) p
previous_in_first s p k r cut h =
    sym (from_zero s r) ∙ previous_first (segment_starts s) (whole_rises s r) p 1 (cut_first s p k r cut h) refl

-- a start at 0 alone is not above any position
pub next_same : (s : List ℕ) (past : Option ℕ) (p : ℕ) → next_start s past p ≡ next_start (segment_starts s) past p
unfolding next_start
next_same [] past p = rw (none, le-ltb p 0 (omega arith))
next_same (x ∷ s) past p = rw (more x s)

-- the closed forms at a place that is there, and at one that is not
module _ (l : List ℕ) (k : ℕ) where
  pub ahead_is : (past : Option ℕ) → k < length l → start_ahead l past k ≡ Some (get_or l k 0)
  unfolding start_ahead
  ahead_is past h = rw (lt-ltb k (length l) h)

  pub ahead_over : (past : Option ℕ) → length l ≤ k → start_ahead l past k ≡ past
  unfolding start_ahead
  ahead_over past h = rw (le-ltb k (length l) h)

  pub back_is : k < length l → start_back l k ≡ get_or l (length l - 1 - k) 0
  unfolding start_back
  back_is h = rw (lt-ltb k (length l) h)

  pub back_over : length l ≤ k → start_back l k ≡ 0
  unfolding start_back
  back_over h = rw (le-ltb k (length l) h)

-- the same read off the starts of a track that may have none
pub ahead_in : (s : List ℕ) (past : Option ℕ) (m : ℕ) → m < length s → Some (get_or s m 0) ≡ start_ahead (segment_starts s) past m
ahead_in [] past m h = absurd (not-suc-le-zero h)
ahead_in (x ∷ s) past m h = rw (more x s) (sym (ahead_is (x ∷ s) m past h))

pub ahead_none : (s : List ℕ) (past : Option ℕ) (m : ℕ) → length s ≤ m → m ≡ 0 → Some 0 ≡ start_ahead (segment_starts s) past m
ahead_none [] past m h e = rw (none, e) (sym (ahead_is (0 ∷ []) 0 past (omega arith)))
ahead_none (x ∷ s) past m h e = absurd (lt_irrefl 0 (omega arith))

pub ahead_past : (s : List ℕ) (past : Option ℕ) (m : ℕ) → length s ≤ m → (m ≡ 0 → ⊥) → past ≡ start_ahead (segment_starts s) past m
ahead_past [] past m h n = rw none (sym (ahead_over (0 ∷ []) m past (omega arith)))
ahead_past (x ∷ s) past m h n = rw (more x s) (sym (ahead_over (x ∷ s) m past h))

pub back_in : (s : List ℕ) (m : ℕ) → m < length s → get_or s (length s - 1 - m) 0 ≡ start_back (segment_starts s) m
back_in [] m h = absurd (not-suc-le-zero h)
back_in (x ∷ s) m h = rw (more x s) (sym (back_is (x ∷ s) m h))

pub back_past : (s : List ℕ) (m : ℕ) → length s ≤ m → 0 ≡ start_back (segment_starts s) m
back_past [] m h = ⊎_elim
    (λ q. rw none (sym (back_over (0 ∷ []) m (omega arith))))
    (λ q. let e : m ≡ 0 = omega arith in rw (none, e) (sym (back_is (0 ∷ []) 0 (omega arith))))
    (le_or 1 m)
back_past (x ∷ s) m h = rw (more x s) (sym (back_over (x ∷ s) m h))
