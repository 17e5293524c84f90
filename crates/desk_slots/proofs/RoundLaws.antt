-- Places and distances of a round of any number of places. Assumes nothing.
use mathlib.Core.Path.{◌≡◌, refl, sym, ap, ◌∙◌}
use mathlib.Core.Bool.{Bool, true, false, cond}
use mathlib.Core.Logic.{◌⊎◌, inl, inr, ⊎_elim}
use Prim.Native.Nat.{ℕ, ◌+◌, ◌-◌, ◌≤◌, ◌<◌}
use native.Mathlib.Nat.{mod-eq_of_lt, mod-eq-sub-mod, mod-lt}
use native.Mathlib.Omega.{arith}
use borrow.Author.Tests.{ltb-true, ltb-false}
use lib.Dec.{ltb}
use Rattle.desk_slots.specs.Round.{ahead, dist}

-- a distance, and a place, by cases: before the end of the round, or behind it
pub dist_cases : (n a s : ℕ) → ((a < s) × (dist n a s ≡ s - a)) ⊎ ((s ≤ a) × (dist n a s ≡ n + s - a))
unfolding dist
dist_cases n a s = go (ltb a s) refl
  where
    go : (t : Bool) → ltb a s ≡ t → ((a < s) × (cond t (s - a) (n + s - a) ≡ s - a)) ⊎ ((s ≤ a) × (cond t (s - a) (n + s - a) ≡ n + s - a))
    go true e = inl (ltb-true a s e, refl)
    go false e = inr (ltb-false a s e, refl)

pub ahead_cases : (n a d : ℕ) → a < n → d ≤ n → ((a + d < n) × (ahead n a d ≡ a + d)) ⊎ ((n ≤ a + d) × (ahead n a d ≡ a + d - n))
ahead_cases n a d h l = go (ltb (a + d) n) refl
  where
    go : (t : Bool) → ltb (a + d) n ≡ t → ((a + d < n) × (ahead n a d ≡ a + d)) ⊎ ((n ≤ a + d) × (ahead n a d ≡ a + d - n))
    go true e = let k = ltb-true (a + d) n e in inl (k, mod-eq_of_lt k)
    go false e = let k = ltb-false (a + d) n e in inr (k, mod-eq-sub-mod k ∙ mod-eq_of_lt (omega arith))

pub ahead_lt : (n a d : ℕ) → a < n → ahead n a d < n
ahead_lt n a d h = mod-lt (a + d) (omega arith)

-- a distance is 1 to n
pub dist_range : (n a s : ℕ) → a < n → s < n → (1 ≤ dist n a s) × (dist n a s ≤ n)
dist_range n a s ha hs = ⊎_elim (λ w. omega arith) (λ w. omega arith) (dist_cases n a s)

-- the place at a's distance to s is s
pub ahead_dist : (n a s : ℕ) → a < n → s < n → ahead n a (dist n a s) ≡ s
ahead_dist n a s ha hs =
    let r = dist_range n a s ha hs in
    ⊎_elim (λ v. ⊎_elim (λ w. omega arith) (λ w. omega arith) (dist_cases n a s)) (λ v. ⊎_elim (λ w. omega arith) (λ w. omega arith) (dist_cases n a s))
    (ahead_cases n a (dist n a s) ha r.1)

-- and the distance to the place d places on is d
pub dist_ahead : (n a d : ℕ) → a < n → 1 ≤ d → d ≤ n → dist n a (ahead n a d) ≡ d
dist_ahead n a d ha l h =
    ⊎_elim (λ v. ⊎_elim (λ w. omega arith) (λ w. omega arith) (dist_cases n a (ahead n a d)))
    (λ v. ⊎_elim (λ w. omega arith) (λ w. omega arith) (dist_cases n a (ahead n a d))) (ahead_cases n a d ha h)

-- two places at one distance are one
pub dist_inj : (n a s t : ℕ) → a < n → s < n → t < n → dist n a s ≡ dist n a t → s ≡ t
dist_inj n a s t ha hs ht e = sym (ahead_dist n a s ha hs) ∙ ap (ahead n a) e ∙ ahead_dist n a t ha ht

-- from a nearer place, a place is as much nearer
pub dist_sub : (n a s t : ℕ) → a < n → s < n → t < n → dist n a s < dist n a t → dist n s t ≡ dist n a t - dist n a s
dist_sub n a s t ha hs ht h =
    ⊎_elim
    (λ u. ⊎_elim (λ v. ⊎_elim (λ w. omega arith) (λ w. omega arith) (dist_cases n s t)) (λ v. ⊎_elim (λ w. omega arith) (λ w. omega arith) (dist_cases n s t)) (dist_cases n a t))
    (λ u. ⊎_elim (λ v. ⊎_elim (λ w. omega arith) (λ w. omega arith) (dist_cases n s t)) (λ v. ⊎_elim (λ w. omega arith) (λ w. omega arith) (dist_cases n s t)) (dist_cases n a t))
    (dist_cases n a s)
