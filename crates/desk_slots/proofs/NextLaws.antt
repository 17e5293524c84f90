-- What `next` gives, for any number of places and any test: the nearest place after the mark; and that each place is served in its turn.
-- Assumes nothing.
use mathlib.Core.Path.{◌≡◌, refl, sym, ap, ◌∙◌, subst}
use mathlib.Core.Bool.{Bool, true, false, cond}
use mathlib.Core.Logic.{◌⊎◌, inl, inr, ⊎_elim}
use Prim.Native.Nat.{ℕ, zero, suc, ◌+◌, ◌-◌, ◌≤◌, ◌<◌, suc-le-suc}
use native.Mathlib.Decide.{ℕ_discrete}
use native.Mathlib.Nat.{zero-lt-suc, le_of_lt, le_of_suc-le-suc, add-zero, add-suc, suc-add, not-suc-le-zero}
use native.Mathlib.Omega.{arith}
use lib.Arith.{lt_of_le-ne}
use Rattle.ground.proofs.Cases.{le_or, true_or, clash}
use Rattle.desk_slots.specs.Round.{ahead, first, next, dist}
use Rattle.desk_slots.proofs.RoundLaws.{ahead_lt, dist_range, ahead_dist, dist_ahead, dist_inj, dist_sub}

-- what `first` finds among k places from d on: none, or the i-th, with none before it
pub record Hit (n : ℕ) (p : ℕ → Bool) (a k d r : ℕ) : Type 0 where
  pub i : ℕ
  pub inside : i < k
  pub is : r ≡ ahead n a (d + i)
  pub holds : p (ahead n a (d + i)) ≡ true
  pub before : (j : ℕ) → j < i → p (ahead n a (d + j)) ≡ false

pub record Miss (n : ℕ) (p : ℕ → Bool) (a k d r : ℕ) : Type 0 where
  pub is : r ≡ n
  pub none : (j : ℕ) → j < k → p (ahead n a (d + j)) ≡ false

module _ (n : ℕ) (p : ℕ → Bool) (a : ℕ) where
  -- what fails at the first place and at those behind it fails at each
  each : (d i : ℕ) → p (ahead n a d) ≡ false → ((j : ℕ) → j < i → p (ahead n a (suc d + j)) ≡ false) → (j : ℕ) → j < suc i → p (ahead n a (d + j)) ≡ false
  each d i z h zero l = ap (λ (x : ℕ). p (ahead n a x)) (add-zero d) ∙ z
  each d i z h (suc j) l = ap (λ (x : ℕ). p (ahead n a x)) (add-suc d j ∙ sym (suc-add d j)) ∙ h j (le_of_suc-le-suc l)

  pub first_cases : (k d : ℕ) → Hit n p a k d (first n p a k d) ⊎ Miss n p a k d (first n p a k d)
  unfolding first
  first_cases zero d = inr (record { is = refl; none = λ j h. absurd (not-suc-le-zero h) })
  first_cases (suc k) d = go (p (ahead n a d)) refl (first_cases k (suc d))
    where
      go : (t : Bool) → p (ahead n a d) ≡ t → Hit n p a k (suc d) (first n p a k (suc d)) ⊎ Miss n p a k (suc d) (first n p a k (suc d))
          → Hit n p a (suc k) d (cond t (ahead n a d) (first n p a k (suc d))) ⊎ Miss n p a (suc k) d (cond t (ahead n a d) (first n p a k (suc d)))
      go true e ih =
          inl (record {
            i = 0;
            inside = zero-lt-suc k;
            is = ap (ahead n a) (sym (add-zero d));
            holds = ap (λ (x : ℕ). p (ahead n a x)) (add-zero d) ∙ e;
            before = λ j h. absurd (not-suc-le-zero h);
          })
      go false e (inl h) =
          let s : suc d + h.i ≡ d + suc h.i = omega arith in
          inl (record {
            i = suc h.i;
            inside = suc-le-suc h.inside;
            is = h.is ∙ ap (ahead n a) s;
            holds = ap (λ (x : ℕ). p (ahead n a x)) (sym s) ∙ h.holds;
            before = each d h.i e h.before;
          })
      go false e (inr h) = inr (record { is = h.is; none = each d k e h.none })

-- s is the place nearest after a at which p holds
pub record Nearest (n : ℕ) (p : ℕ → Bool) (a s : ℕ) : Type 0 where
  pub inside : s < n
  pub holds : p s ≡ true
  pub least : (t : ℕ) → t < n → p t ≡ true → dist n a s ≤ dist n a t

module _ (n : ℕ) (p : ℕ → Bool) (a : ℕ) (ha : a < n) where
  -- p holds at t, so it does not fail at all places up to t's distance
  passed : (i t : ℕ) → t < n → p t ≡ true → ((j : ℕ) → j < i → p (ahead n a (1 + j)) ≡ false) → i < dist n a t
  passed i t ht e f = ⊎_elim (λ h. clash (sym (at h) ∙ e)) (λ h. h) (le_or (dist n a t) i)
    where
      at : dist n a t ≤ i → p t ≡ false
      at h =
          let r = dist_range n a t ha ht in
          let s : dist n a t ≡ 1 + (dist n a t - 1) = omega arith in
          ap p (sym (ahead_dist n a t ha ht) ∙ ap (ahead n a) s) ∙ f (dist n a t - 1) (omega arith)

  -- `next` is n where p holds nowhere, and else the nearest
  pub next_cases : ((next n p a ≡ n) × ((s : ℕ) → s < n → p s ≡ false)) ⊎ Nearest n p a (next n p a)
  unfolding next
  next_cases = go (first_cases n p a n 1)
    where
      go : Hit n p a n 1 (first n p a n 1) ⊎ Miss n p a n 1 (first n p a n 1)
          → ((first n p a n 1 ≡ n) × ((s : ℕ) → s < n → p s ≡ false)) ⊎ Nearest n p a (first n p a n 1)
      go (inl h) =
          inr (record {
            inside = subst (λ (x : ℕ). x < n) (sym h.is) (ahead_lt n a (1 + h.i) ha);
            holds = ap p h.is ∙ h.holds;
            least = λ t ht e.
                let far = passed h.i t ht e h.before in
                let l = h.inside in
                let near : dist n a (first n p a n 1) ≡ 1 + h.i = ap (dist n a) h.is ∙ dist_ahead n a (1 + h.i) ha (omega arith) (omega arith) in
                omega arith;
          })
      go (inr h) =
          inl (
            h.is,
            λ s hs. ⊎_elim
                (λ e. let far = passed n s hs e h.none in let r = dist_range n a s ha hs in absurd (let z : ⊥ = omega arith in z))
                (λ f. f)
                (true_or (p s)),
          )

  -- where p holds somewhere, `next` is the nearest
  pub next_nearest : (t : ℕ) → t < n → p t ≡ true → Nearest n p a (next n p a)
  next_nearest t ht e = ⊎_elim (λ w. clash (sym (w.1 t ht) ∙ e)) (λ w. w) next_cases

  -- the nearest is one: `next` is whatever place is the nearest
  pub next_unique : (s : ℕ) → Nearest n p a s → next n p a ≡ s
  next_unique s h =
      let g = next_nearest s h.inside h.holds in
      let l = g.least s h.inside h.holds in
      let m = h.least (next n p a) g.inside g.holds in
      dist_inj n a (next n p a) s ha g.inside h.inside (omega arith)

  -- `next` by a count: p holds i + 1 places after a, and nowhere before
  pub next_at : (i : ℕ) → i < n → p (ahead n a (1 + i)) ≡ true → ((j : ℕ) → j < i → p (ahead n a (1 + j)) ≡ false) → next n p a ≡ ahead n a (1 + i)
  next_at i h e f =
      next_unique (ahead n a (1 + i)) (record {
        inside = ahead_lt n a (1 + i) ha;
        holds = e;
        least = λ t ht q.
            let far = passed i t ht q f in
            let near : dist n a (ahead n a (1 + i)) ≡ 1 + i = dist_ahead n a (1 + i) ha (omega arith) (omega arith) in
            omega arith;
      })

  pub next_none : ((s : ℕ) → s < n → p s ≡ false) → next n p a ≡ n
  next_none f = ⊎_elim (λ w. w.0) (λ w. clash (sym (f (next n p a) w.inside) ∙ w.holds)) next_cases

  pub next_le : next n p a ≤ n
  next_le = ⊎_elim (λ w. omega arith) (λ w. le_of_lt w.inside) next_cases

  -- below n, `next` is the nearest
  pub next_hit : next n p a < n → Nearest n p a (next n p a)
  next_hit h = ⊎_elim (λ w. absurd (let z : ⊥ = omega arith in z)) (λ w. w) next_cases

  -- fairness: a place t at which p holds, and which is not the next, is nearer from the next than it was from a
  pub nearer : (t : ℕ) → t < n → p t ≡ true → (next n p a ≡ t → ⊥) → dist n (next n p a) t < dist n a t
  nearer t ht e ne =
      let g = next_nearest t ht e in
      let l = g.least t ht e in
      let s = next n p a in
      let less : dist n a s < dist n a t = lt_of_le-ne l (λ q. ne (dist_inj n a s t ha g.inside ht q)) in
      let r = dist_range n a s ha g.inside in
      omega (arith, dist_sub n a s t ha g.inside ht less)

-- fairness of a run: the marks m 0, m 1, .. each the next after the one before it by the sets p 0, p 1, ..
-- A place t that stays in the sets is served within as many takes as its distance, so within n.
pub served : (n : ℕ) (p : ℕ → ℕ → Bool) (m : ℕ → ℕ) → m 0 < n → ((i : ℕ) → m (suc i) ≡ next n (p i) (m i))
    → (t : ℕ) → t < n → (k : ℕ) → dist n (m 0) t ≤ k → ((i : ℕ) → i < k → p i t ≡ true) → (i : ℕ) × (i < k) × (m (suc i) ≡ t)
served n p m h st t ht zero l e = let r = dist_range n (m 0) t h ht in absurd (let z : ⊥ = omega arith in z)
served n p m h st t ht (suc k) l e = go (ℕ_discrete (next n (p 0) (m 0)) t) (λ h' l'. served n (λ i. p (suc i)) (λ i. m (suc i)) h' (λ i. st (suc i)) t ht k l' (λ i q. e (suc i) (suc-le-suc q)))
  where
    go : Dec (next n (p 0) (m 0) ≡ t)
        → (m 1 < n → dist n (m 1) t ≤ k → (i : ℕ) × (i < k) × (m (suc (suc i)) ≡ t))
        → (i : ℕ) × (i < suc k) × (m (suc i) ≡ t)
    go (yes q) ih = (0, zero-lt-suc k, st 0 ∙ q)
    go (no q) ih =
        let near = nearer n (p 0) (m 0) h t ht (e 0 (zero-lt-suc k)) q in
        let e1 = ap (λ (x : ℕ). dist n x t) (st 0) in
        let g = next_nearest n (p 0) (m 0) h t ht (e 0 (zero-lt-suc k)) in
        let w = ih (subst (λ (x : ℕ). x < n) (sym (st 0)) g.inside) (omega arith) in
        (suc w.0, suc-le-suc w.1, w.2)

-- tests that agree on the places of the round have the same next
pub next_same : (n : ℕ) (p q : ℕ → Bool) (a : ℕ) → a < n → ((s : ℕ) → s < n → p s ≡ q s) → next n p a ≡ next n q a
next_same n p q a h f =
    ⊎_elim
    (λ w. w.0 ∙ sym (next_none n q a h (λ s l. sym (f s l) ∙ w.1 s l)))
    (λ w. sym (next_unique n q a h (next n p a) (record {
      inside = w.inside;
      holds = sym (f (next n p a) w.inside) ∙ w.holds;
      least = λ t l e. w.least t l (f t l ∙ e);
    })))
    (next_cases n p a h)
