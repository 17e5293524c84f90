-- The numbers of a span that pass a test rise, so each stands at the place that its number of forerunners says. Assumes nothing.
use mathlib.Core.Path.{◌≡◌, refl, sym, ap, ◌∙◌}
use mathlib.Core.Bool.{Bool, true, false}
use mathlib.Core.List.{◌∷◌}
use Prim.Native.Nat.{ℕ, zero, suc, ◌+◌, ◌<◌, ◌≤◌, suc-le-suc}
use native.Mathlib.Nat.{not-suc-le-zero, le_of_suc-le-suc, lt_irrefl, add-zero}
use native.Mathlib.Omega.{arith}
use borrow.Author.Tests.{eq-eqb, ne_eqb}
use lib.ListN.{length, get_or}
use Rattle.ground.specs.Cases.{pick}
use Rattle.ground.specs.Lists.{span, those}
use Rattle.player_walk.specs.Steps.{place}

module _ (test : ℕ → Bool) where
  -- what holds of each number of the span that passes holds of each element
  pub each : (P : ℕ → Type 0) (n a k : ℕ) → ((x : ℕ) → a ≤ x → x < a + n → test x ≡ true → P x) → k < length (those test (span a n)) → P (get_or (those test (span a n)) k 0)
  each P zero a k h q = absurd (not-suc-le-zero q)
  each P (suc n) a k h q = go (test a) refl k q (λ j. each P n (suc a) j (λ x u v t. h x (omega arith) (omega arith) t))
    where
      go : (b : Bool) → test a ≡ b → (k : ℕ) → k < length (pick b (a ∷ those test (span (suc a) n)) (those test (span (suc a) n)))
          → ((j : ℕ) → j < length (those test (span (suc a) n)) → P (get_or (those test (span (suc a) n)) j 0))
          → P (get_or (pick b (a ∷ those test (span (suc a) n)) (those test (span (suc a) n))) k 0)
      go true t zero q r = h a (omega arith) (omega arith) t
      go true t (suc k) q r = r k (le_of_suc-le-suc q)
      go false t k q r = r k q

  pub placed : (n a k : ℕ) → k < length (those test (span a n)) → place (get_or (those test (span a n)) k 0) (those test (span a n)) ≡ k
  placed zero a k q = absurd (not-suc-le-zero q)
  placed (suc n) a k q = go (test a) k q (λ j. placed n (suc a) j)
    where
      above : (k : ℕ) → k < length (those test (span (suc a) n)) → a < get_or (those test (span (suc a) n)) k 0
      above k q = each (λ x. a < x) n (suc a) k (λ x u v t. u) q

      go : (b : Bool) → (k : ℕ) → k < length (pick b (a ∷ those test (span (suc a) n)) (those test (span (suc a) n)))
          → ((j : ℕ) → j < length (those test (span (suc a) n)) → place (get_or (those test (span (suc a) n)) j 0) (those test (span (suc a) n)) ≡ j)
          → place (get_or (pick b (a ∷ those test (span (suc a) n)) (those test (span (suc a) n))) k 0) (pick b (a ∷ those test (span (suc a) n)) (those test (span (suc a) n))) ≡ k
      go true zero q r = rw (eq-eqb a a refl)
      go true (suc k) q r =
          let g : a < get_or (those test (span (suc a) n)) k 0 = above k (le_of_suc-le-suc q) in
          rw (ne_eqb (get_or (those test (span (suc a) n)) k 0) a (λ e. lt_irrefl a (omega arith))) (ap suc (r k (le_of_suc-le-suc q)))
      go false k q r = r k q

  -- the place of a number that passes
  pub stands : (n a j : ℕ) → j < n → test (a + j) ≡ true
      → (length (those test (span a j)) < length (those test (span a n))) × (get_or (those test (span a n)) (length (those test (span a j))) 0 ≡ a + j)
  stands zero a j h t = absurd (not-suc-le-zero h)
  stands (suc n) a zero h t = let e : test a ≡ true = rw add-zero at t in rw e ((omega arith, omega arith))
  stands (suc n) a (suc j) h t = go (test a) (stands n (suc a) j (le_of_suc-le-suc h) (rw s at t))
    where
      s : a + suc j ≡ suc a + j
      s = omega arith

      go : (b : Bool)
          → (length (those test (span (suc a) j)) < length (those test (span (suc a) n))) × (get_or (those test (span (suc a) n)) (length (those test (span (suc a) j))) 0 ≡ suc a + j)
          → (length (pick b (a ∷ those test (span (suc a) j)) (those test (span (suc a) j))) < length (pick b (a ∷ those test (span (suc a) n)) (those test (span (suc a) n))))
          × (get_or (pick b (a ∷ those test (span (suc a) n)) (those test (span (suc a) n))) (length (pick b (a ∷ those test (span (suc a) j)) (those test (span (suc a) j)))) 0 ≡ a + suc j)
      go true r = (suc-le-suc r.0, r.1 ∙ sym s)
      go false r = (r.0, r.1 ∙ sym s)
