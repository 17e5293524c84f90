-- What holds of each element of a list. Assumes nothing.
use mathlib.Core.List.{List, [], ◌∷◌, ◌++◌, map}
use mathlib.Core.Bool.{Bool, true, false}
use Prim.Native.Nat.{ℕ, zero, suc, ◌+◌, ◌<◌, suc-le-suc}
use native.Mathlib.Omega.{arith}
use lib.ListN.{length, get_or}
use Rattle.ground.specs.Cases.{pick}
use Rattle.ground.specs.Lists.{Each, span, those}

pub each_map : {A B : Type 0} (P : A → Type 0) (Q : B → Type 0) (f : A → B) → ((x : A) → P x → Q (f x)) → (s : List A) → Each P s → Each Q (map f s)
each_map P Q f step [] e = tt
each_map P Q f step (x ∷ s) e = (step x e.0, each_map P Q f step s e.1)

pub each_same : {A : Type 0} {P Q : A → Type 0} → ((x : A) → P x → Q x) → (s : List A) → Each P s → Each Q s
each_same step [] e = tt
each_same step (x ∷ s) e = (step x e.0, each_same step s e.1)

module _ {A : Type 0} (P : A → Type 0) where
  pub each_append : (s t : List A) → Each P s → Each P t → Each P (s ++ t)
  each_append [] t e f = f
  each_append (x ∷ s) t e f = (e.0, each_append s t e.1 f)

  pub each_at : (d : A) (s : List A) → ((i : ℕ) → i < length s → P (get_or s i d)) → Each P s
  each_at d [] h = tt
  each_at d (x ∷ s) h = (h 0 (omega arith), each_at d s (λ i k. h (suc i) (suc-le-suc k)))

module _ (P : ℕ → Type 0) where
  pub each_span : (a n : ℕ) → ((x : ℕ) → x < a + n → P x) → Each P (span a n)
  each_span a zero h = tt
  each_span a (suc n) h = (h a (omega arith), each_span (suc a) n (λ x k. h x (omega arith)))

  pub each_those : (test : ℕ → Bool) (s : List ℕ) → Each P s → Each P (those test s)
  each_those test [] e = tt
  each_those test (x ∷ s) e = by (test x) (each_those test s e.1)
    where
      by : (t : Bool) → Each P (those test s) → Each P (pick t (x ∷ those test s) (those test s))
      by true r = (e.0, r)
      by false r = r
