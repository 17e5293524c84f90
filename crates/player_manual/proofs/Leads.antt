-- What every single move keeps, a Goto by single steps keeps. Assumes nothing.
use mathlib.Core.Path.{◌≡◌, sym, subst}
use Prim.Native.Nat.{ℕ, zero, suc}
use lib.IntN.{ℤ, pos, negsuc}
use Rattle.std.specs.Prelude.{Option, Some, None}
use Rattle.player_walk.specs.Signed.{signed_word}
use Rattle.player_walk.specs.declared.Step.{Step}
use Rattle.player_walk.specs.declared.Step.TheVariants.{Previous, Next, First, Last}
use Rattle.player_manual.specs.Made.{counted, steps, from_end, goto_by_steps, by_steps, found}
use Rattle.player_manual.specs.declared.Made.{Made}
use Rattle.player_manual.specs.declared.Made.TheVariants.{All}
use Rattle.player_manual.proofs.Places.{Holds}
use Rattle.player_manual.proofs.Steps.{found_more}

module _ (P : ℕ → Type 0) where
  keeps_counted : (p : Option ℕ) (go : ℕ → Made ℕ) → Holds P p → ((x : ℕ) → P x → Holds P (found (go x))) → Holds P (found (counted p go))
  keeps_counted (Some x) go h e = subst (Holds P) (sym (found_more 1 (go x))) (e x h)
  keeps_counted None go h e = tt

  keeps_steps : (step : ℕ → Option ℕ) → ((x : ℕ) → P x → Holds P (step x)) → (allowed m x : ℕ) → P x → Holds P (found (steps step allowed m x))
  keeps_steps step stay allowed zero x h = h
  keeps_steps step stay zero (suc m) x h = tt
  keeps_steps step stay (suc allowed) (suc m) x h = keeps_counted (step x) (steps step allowed m) (stay x h) (keeps_steps step stay allowed m)

  keeps_from : (end : Option ℕ) (step : ℕ → Option ℕ) → Holds P end → ((x : ℕ) → P x → Holds P (step x)) → (allowed m : ℕ) → Holds P (found (from_end end step allowed m))
  keeps_from end step h stay zero m = tt
  keeps_from end step h stay (suc allowed) m = keeps_counted end (steps step allowed m) h (keeps_steps step stay allowed m)

  module _ (move : Step → ℕ → Option ℕ) (stay : (s : Step) (x : ℕ) → P x → Holds P (move s x)) (n allowed x : ℕ) (h : P x) where
    pub keeps : Holds P (found (by_steps move n allowed x))
    unfolding by_steps goto_by_steps
    keeps = go (signed_word n)
      where
        go : (z : ℤ) → Holds P (found (goto_by_steps z allowed x (move First x) (move Next) (move Last x) (move Previous)))
        go (pos zero) = h
        go (pos (suc m)) = keeps_from (move First x) (move Next) (stay First x h) (stay Next) allowed m
        go (negsuc m) = keeps_from (move Last x) (move Previous) (stay Last x h) (stay Previous) allowed m

    -- of the number that all steps led to
    pub leads_to : (y count : ℕ) → by_steps move n allowed x ≡ All y count → P y
    leads_to y count e = subst (λ (r : Made ℕ). Holds P (found r)) e keeps
