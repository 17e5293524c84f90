-- The manual's Goto (SCOPE 15): it "really makes First or Last and then each step, up to a given number of allowed steps" (SCOPE 15.1). It is defined for any
-- player of the five moves that `player_walk` has, on numbers that may be tracks, groups or positions.
-- Assumes nothing.
use Rattle.std.specs.Prelude.{ℕ, zero, suc, ◌+◌, ℤ, pos, negsuc, Option, Some, None}
use Rattle.player_walk.specs.Signed.{signed_word}
use Rattle.player_walk.specs.declared.Step.{Step}
use Rattle.player_walk.specs.declared.Step.TheVariants.{Previous, Next, First, Last}
use Rattle.player_manual.specs.declared.Made.{Made}
use Rattle.player_manual.specs.declared.Made.TheVariants.{All, Stopped, RanOut}

-- an outcome, with a number in place of what carries the number
abbrev pub numbered : {P : Type 0} → (P → ℕ) → Made P → Made ℕ
numbered number (All x n) = All (number x) n
numbered number (Stopped n) = Stopped n
numbered number (RanOut n) = RanOut n

-- an outcome with k steps more: SCOPE 15.2 has "the steps made, First or Last counted"
abbrev pub more : ℕ → Made ℕ → Made ℕ
more k (All x n) = All x (k + n)
more k (Stopped n) = Stopped (k + n)
more k (RanOut n) = RanOut (k + n)

-- On from where a step led, with that step counted. SCOPE 15.4: "Where a step cannot be made, it stops there. The count includes that step".
abbrev pub counted : Option ℕ → (ℕ → Made ℕ) → Made ℕ
counted (Some x) go = more 1 (go x)
counted None go = Stopped 1

-- m steps from x, of which so many are allowed. SCOPE 15.5: "If the allowed steps run out before the last step or such a stop, it says so (outcome 0), the
-- count is the number allowed".
abbrev pub steps : (ℕ → Option ℕ) → ℕ → ℕ → ℕ → Made ℕ
steps step allowed zero x = All x 0
steps step zero (suc m) x = RanOut 0
steps step (suc allowed) (suc m) x = counted (step x) (steps step allowed m)

-- First or Last, and then m steps; First or Last needs an allowance too (SCOPE 15.2)
abbrev pub from_end : Option ℕ → (ℕ → Option ℕ) → ℕ → ℕ → Made ℕ
from_end end step zero m = RanOut 0
from_end end step (suc allowed) m = counted end (steps step allowed m)

-- SCOPE 10.6, as `goto` of `player_walk` has it, clause by clause: "for n above 0 it is First, then Next n − 1 times; for n below 0 it is Last, then Previous
-- |n| − 1 times; for 0 no step is made". SCOPE 15.6: "For n = 0 there is no step, the count is 0 whatever is allowed".
unfoldable pub goto_by_steps : ℤ → ℕ → ℕ → Option ℕ → (ℕ → Option ℕ) → Option ℕ → (ℕ → Option ℕ) → Made ℕ
goto_by_steps (pos zero) allowed here first next last previous = All here 0
goto_by_steps (pos (suc m)) allowed here first next last previous = from_end first next allowed m
goto_by_steps (negsuc m) allowed here first next last previous = from_end last previous allowed m

-- Goto n from x, of a player whose five moves are `move`; n is the word of the number
unfoldable pub by_steps : (Step → ℕ → Option ℕ) → ℕ → ℕ → ℕ → Made ℕ
by_steps move n allowed x = goto_by_steps (signed_word n) allowed x (move First x) (move Next) (move Last x) (move Previous)

-- |n|, which is the count when all steps were made (SCOPE 15.2)
abbrev pub size : ℤ → ℕ
size (pos n) = n
size (negsuc m) = suc m

-- where all steps led; nothing where it stopped or ran out
abbrev pub found : Made ℕ → Option ℕ
found (All x n) = Some x
found (Stopped n) = None
found (RanOut n) = None
