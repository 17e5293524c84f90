-- The five moves along a list: Previous, Next, First, Last and Goto (SCOPE 10.6, 11.5, 11.6, 12.2). Track moves and group moves are made of them.
-- Assumes nothing.
use Rattle.std.specs.Prelude.{Bool, true, false, List, [], ◌∷◌, ℕ, zero, suc, eqb, ℤ, pos, negsuc, length, Option, Some, None}
use Rattle.ground.specs.Cases.{pick}
use Rattle.player_walk.specs.Signed.{signed_word}
use Rattle.player_walk.specs.declared.Step.{Step}
use Rattle.player_walk.specs.declared.Step.TheVariants.{Previous, Next, First, Last, Goto}

-- what stands at a place of a list, counted from 0; and what stands directly before a place
abbrev pub at : List ℕ → ℕ → Option ℕ
at [] k = None
at (x ∷ l) zero = Some x
at (x ∷ l) (suc k) = at l k

abbrev pub before : List ℕ → ℕ → Option ℕ
before l zero = None
before l (suc k) = at l k

-- the place of x in a list that holds it
abbrev pub place : ℕ → List ℕ → ℕ
place x [] = 0
place x (y ∷ l) = pick (eqb x y) 0 (suc (place x l))

-- the neighbours of x, and the two ends of the list
abbrev pub next_of : List ℕ → ℕ → Option ℕ
next_of l x = at l (suc (place x l))

abbrev pub previous_of : List ℕ → ℕ → Option ℕ
previous_of l x = before l (place x l)

abbrev pub first_of : List ℕ → Option ℕ
first_of l = at l 0

abbrev pub last_of : List ℕ → Option ℕ
last_of l = before l (length l)

-- SCOPE 11.5: "Past an end they go to the other end in a repeat order", and else nothing is found
abbrev pub or_else : Option ℕ → Bool → Option ℕ → Option ℕ
or_else (Some x) repeat end = Some x
or_else None true end = end
or_else None false end = None

-- Next and Previous, by a list that repeats or does not
abbrev pub step_next : Bool → List ℕ → ℕ → Option ℕ
step_next repeat l x = or_else (next_of l x) repeat (first_of l)

abbrev pub step_previous : Bool → List ℕ → ℕ → Option ℕ
step_previous repeat l x = or_else (previous_of l x) repeat (last_of l)

-- on from what was found. SCOPE 10.6: "If one step cannot be made, the whole has result 4", so nothing is found for the whole.
abbrev pub then : Option ℕ → (ℕ → Option ℕ) → Option ℕ
then (Some x) f = f x
then None f = None

-- the step f made m times, from x
abbrev pub walk : (ℕ → Option ℕ) → ℕ → ℕ → Option ℕ
walk f zero x = Some x
walk f (suc m) x = then (f x) (walk f m)

-- SCOPE 10.6: "for n above 0 it is First, then Next n − 1 times; for n below 0 it is Last, then Previous |n| − 1 times; for 0 no step is made"
unfoldable pub goto : ℤ → ℕ → Option ℕ → (ℕ → Option ℕ) → Option ℕ → (ℕ → Option ℕ) → Option ℕ
goto (pos zero) here first next last previous = Some here
goto (pos (suc m)) here first next last previous = then first (walk next m)
goto (negsuc m) here first next last previous = then last (walk previous m)

-- where a move leads from x along a list; a Goto carries the word of its number
unfoldable pub move_in : Step → Bool → List ℕ → ℕ → Option ℕ
move_in Previous repeat l x = step_previous repeat l x
move_in Next repeat l x = step_next repeat l x
move_in First repeat l x = first_of l
move_in Last repeat l x = last_of l
move_in (Goto n) repeat l x =
    goto (signed_word n) x (first_of l) (step_next repeat l) (last_of l) (step_previous repeat l)
