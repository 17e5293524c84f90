-- Parts of lists; a lent table whose front is filled (SCOPE 3.14, 20.1); and what holds of each element of a list, or of each number below a bound.
-- Assumes nothing.
use Rattle.std.specs.Prelude.{Bool, true, ◌&&◌, List, [], ◌∷◌, ◌++◌, ℕ, zero, suc, ◌+◌, ◌-◌, length, take, drop}
use Rattle.ground.specs.Cases.{pick}
use Rattle.ground.specs.Refusals.{Said}

-- the elements from the place a up to the place e
abbrev pub part : {A : Type 0} → List A → ℕ → ℕ → List A
part s a e = take (e - a) (drop a s)

-- the elements from a place on, but at most `most` of them
abbrev pub part_from : {A : Type 0} → ℕ → ℕ → List A → List A
part_from from most s = take most (drop from s)

-- a table whose front is filled; what lies behind the front stays as it was
abbrev pub filled : {A : Type 0} → List A → List A → List A
filled front old = front ++ drop (length front) old

-- the list d with s laid over a part of it, from the place `at` on; what lies before that part and behind it stays
unfoldable pub laid : {A : Type 0} → List A → ℕ → List A → List A
laid d at s = take at d ++ (s ++ drop (at + length s) d)

-- A lent table or output after a call. Where the call is granted, its front is filled and what lies behind stays. A refusal "alters nothing" (SCOPE 20.1).
abbrev pub table_after : Said → List ℕ → List ℕ → List ℕ
table_after said front old = pick said.is_granted (filled front old) old

-- each element changed by f, which is told the element's place; the first element has the place i
abbrev pub map_from : {A : Type 0} → (ℕ → A → A) → ℕ → List A → List A
map_from f i [] = []
map_from f i (x ∷ s) = f i x ∷ map_from f (suc i) s

-- P holds of each element
abbrev pub Each : {A : Type 0} → (A → Type 0) → List A → Type 0
Each P [] = Unit
Each P (x ∷ s) = P x × Each P s

-- each number below n passes the test
unfoldable pub all_below : ℕ → (ℕ → Bool) → Bool
all_below zero test = true
all_below (suc n) test = all_below n test && test n

-- the sum of f of 0, f of 1, and so on up to f of n - 1
unfoldable pub sum_below : ℕ → (ℕ → ℕ) → ℕ
sum_below zero f = 0
sum_below (suc n) f = sum_below n f + f n

-- n numbers, each one more than the one before, from `first` on
abbrev pub span : ℕ → ℕ → List ℕ
span first zero = []
span first (suc n) = first ∷ span (suc first) n

-- the elements that pass the test
abbrev pub those : (ℕ → Bool) → List ℕ → List ℕ
those test [] = []
those test (x ∷ s) = pick (test x) (x ∷ those test s) (those test s)
