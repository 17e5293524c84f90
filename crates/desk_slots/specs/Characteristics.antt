-- Lists of the characteristics, and sets of them as words of bits.
-- Assumes nothing.
use Rattle.std.specs.Prelude.{Bool, true, false, ◌||◌, List, [], ◌∷◌, ℕ, zero, suc, eqb}
use Rattle.ground.specs.Cases.{pick}
use Rattle.desk_slots.specs.Table.{characteristics, numbers_of}
use Rattle.desk_slots.specs.Slots.{insert}

-- all that there are; those that may be read, and written; and those that are not owed to the client that wrote them
abbrev pub every_one : List ℕ
every_one = numbers_of (λ c. true) characteristics

abbrev pub readables : List ℕ
readables = numbers_of (λ c. c.read) characteristics

abbrev pub writables : List ℕ
writables = numbers_of (λ c. c.written) characteristics

abbrev pub writer_knows : List ℕ
writer_knows = numbers_of (λ c. c.spared) characteristics

unfoldable pub is_in : List ℕ → ℕ → Bool
is_in [] c = false
is_in (k ∷ s) c = eqb k c || is_in s c

-- the set of the numbers below n of which p holds, as a word of bits
unfoldable pub set_of : ℕ → (ℕ → Bool) → ℕ
unfolding insert
set_of zero p = 0
set_of (suc n) p = pick (p n) (insert (set_of n p) n) (set_of n p)
