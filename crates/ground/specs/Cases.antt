-- Choices by a test, and the bits of a word (SCOPE 2.2).
-- Assumes nothing.
use Rattle.std.specs.Prelude.{Bool, true, false, ◌&&◌, ℕ, ◌/◌, ◌%◌, ◌^◌, leb, eqb}

-- one of two: the first where the test holds, and else the second
abbrev pub pick : {A : Type 0} → Bool → A → A → A
pick true a b = a
pick false a b = b

-- x lies between low and high, both included
abbrev pub within : ℕ → ℕ → ℕ → Bool
within low high x = leb low x && leb x high

-- bit s of a word is set; bits are counted from 0, the lowest
unfoldable pub has : ℕ → ℕ → Bool
has w s = eqb (w / 2 ^ s % 2) 1
