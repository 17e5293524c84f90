-- What the two check octets of a block are (SCOPE 3.4). How they are computed is left to the code.
-- Assumes nothing.
use Rattle.std.specs.Prelude.{List, [], ◌∷◌, ℕ, ◌+◌, ◌%◌}
use Rattle.card_block.specs.declared.CheckSums.{CheckSums}

-- the sum of all elements
unfoldable pub sum_of : List ℕ → ℕ
sum_of [] = 0
sum_of (x ∷ s) = x + sum_of s

-- The running sums of s: at each place the sum of all elements up to it. `before` is what was summed before s.
unfoldable pub running_sums : ℕ → List ℕ → List ℕ
running_sums before [] = []
running_sums before (x ∷ s) = (before + x) ∷ running_sums (before + x) s

-- SCOPE 3.4: the first check octet is "the sum of octets 0 to 509 modulo 255", the second "the sum of the 510 running sums modulo 255".
unfoldable pub sums_of : List ℕ → CheckSums
sums_of s = record { plain = sum_of s % 255; running = sum_of (running_sums 0 s) % 255 }
