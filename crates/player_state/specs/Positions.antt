-- Positions that are moved or written (SCOPE 9.7, 9.8, 13.7). `end` is D.
-- Assumes nothing.
use Rattle.std.specs.Prelude.{ℕ, suc, min, ◌+◌, ◌-◌, ◌*◌, ltb, ℤ, pos, negsuc}
use Rattle.ground.specs.Cases.{pick}

-- SCOPE 9.7: "Move Relative goes to the sum of the position and its number, held to 0 and D: below 0 it is 0, and above D it is D." Subtraction stops at 0.
unfoldable pub held_sum : ℕ → ℕ → ℤ → ℕ
held_sum end position (pos k) = min (position + k) end
held_sum end position (negsuc k) = min (position - suc k) end

-- SCOPE 9.8: "From 0 up, the position becomes the lesser of v and D. Below 0, it becomes D + v, and not less than 0."
unfoldable pub written : ℕ → ℤ → ℕ
written end (pos v) = min v end
written end (negsuc k) = end - suc k

-- the number of an octet, which is in two's complement (SCOPE 2.1)
abbrev pub signed_octet : ℕ → ℤ
signed_octet s = pick (ltb s 0x80) (pos s) (negsuc (0xFF - s))

-- SCOPE 13.7: "In Seeking, d times the seeking speed is added to the position, held to 0 and D."
abbrev pub sought_by : ℕ → ℕ → ℕ → ℤ → ℕ
sought_by end position d (pos k) = min (position + d * k) end
sought_by end position d (negsuc k) = min (position - d * suc k) end

unfoldable pub sought : ℕ → ℕ → ℕ → ℕ → ℕ
sought end position speed d = sought_by end position d (signed_octet speed)
