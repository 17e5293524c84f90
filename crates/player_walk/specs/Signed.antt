-- A signed number of 32 bits, out of its word. SCOPE 2.1: "Signed numbers are in two's complement."
-- Assumes nothing.
use Rattle.std.specs.Prelude.{Bool, true, false, ℕ, ◌-◌, ltb, ℤ, pos, negsuc}
use Rattle.ground.specs.Cases.{pick}

-- the number of a word: `pos k` is k, and `negsuc k` is -(k + 1), so that |n| is never made in 32 bits
unfoldable pub signed_word : ℕ → ℤ
signed_word w = pick (ltb w 0x8000_0000) (pos w) (negsuc (0xFFFF_FFFF - w))

-- the number is below 0
abbrev pub is_negative : ℤ → Bool
is_negative (pos k) = false
is_negative (negsuc k) = true
