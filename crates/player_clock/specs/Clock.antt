-- The clock: how far a step of wall time goes at a playback speed (SCOPE 13.1 to 13.3). The table has the speed p, which is −128 to 127, at the place
-- q = p + 128, which is 0 to 255. So 1088 + p is 960 + q.
-- Assumes nothing.
use Rattle.std.specs.Prelude.{Bool, true, ◌&&◌, List, [], ◌∷◌, ℕ, zero, suc, min, ◌+◌, ◌*◌, ◌-◌, ◌/◌, ◌%◌, ◌^◌, ◌≤◌, ◌<◌, leb, ltb}
use Rattle.ground.specs.Cases.{pick}
use Rattle.ground.specs.Limits.{most_duration}
use Rattle.player_clock.specs.declared.Stepped.{Stepped}

-- SCOPE 13.2: "the whole number e with (2e − 1)^64 ≤ 2^(1088 + p) < (2e + 1)^64"
pub record Factor (q e : ℕ) : Type 0 where
  pub low : (2 * e - 1) ^ 64 ≤ 2 ^ (960 + q)
  pub high : 2 ^ (960 + q) < (2 * e + 1) ^ 64

-- The second of these inequalities as a test, and both as a test; and both for each entry of a table, of which the first has the place q.
abbrev pub above : ℕ → ℕ → Bool
above q e = ltb (2 ^ (960 + q)) ((2 * e + 1) ^ 64)

abbrev pub is_factor : ℕ → ℕ → Bool
is_factor q e = leb ((2 * e - 1) ^ 64) (2 ^ (960 + q)) && above q e

unfoldable pub factors_from : ℕ → List ℕ → Bool
factors_from q [] = true
factors_from q (e ∷ s) = is_factor q e && factors_from (suc q) s

unfoldable pub table_rule : List ℕ → Bool
table_rule table = factors_from 0 table

-- the first number from e on that passes a test; at most n numbers are tried
unfoldable pub first_from : (ℕ → Bool) → ℕ → ℕ → ℕ
first_from test zero e = e
first_from test (suc n) e = pick (test e) e (first_from test n (suc e))

-- The factor of SCOPE 13.2, defined as the least number that passes the second inequality. It is never computed so. `Factors` proves that it passes both
-- inequalities, and that no other number does.
unfoldable pub factor_of : ℕ → ℕ
factor_of q = first_from (above q) (2 ^ (960 + q)) 0

-- p + 128, of a speed that is an octet in two's complement
abbrev pub place_of : ℕ → ℕ
place_of speed = (speed + 128) % 256

-- a hundredth of a second has so many parts, the 65,536ths of SCOPE 13.3
abbrev pub parts : ℕ
parts = 65536

-- SCOPE 13.3: "d times e is added to the rest. The player goes on by the whole 65,536ths of that, where more than 8,640,000 counts as 8,640,000. What is left
-- over, 0 to 65,535, is the new rest."
abbrev pub stepped_by : ℕ → ℕ → ℕ → Stepped
stepped_by e rest d = record { whole = min ((rest + d * e) / parts) most_duration; rest = (rest + d * e) % parts }

-- a step of d, on from a rest, at a speed (SCOPE 13.3)
unfoldable pub stepped : ℕ → ℕ → ℕ → Stepped
stepped rest d speed = stepped_by (factor_of (place_of speed)) rest d

-- SCOPE 8.6: "the rest of the clock (13.3), 0 to 65,535"
abbrev pub rest_rule : ℕ → Bool
rest_rule rest = ltb rest parts
