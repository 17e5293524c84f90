-- A round of n places, 0 to n - 1, and the first place after a mark at which a test holds (SCOPE 19.2 and 19.3).
-- Assumes nothing.
use Rattle.std.specs.Prelude.{Bool, cond, ℕ, zero, suc, ◌+◌, ◌-◌, ◌%◌, ltb}

-- the place d places after a
abbrev pub ahead : ℕ → ℕ → ℕ → ℕ
ahead n a d = (a + d) % n

-- of the k places d, d + 1, .. after a, the first at which p holds; n where it holds at none
unfoldable pub first : ℕ → (ℕ → Bool) → ℕ → ℕ → ℕ → ℕ
first n p a zero d = n
first n p a (suc k) d = cond (p (ahead n a d)) (ahead n a d) (first n p a k (suc d))

-- the rounds of a take, that of the clients and that of a client's places, are this: of the places a + 1, a + 2, .., a + n, round n, the first at which p
-- holds (SCOPE 19.2 and 19.3); n where it holds at none
unfoldable pub next : ℕ → (ℕ → Bool) → ℕ → ℕ
unfolding first
next n p a = first n p a n 1

-- how many places after a, round n, s stands: 1 to n
unfoldable pub dist : ℕ → ℕ → ℕ → ℕ
dist n a s = cond (ltb a s) (s - a) (n + s - a)
