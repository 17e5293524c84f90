-- The same moves on the places of a list of `len` elements, without walking: what the code computes (SCOPE 10.6, 11.5). `proofs/Walk.antt` proves that they
-- lead to the same elements.
-- Assumes nothing.
use Rattle.std.specs.Prelude.{Bool, true, false, ℕ, zero, suc, ◌+◌, ◌-◌, ◌%◌, ltb, ℤ, pos, negsuc, Option, Some, None}
use Rattle.ground.specs.Cases.{pick}
use Rattle.player_walk.specs.Signed.{signed_word}
use Rattle.player_walk.specs.declared.Step.{Step}
use Rattle.player_walk.specs.declared.Step.TheVariants.{Previous, Next, First, Last, Goto}
use Rattle.player_walk.specs.declared.Way.{Way}
use Rattle.player_walk.specs.declared.Way.TheVariants.{Stay, Ahead, Back}

-- a number taken apart: `Ahead m` is m + 1 and `Back m` is -(m + 1), so that m says how often the step behind First or Last is made
abbrev pub way_of : ℤ → Way
way_of (pos zero) = Stay
way_of (pos (suc m)) = Ahead m
way_of (negsuc m) = Back m

-- The place that m steps ahead lead to from the first. Only where the order repeats is m folded by the count; otherwise too many steps lead nowhere
-- (SCOPE 10.6, 22.4).
abbrev pub wrap : Bool → ℕ → ℕ → Option ℕ
wrap true len m = Some (m % len)
wrap false len m = pick (ltb m len) (Some m) None

-- a place counted from the other end
abbrev pub mirror : ℕ → Option ℕ → Option ℕ
mirror len (Some k) = pick (ltb k len) (Some (len - 1 - k)) None
mirror len None = None

-- the place that Goto leads to from the place k (SCOPE 10.6)
abbrev pub goto_place : Bool → ℕ → ℕ → Way → Option ℕ
goto_place repeat len k Stay = Some k
goto_place repeat len k (Ahead m) = wrap repeat len m
goto_place repeat len k (Back m) = mirror len (wrap repeat len m)

-- the place that a move leads to from the place k (SCOPE 11.5, 11.6)
unfoldable pub place_after : Step → Bool → ℕ → ℕ → Option ℕ
place_after Previous repeat len k = pick (ltb 0 k) (Some (k - 1)) (pick repeat (Some (len - 1)) None)
place_after Next repeat len k = pick (ltb (k + 1) len) (Some (k + 1)) (pick repeat (Some 0) None)
place_after First repeat len k = Some 0
place_after Last repeat len k = Some (len - 1)
place_after (Goto n) repeat len k = goto_place repeat len k (way_of (signed_word n))
