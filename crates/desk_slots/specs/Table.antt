-- The characteristics (SCOPE 16.1): one table, from which every list of them is taken. "Each has as its number the last part of its section number in the
-- standard."
-- Assumes nothing.
use Rattle.std.specs.Prelude.{Bool, true, false, List, [], ◌∷◌, ℕ, eqb}
use Rattle.ground.specs.Cases.{pick}

-- whether it may be read, and written; whether it has a slot, so that it may be subscribed to; whether a change of it is not owed to the client that wrote
-- it; and how many octets are written, 0 where there is not one such number
pub record Characteristic : Type 0 where
  pub number : ℕ
  pub read : Bool
  pub written : Bool
  pub slot : Bool
  pub spared : Bool
  pub size : ℕ

abbrev shown : ℕ → Bool → Characteristic
shown number slot = record { number = number; read = true; written = false; slot = slot; spared = false; size = 0 }

abbrev knob : ℕ → Bool → ℕ → Characteristic
knob number spared size = record { number = number; read = true; written = true; slot = true; spared = spared; size = size }

-- SCOPE 16.1, row by row: what may be read, written and subscribed to. What is not owed to the client that wrote it is in SCOPE 18.4, and how many octets are
-- written in SCOPE 20.6; of 18 the opcode says how many.
abbrev pub characteristics : List Characteristic
characteristics =
    -- name
    shown 1 true
    -- Track Changed
    ∷ record { number = 4; read = false; written = false; slot = true; spared = false; size = 0 }
    -- title, duration
    ∷ shown 5 true
    ∷ shown 6 true
    -- position, playback speed
    ∷ knob 7 false 4
    ∷ knob 8 true 1
    -- seeking speed
    ∷ shown 9 true
    -- the objects of the current track's segments, of the current track and of the next one
    ∷ shown 10 false
    ∷ knob 11 true 6
    ∷ knob 12 true 6
    -- the objects of the current group's parent and of the current group
    ∷ shown 13 true
    ∷ knob 14 true 6
    -- playing order, orders supported
    ∷ knob 15 true 1
    ∷ shown 16 false
    -- state
    ∷ shown 17 true
    -- control point
    ∷ record { number = 18; read = false; written = true; slot = true; spared = false; size = 0 }
    -- opcodes supported, Content Control ID
    ∷ shown 19 false
    ∷ shown 22 false
    ∷ []

-- the numbers of those that pass a test, in their order
abbrev pub numbers_of : (Characteristic → Bool) → List Characteristic → List ℕ
numbers_of test [] = []
numbers_of test (c ∷ more) = pick (test c) (c.number ∷ numbers_of test more) (numbers_of test more)

-- how many octets are written
abbrev pub size_in : List Characteristic → ℕ → ℕ
size_in [] n = 0
size_in (c ∷ more) n = pick (eqb n c.number) c.size (size_in more n)

unfoldable pub size_of : ℕ → ℕ
size_of n = size_in characteristics n
