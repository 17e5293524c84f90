-- The manual's Goto on the places of a list (SCOPE 15), which is what the code walks on. `proofs/Along.antt` proves that it is the walk along the list.
-- Assumes nothing.
use Rattle.std.specs.Prelude.{ℕ, Bool, Option, Some, None}
use Rattle.player_walk.specs.Places.{place_after}
use Rattle.player_walk.specs.declared.Step.{Step}
use Rattle.player_manual.specs.declared.Made.{Made}
use Rattle.player_manual.specs.declared.Made.TheVariants.{All, Stopped, RanOut}

-- the five moves on the places of a list of `len` elements
abbrev pub on_places : Bool → ℕ → Step → ℕ → Option ℕ
on_places repeat len step k = place_after step repeat len k

-- an outcome on places, turned into one on what stands at the place
abbrev pub landed : Option ℕ → ℕ → Made ℕ
landed (Some x) n = All x n
landed None n = Stopped n

abbrev pub onto : (ℕ → Option ℕ) → Made ℕ → Made ℕ
onto what (All k n) = landed (what k) n
onto what (Stopped n) = Stopped n
onto what (RanOut n) = RanOut n
