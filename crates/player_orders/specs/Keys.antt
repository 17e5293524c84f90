-- The keys by which the code puts tracks in order (SCOPE 11.1, 11.2): of two tracks, the one that comes before has the lesser key. `proofs/Compare.antt` proves
-- it.
-- Assumes nothing.
use Rattle.std.specs.Prelude.{List, [], ◌∷◌, ℕ, suc, ◌+◌, ◌-◌, ◌*◌, ltb}
use Rattle.ground.specs.Cases.{pick}
use Rattle.catalogue_tables.specs.Tables.{stamp_of}
use Rattle.player_orders.specs.declared.By.{By}
use Rattle.player_orders.specs.declared.By.TheVariants.{Number, Rising, Falling}

-- what the stamp adds to a key; it counts above the number of the track
abbrev pub major : By → ℕ → ℕ
major Number stamp = 0
major Rising stamp = stamp
major Falling stamp = 0xFFFF_FFFF - stamp

-- the key of a track: first by the stamp, then by the number
abbrev pub key_of : By → List ℕ → ℕ → ℕ
key_of by tracks t = major by (stamp_of tracks t) * 0x1_0000_0000 + t

-- how many elements of a list have a key below x: the place of the key x in the order
abbrev pub below : (ℕ → ℕ) → ℕ → List ℕ → ℕ
below f x [] = 0
below f x (u ∷ l) = pick (ltb (f u) x) (suc (below f x l)) (below f x l)
