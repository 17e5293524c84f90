-- The playing orders (SCOPE 11.1 to 11.3): for each order a list of the current group's tracks.
-- Assumes nothing.
use Rattle.std.specs.Prelude.{Bool, ◌&&◌, ◌||◌, List, [], ◌∷◌, ℕ, ◌+◌, ◌*◌, ◌%◌, ◌≤◌, ◌<◌, ltb, leb, eqb, Option, Some, None}
use Rattle.ground.specs.Cases.{pick}
use Rattle.ground.specs.Limits.{most_tracks, track_words}
use Rattle.ground.specs.Lists.{span}
use Rattle.catalogue_tables.specs.Tables.{stamp_of}
use Rattle.catalogue_tables.specs.declared.TrackNo.{TrackNo}
use Rattle.player_orders.specs.declared.By.{By}
use Rattle.player_orders.specs.declared.By.TheVariants.{Number, Rising, Falling}

-- SCOPE 11.2: "Of tracks with equal stamps the one with the lower number comes first"
abbrev pub tie_before : List ℕ → ℕ → ℕ → Bool
tie_before tracks t u = eqb (stamp_of tracks t) (stamp_of tracks u) && ltb t u

-- t comes before u: orders 3 and 4 go "by number", 5 and 6 "by rising age stamp", 7 and 8 "by falling age stamp" (SCOPE 11.1)
unfoldable pub comes_before : By → List ℕ → ℕ → ℕ → Bool
comes_before Number tracks t u = ltb t u
comes_before Rising tracks t u = ltb (stamp_of tracks t) (stamp_of tracks u) || tie_before tracks t u
comes_before Falling tracks t u = ltb (stamp_of tracks u) (stamp_of tracks t) || tie_before tracks t u

-- a list put in order, where `before` says which of two comes before the other
abbrev pub insert : (ℕ → ℕ → Bool) → ℕ → List ℕ → List ℕ
insert before t [] = t ∷ []
insert before t (u ∷ l) = pick (before u t) (u ∷ insert before t l) (t ∷ u ∷ l)

abbrev pub sort : (ℕ → ℕ → Bool) → List ℕ → List ℕ
sort before [] = []
sort before (t ∷ l) = insert before t (sort before l)

-- a group's run of tracks, put in order
unfoldable pub ordered : By → List ℕ → ℕ → ℕ → List ℕ
ordered by tracks first count = sort (comes_before by tracks) (span first count)

-- which of the three ways an order goes by, from order 3 on (SCOPE 11.1)
abbrev pub by_of : ℕ → By
by_of order = pick (leb order 4) Number (pick (leb order 6) Rising Falling)

-- SCOPE 11.3: "The odd orders play once. The even orders repeat."
abbrev pub repeats : ℕ → Bool
repeats order = eqb (order % 2) 0

-- SCOPE 11.1: in orders 1 and 2 "the current track alone"
unfoldable pub tracks_in_order : ℕ → List ℕ → ℕ → ℕ → ℕ → List ℕ
tracks_in_order order tracks first count current =
    pick (leb order 2) (current ∷ []) (ordered (by_of order) tracks first count)

-- what was found, as a plain number
abbrev pub near_track : Option TrackNo → Option ℕ
near_track (Some t) = Some t.0
near_track None = None

-- What every function over a group's run asks for: that the run lies in the tracks, of which there are few (SCOPE 4.2); and of `InRun`, that t is in the run.
pub record Run (words first count : ℕ) : Type 0 where
  pub small : first + count ≤ most_tracks
  pub inside : (first + count) * track_words ≤ words

pub record InRun (words first count t : ℕ) : Type 0 where
  pub small : first + count ≤ most_tracks
  pub inside : (first + count) * track_words ≤ words
  pub low : first ≤ t
  pub high : t < first + count
