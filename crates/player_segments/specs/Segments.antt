-- Segment moves (SCOPE 10.1 to 10.6). A move leads to a position, which is found from the starts of the track's segments and from `past`. That is what Next
-- Segment leads to past the last start: D, or nothing while the recording is still running.
-- Assumes nothing.
use Rattle.std.specs.Prelude.{◌≡◌, List, [], ◌∷◌, ℕ, ◌+◌, ◌-◌, ◌<◌, ◌≤◌, min, max, leb, ltb, eqb, length, get_or, Option, Some, None}
use Rattle.ground.specs.Cases.{pick}
use Rattle.ground.specs.Lists.{those}
use Rattle.catalogue_tables.specs.declared.Position.{Position}
use Rattle.player_walk.specs.Signed.{signed_word}
use Rattle.player_walk.specs.Steps.{goto}
use Rattle.player_walk.specs.declared.Step.{Step}
use Rattle.player_walk.specs.declared.Step.TheVariants.{Previous, Next, First, Last, Goto}

-- the greatest of a list, or z where it is empty
abbrev pub greatest_or : ℕ → List ℕ → ℕ
greatest_or z [] = z
greatest_or z (x ∷ l) = max x (greatest_or x l)

-- the least of x and a list; and the least of a list, or `past` where the list is empty
abbrev pub least : ℕ → List ℕ → ℕ
least x [] = x
least x (y ∷ l) = min x (least y l)

abbrev pub least_or : Option ℕ → List ℕ → Option ℕ
least_or past [] = past
least_or past (x ∷ l) = Some (least x l)

-- SCOPE 10.1: "A track without segments is one segment that starts at 0."
unfoldable pub segment_starts : List ℕ → List ℕ
segment_starts starts = pick (eqb (length starts) 0) (0 ∷ []) starts

-- SCOPE 10.2: "The segment that a position lies in is the one with the greatest start not above the position." This is its start.
abbrev pub own_start : List ℕ → ℕ → ℕ
own_start starts position = greatest_or 0 (those (λ x. leb x position) starts)

-- the start of the segment before the one that starts at `own`; where there is none before, it is `own` itself
abbrev pub start_before : List ℕ → ℕ → ℕ
start_before starts own = greatest_or own (those (λ x. ltb x own) starts)

-- the margin of SCOPE 10.3, in hundredths of a second: nearer than this to the start of its segment, a position counts as being at that start
abbrev pub previous_margin : ℕ
previous_margin = 300

-- SCOPE 10.3: "if the position is less than 300 past the start of the segment it lies in, and there is a segment before, it goes to that one's start;
-- otherwise to the start of its own"
unfoldable pub previous_start : List ℕ → ℕ → ℕ
previous_start starts position =
    pick (ltb position (own_start starts position + previous_margin))
    (start_before starts (own_start starts position))
    (own_start starts position)

-- SCOPE 10.4: "Next Segment goes to the least start above the position, or to D where there is none." In a running recording it then leads nowhere.
unfoldable pub next_start : List ℕ → Option ℕ → ℕ → Option ℕ
next_start starts past position = least_or past (those (λ x. ltb position x) starts)

-- SCOPE 10.5: "First Segment goes to the first start, and Last Segment to the last."
abbrev pub first_start : List ℕ → ℕ
first_start starts = get_or starts 0 0

abbrev pub last_start : List ℕ → ℕ
last_start starts = get_or starts (length starts - 1) 0

-- the five moves, where there is at least one start; Goto is by SCOPE 10.6
unfoldable pub move_along : Step → List ℕ → Option ℕ → ℕ → Option ℕ
move_along Previous starts past position = Some (previous_start starts position)
move_along Next starts past position = next_start starts past position
move_along First starts past position = Some (first_start starts)
move_along Last starts past position = Some (last_start starts)
move_along (Goto n) starts past position =
    goto (signed_word n) position (Some (first_start starts)) (next_start starts past) (Some (last_start starts)) (λ p. Some (previous_start starts p))

-- the five moves in any track
abbrev pub segment_move : Step → List ℕ → Option ℕ → ℕ → Option ℕ
segment_move step starts past position = move_along step (segment_starts starts) past position

-- what was found, as a plain number
abbrev pub near_position : Option Position → Option ℕ
near_position (Some x) = Some x.0
near_position None = None

-- what a right catalogue says of a track's starts (SCOPE 4.10), and of what stands past the last of them
pub record Rising (starts : List ℕ) : Type 0 where
  pub begin : get_or starts 0 0 ≡ 0
  pub rise : (j i : ℕ) → i < j → j < length starts → get_or starts i 0 < get_or starts j 0

abbrev pub Below : List ℕ → ℕ → Type 0
Below starts d = (i : ℕ) → i < length starts → get_or starts i 0 < d

abbrev pub Past : List ℕ → Option ℕ → Type 0
Past starts past = (d : ℕ) → past ≡ Some d → Below starts d

-- r of the starts are not above x, and the others are above it
pub record Cut (starts : List ℕ) (x r : ℕ) : Type 0 where
  pub within : r ≤ length starts
  pub low : (k : ℕ) → k < r → get_or starts k 0 ≤ x
  pub high : (k : ℕ) → r ≤ k → k < length starts → x < get_or starts k 0
