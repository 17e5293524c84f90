-- What card load says (SCOPE 3.10 to 3.14): 210; or the lowest bad block and its reason; or 212; or else the four counts. It asks for no rule of SCOPE 4
-- but the limits.
-- Assumes nothing.
use Rattle.std.specs.Prelude.{Bool, ◌&&◌, not, List, [], ◌∷◌, ◌++◌, ℕ, ◌/◌, leb, Result}
use Rattle.ground.specs.Refusals.{Said, granted, answer_said, Row, row, said_through}
use Rattle.ground.specs.Limits.{most_groups, most_tracks, most_segments, most_text, group_words, track_words}
use Rattle.card_load.specs.Card.{length_rule, blocks_rows, blocks_of, record_count}
use Rattle.ground.specs.declared.Refusal.{Refusal}
use Rattle.card_load.specs.declared.Counts.{Counts}

-- the number and the values of each answer (SCOPE 3.14, 20.4)
abbrev pub counts_of : Counts → List ℕ
counts_of c = c.groups ∷ c.tracks ∷ c.segments ∷ c.text ∷ []

abbrev pub said_of : Result Counts Refusal → Said
said_of = answer_said counts_of

-- a count is within its limit, and within the room of its table, which is in whole records (SCOPE 3.13)
abbrev pub fits : ℕ → ℕ → ℕ → Bool
fits count limit room = leb count limit && leb count room

-- all four counts are; the lengths of the tables are in words, and that of the text is in octets
unfoldable pub room_rule : List (List ℕ) → ℕ → ℕ → ℕ → ℕ → Bool
room_rule bs groups tracks segments text =
    fits (record_count 1 bs) most_groups (groups / group_words)
    && fits (record_count 2 bs) most_tracks (tracks / track_words)
    && fits (record_count 3 bs) most_segments segments
    && fits (record_count 4 bs) most_text text

-- SCOPE 3.13: "the card is refused with 212 where it holds more than the limits of 4.2 allow, or more than a lent table has room for"
abbrev pub room_row : List (List ℕ) → ℕ → ℕ → ℕ → ℕ → Row
room_row bs groups tracks segments text = row 212 (not (room_rule bs groups tracks segments text))

-- the four counts of a card that is loaded (SCOPE 3.14)
abbrev pub counted : List (List ℕ) → Said
counted bs = granted (record_count 1 bs ∷ record_count 2 bs ∷ record_count 3 bs ∷ record_count 4 bs ∷ [])

-- 210 (SCOPE 3.11), then the blocks (SCOPE 3.12), then 212 (SCOPE 3.13)
abbrev pub load_rows : List ℕ → ℕ → ℕ → ℕ → ℕ → List Row
load_rows card groups tracks segments text =
    row 210 (not (length_rule card))
    ∷ (blocks_rows 0 1 (blocks_of card) ++ (room_row (blocks_of card) groups tracks segments text ∷ []))

-- what loading a card into tables of these lengths says
unfoldable pub load_said : List ℕ → ℕ → ℕ → ℕ → ℕ → Said
load_said card groups tracks segments text = said_through (load_rows card groups tracks segments text) (counted (blocks_of card))
