-- A block of 512 octets, its parts and its rules (SCOPE 3.2 to 3.9), and the reason for which a bad block is refused (SCOPE 3.12).
-- Assumes nothing.
use Rattle.std.specs.Prelude.{Bool, true, ◌&&◌, ◌||◌, not, List, [], ◌∷◌, ℕ, ◌+◌, ◌*◌, eqb, leb, get_or, take}
use Rattle.ground.specs.Cases.{pick}
use Rattle.ground.specs.Lists.{part}
use Rattle.ground.specs.Refusals.{Row, row_with, accepted}
use Rattle.ground.specs.Words.{half_at}
use Rattle.card_block.specs.Sums.{sums_of}

-- the size of a block (SCOPE 3.1); its head, which is octets 0 to 4; and the octets that are summed, 0 to 509, behind which the check octets stand (SCOPE 3.2)
abbrev pub block_size : ℕ
block_size = 512

abbrev pub head_size : ℕ
head_size = 5

abbrev pub summed : ℕ
summed = 510

-- SCOPE 3.2: octets 0 and 1 hold "the block number", octet 2 "the kind", octets 3 and 4 "the record count".
abbrev pub number_of : List ℕ → ℕ
number_of b = half_at b 0

abbrev pub kind_of : List ℕ → ℕ
kind_of b = get_or b 2 0

abbrev pub count_of : List ℕ → ℕ
count_of b = half_at b 3

-- one of four numbers, by the kind: groups, tracks, segments or text (SCOPE 3.3)
abbrev pub by_kind : ℕ → ℕ → ℕ → ℕ → ℕ → ℕ
by_kind kind group track segment text =
    pick (eqb kind 1) group (pick (eqb kind 2) track (pick (eqb kind 3) segment text))

-- how many octets a record has: 3 words in a group, 6 in a track, 1 in a segment; 1 octet in a text (SCOPE 3.3)
unfoldable pub record_size : ℕ → ℕ
record_size kind = by_kind kind 12 24 4 1

-- the most records in a block of each kind (SCOPE 3.3)
unfoldable pub most_records : ℕ → ℕ
most_records kind = by_kind kind 42 21 126 505

-- SCOPE 3.2: behind the head stand "the records, one behind the other".
abbrev pub records_end : List ℕ → ℕ
records_end b = head_size + count_of b * record_size (kind_of b)

abbrev pub records_of : List ℕ → List ℕ
records_of b = part b head_size (records_end b)

-- every octet is 0
unfoldable pub all_zero : List ℕ → Bool
all_zero [] = true
all_zero (x ∷ s) = eqb x 0 && all_zero s

-- The rules of a block. `number` is the block's place on the card; `least` is the kind of the block before it, and 1 for the first block; `last` says whether
-- the block is the last of its kind. SCOPE 3.4: the check octets are right.
unfoldable pub check_rule : List ℕ → Bool
check_rule b =
    eqb (get_or b summed 0) (sums_of (take summed b)).plain && eqb (get_or b (summed + 1) 0) (sums_of (take summed b)).running

-- SCOPE 3.5: "The block number is the block's place on the card, counted from 0."
unfoldable pub number_rule : ℕ → List ℕ → Bool
number_rule number b = eqb (number_of b) number

-- SCOPE 3.6: "The kind is 1 to 4, and never below that of the block before."
unfoldable pub kind_rule : ℕ → List ℕ → Bool
kind_rule least b = leb least (kind_of b) && leb (kind_of b) 4

-- SCOPE 3.7: "The record count is at least 1, and at most what a block of its kind holds."
unfoldable pub count_rule : List ℕ → Bool
count_rule b = leb 1 (count_of b) && leb (count_of b) (most_records (kind_of b))

-- SCOPE 3.8: "A block that is not the last of its kind is full: its record count is the most that its kind allows."
unfoldable pub full_rule : Bool → List ℕ → Bool
full_rule last b = last || eqb (count_of b) (most_records (kind_of b))

-- SCOPE 3.9: "The octets behind the records, up to and with octet 509, are zeros."
unfoldable pub padding_rule : List ℕ → Bool
padding_rule b = all_zero (part b (records_end b) summed)

-- SCOPE 3.12: the rules in this order, "211 check (3.4), 215 block number (3.5), 216 kind (3.6), 217 count (3.7), 214 not full (3.8), 218 padding (3.9)".
-- The first that is broken is the reason, and each carries the block's place on the card.
abbrev pub block_rows : ℕ → ℕ → Bool → List ℕ → List Row
block_rows number least last b =
    row_with 211 (number ∷ []) (not (check_rule b))
    ∷ row_with 215 (number ∷ []) (not (number_rule number b))
    ∷ row_with 216 (number ∷ []) (not (kind_rule least b))
    ∷ row_with 217 (number ∷ []) (not (count_rule b))
    ∷ row_with 214 (number ∷ []) (not (full_rule last b))
    ∷ row_with 218 (number ∷ []) (not (padding_rule b))
    ∷ []

-- a block that breaks none of its rules
unfoldable pub block_rule : ℕ → ℕ → Bool → List ℕ → Bool
block_rule number least last b = accepted (block_rows number least last b)
