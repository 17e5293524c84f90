-- A card as a list of blocks, and the records of each kind in it (SCOPE 3.1, 3.8, 3.12, 3.14).
-- Assumes nothing.
use Rattle.std.specs.Prelude.{Bool, true, ◌&&◌, not, List, [], ◌∷◌, ◌++◌, ℕ, zero, suc, ◌+◌, ◌*◌, ◌/◌, ◌%◌, ◌<◌, ◌≤◌, eqb, leb, length, take, drop}
use Rattle.ground.specs.Cases.{pick}
use Rattle.ground.specs.Lists.{part}
use Rattle.ground.specs.Refusals.{Row, accepted}
use Rattle.card_block.specs.Block.{block_size, kind_of, count_of, most_records, records_of, block_rows}

-- SCOPE 3.1: "A card is 0 to 128 blocks of 512 octets."
abbrev pub most_blocks : ℕ
most_blocks = 128

-- a length that SCOPE 3.11 does not refuse
unfoldable pub length_rule : List ℕ → Bool
length_rule card = eqb (length card % block_size) 0 && leb (length card) (most_blocks * block_size)

-- the first n blocks of a card, and all of them
unfoldable pub blocks : ℕ → List ℕ → List (List ℕ)
blocks zero card = []
blocks (suc n) card = take block_size card ∷ blocks n (drop block_size card)

abbrev pub blocks_of : List ℕ → List (List ℕ)
blocks_of card = blocks (length card / block_size) card

-- SCOPE 3.8: "Whether a block is the last of its kind is judged by the kind octet of the block behind it. It is the last where that octet is another,
-- whatever else may be wrong there, and where no block is behind it."
unfoldable pub last_of_kind : List ℕ → List (List ℕ) → Bool
last_of_kind b [] = true
last_of_kind b (behind ∷ bs) = not (eqb (kind_of behind) (kind_of b))

-- The rules of all blocks, block by block, so that the first rule that is broken is one of the lowest bad block (SCOPE 3.12). The first block has the place
-- `number`, and `least` is the kind of the block before it.
unfoldable pub blocks_rows : ℕ → ℕ → List (List ℕ) → List Row
blocks_rows number least [] = []
blocks_rows number least (b ∷ bs) = block_rows number least (last_of_kind b bs) b ++ blocks_rows (number + 1) (kind_of b) bs

-- blocks that break none of their rules
abbrev pub blocks_rule : ℕ → ℕ → List (List ℕ) → Bool
blocks_rule number least bs = accepted (blocks_rows number least bs)

-- how many records of a kind there are
unfoldable pub record_count : ℕ → List (List ℕ) → ℕ
record_count kind [] = 0
record_count kind (b ∷ bs) = pick (eqb (kind_of b) kind) (count_of b) 0 + record_count kind bs

-- what f makes of the records of a kind, block after block: the order of the card (SCOPE 3.14)
unfoldable pub gather : (List ℕ → List ℕ) → ℕ → List (List ℕ) → List ℕ
gather f kind [] = []
gather f kind (b ∷ bs) = pick (eqb (kind_of b) kind) (f (records_of b)) [] ++ gather f kind bs

-- of a text, f leaves the octets as they are
abbrev pub octets : List ℕ → List ℕ
octets s = s

-- block i of a card; and that each of the first n blocks counts no more records than a block of its kind holds
abbrev pub block_at : List ℕ → ℕ → List ℕ
block_at card i = part card (i * block_size) (i * block_size + block_size)

abbrev pub CountsFit : ℕ → List ℕ → Type 0
CountsFit n card = (i : ℕ) → i < n → count_of (block_at card i) ≤ most_records (kind_of (block_at card i))
