-- A block as it is written (SCOPE 3.2, 3.16): "512 zeros, filled and then given its check octets".
-- Assumes nothing.
use Rattle.std.specs.Prelude.{List, [], ◌∷◌, ◌++◌, ℕ, ◌-◌, ◌/◌, ◌%◌, length, replicate}
use Rattle.card_block.specs.Sums.{sums_of}

-- the head: SCOPE 3.2 has "the block number" in octets 0 and 1, "the kind" in octet 2, "the record count" in octets 3 and 4
abbrev pub head_of : ℕ → ℕ → ℕ → List ℕ
head_of number kind count = number % 256 ∷ number / 256 ∷ kind ∷ count % 256 ∷ count / 256 ∷ []

-- n zeros
abbrev pub zeros : ℕ → List ℕ
zeros n = replicate n 0

-- the head, then the records, then zeros up to and with octet 509 (SCOPE 3.2, 3.9)
unfoldable pub front_of : ℕ → ℕ → ℕ → List ℕ → List ℕ
front_of number kind count records = head_of number kind count ++ (records ++ zeros (505 - length records))

-- the two check octets, of the 510 octets before them (SCOPE 3.4)
abbrev pub checks_of : List ℕ → List ℕ
checks_of front = (sums_of front).plain ∷ (sums_of front).running ∷ []

-- the whole block
unfoldable pub block_of : ℕ → ℕ → ℕ → List ℕ → List ℕ
block_of number kind count records = front_of number kind count records ++ checks_of (front_of number kind count records)
