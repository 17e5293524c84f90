-- What card write says (SCOPE 3.15, 3.17): 200, then 213, or else how many blocks there are.
-- Assumes nothing.
use Rattle.std.specs.Prelude.{List, [], ◌∷◌, ℕ, ◌*◌, ltb}
use Rattle.ground.specs.Refusals.{Said, granted, Row, row, said_through}
use Rattle.card_block.specs.Block.{block_size}
use Rattle.catalogue_tables.specs.Tables.{Tables}
use Rattle.catalogue_check.specs.Catalogue.{catalogue_row}
use Rattle.card_write.specs.Card.{blocks_taken}

-- SCOPE 3.17: 213 "exactly when the blocks have more octets than are lent"
abbrev pub room_row : Tables → ℕ → Row
room_row k room = row 213 (ltb room (blocks_taken k * block_size))

-- SCOPE 3.17: "Card write refuses with 200 first, and then with 213"
abbrev pub write_rows : Tables → ℕ → List Row
write_rows k room = catalogue_row k ∷ room_row k room ∷ []

-- what writing a catalogue into so many lent octets says. SCOPE 3.15: "The answer is the number of blocks."
unfoldable pub write_said : Tables → ℕ → Said
write_said k room = said_through (write_rows k room) (granted (blocks_taken k ∷ []))
