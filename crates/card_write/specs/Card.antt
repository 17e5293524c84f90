-- The card of a catalogue (SCOPE 3.15): its blocks by kind, and "Every block but the last of its kind is full."
-- Assumes nothing.
use Rattle.std.specs.Prelude.{◌≡◌, true, List, [], ◌∷◌, ◌++◌, ℕ, zero, suc, ◌+◌, ◌/◌, length, take, drop}
use Rattle.ground.specs.Words.{octets_of}
use Rattle.card_block.specs.Block.{full_rule}
use Rattle.card_load.specs.Card.{last_of_kind, octets}
use Rattle.card_fill.specs.Filled.{block_of}
use Rattle.catalogue_tables.specs.Tables.{Tables}

-- n blocks of a kind, of which the first has the number `number`. The table is cut into parts of `full` elements, and the last part is what is left. So many
-- elements as `unit` says make a record, and `octetsFor` makes the octets of a part.
unfoldable pub kind_blocks : (List ℕ → List ℕ) → ℕ → ℕ → ℕ → ℕ → ℕ → List ℕ → List (List ℕ)
kind_blocks octetsFor kind unit full zero number table = []
kind_blocks octetsFor kind unit full (suc n) number table =
    block_of number kind (length (take full table) / unit) (octetsFor (take full table)) ∷ kind_blocks octetsFor kind unit full n (suc number) (drop full table)

-- How many blocks a table takes. A full block has 126 words, which are 42 groups, 21 tracks or 126 segments; or 505 octets of text (SCOPE 3.3). SCOPE 3.15:
-- "A kind of which the catalogue has nothing has no block."
abbrev pub words_take : ℕ → ℕ
words_take n = (n + 125) / 126

abbrev pub octets_take : ℕ → ℕ
octets_take n = (n + 504) / 505

-- the blocks of a table of words, and the blocks of a text
unfoldable pub word_blocks : ℕ → ℕ → ℕ → List ℕ → List (List ℕ)
word_blocks kind unit number table = kind_blocks octets_of kind unit 126 (words_take (length table)) number table

unfoldable pub text_blocks : ℕ → List ℕ → List (List ℕ)
text_blocks number text = kind_blocks octets 4 1 505 (octets_take (length text)) number text

-- the octets of blocks, one behind the other
unfoldable pub joined : List (List ℕ) → List ℕ
joined [] = []
joined (b ∷ bs) = b ++ joined bs

module _ (k : Tables) where
  -- the number of the first block of tracks, of segments and of text; and how many blocks there are
  abbrev pub tracks_from : ℕ
  tracks_from = words_take (length k.groups)

  abbrev pub segments_from : ℕ
  segments_from = words_take (length k.groups) + words_take (length k.tracks)

  abbrev pub text_from : ℕ
  text_from = words_take (length k.groups) + words_take (length k.tracks) + words_take (length k.segments)

  abbrev pub blocks_taken : ℕ
  blocks_taken =
      words_take (length k.groups) + words_take (length k.tracks) + words_take (length k.segments) + octets_take (length k.text)

  -- SCOPE 3.15: "the blocks of a catalogue: groups, tracks, segments, text". Their kinds are 1 to 4; a group has 3 words, a track 6, a segment 1 (SCOPE 3.3).
  unfoldable pub catalogue_blocks : List (List ℕ)
  catalogue_blocks =
      word_blocks 1 3 0 k.groups
      ++ (word_blocks 2 6 tracks_from k.tracks ++ (word_blocks 3 1 segments_from k.segments ++ text_blocks text_from k.text))

  -- the octets of all blocks: the card
  unfoldable pub card_of : List ℕ
  card_of = joined catalogue_blocks

-- SCOPE 3.15: "Every block but the last of its kind is full", as card load judges it (SCOPE 3.8)
abbrev pub FullButLast : List (List ℕ) → Type 0
FullButLast [] = Unit
FullButLast (b ∷ bs) = (full_rule (last_of_kind b bs) b ≡ true) × FullButLast bs
