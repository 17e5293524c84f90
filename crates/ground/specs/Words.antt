-- Numbers in octets (SCOPE 2.1 and 2.2). SCOPE 2.1: "Numbers are little endian: the lowest octet comes first."
-- Assumes nothing.
use Rattle.std.specs.Prelude.{List, [], ◌∷◌, ◌++◌, ℕ, ◌+◌, ◌*◌, ◌/◌, ◌%◌, ◌<◌, get_or}

-- a list of which every element is an octet, 0 to 255
pub data Octs : List ℕ → Type 0 where
  no_octets : Octs []
  octet : {x : ℕ} {s : List ℕ} → x < 256 → Octs s → Octs (x ∷ s)

-- the number that two octets are, and that four octets are; a word has 32 bits (SCOPE 2.2)
abbrev pub half_of : ℕ → ℕ → ℕ
half_of a b = a + b * 256

abbrev pub word_of : ℕ → ℕ → ℕ → ℕ → ℕ
word_of a b c d = a + b * 256 + c * 65536 + d * 16777216

-- the number of two octets, and the word, that start at a place
abbrev pub half_at : List ℕ → ℕ → ℕ
half_at s at = half_of (get_or s at 0) (get_or s (at + 1) 0)

unfoldable pub word_at : List ℕ → ℕ → ℕ
word_at s at = word_of (get_or s at 0) (get_or s (at + 1) 0) (get_or s (at + 2) 0) (get_or s (at + 3) 0)

-- an object number has 48 bits (SCOPE 7.1): its six octets, and the number that starts at a place
unfoldable pub six_octets : ℕ → List ℕ
six_octets n = n % 256 ∷ n / 256 % 256 ∷ n / 65536 % 256 ∷ n / 16777216 % 256 ∷ n / 4294967296 % 256 ∷ n / 1099511627776 % 256 ∷ []

unfoldable pub six_at : List ℕ → ℕ → ℕ
six_at s at = word_at s at + half_at s (at + 4) * 4294967296

-- the words that octets make, four octets to a word; octets that are left over at the end are dropped
unfoldable pub words : List ℕ → List ℕ
words [] = []
words (a ∷ []) = []
words (a ∷ b ∷ []) = []
words (a ∷ b ∷ c ∷ []) = []
words (a ∷ b ∷ c ∷ d ∷ s) = word_of a b c d ∷ words s

-- The four octets of a word. The last one is not made a remainder, so that the four give any number back. Of a word of 32 bits it is an octet like the others.
abbrev pub octets_of_word : ℕ → List ℕ
octets_of_word w = w % 256 ∷ w / 256 % 256 ∷ w / 65536 % 256 ∷ w / 16777216 ∷ []

-- the octets of several words, one word behind the other
unfoldable pub octets_of : List ℕ → List ℕ
octets_of [] = []
octets_of (w ∷ s) = octets_of_word w ++ octets_of s
