-- Objects that are read back (SCOPE 7.6 to 7.8): entries out of octets, one behind the other.
-- Assumes nothing.
use Rattle.std.specs.Prelude.{◌≡◌, Option, MatchOption, Bool, true, false, ◌&&◌, not, List, [], ◌∷◌, ◌++◌, ℕ, zero, suc, ◌+◌, ◌*◌, eqb, ltb, leb, length, get_or, drop}
use Rattle.ground.specs.Cases.{pick}
use Rattle.ground.specs.Lists.{part}
use Rattle.ground.specs.Refusals.{Said, granted, Row, row, said_through}
use Rattle.ground.specs.Words.{half_at, word_at}
use Rattle.text.specs.Utf8.{text_of, is_fine}
use Rattle.catalogue_objects.specs.declared.Kind.{Kind}
use Rattle.catalogue_objects.specs.declared.Kind.TheVariants.{Group, Segments}

-- how many octets of a label stand before its start: the length of its name, and the name
abbrev pub label_head : List ℕ → ℕ
label_head s = get_or s 0 0 + 1

-- how many octets the entry has that stands at the front (SCOPE 7.2, 7.4; the standard, Tables 4.2 and 4.1)
abbrev pub size_of : Kind → List ℕ → ℕ
size_of Group s = 7
size_of Segments s = label_head s + 4

-- a label is sound where its name is UTF-8 and its start is not negative (SCOPE 7.7; the standard, 4.2.2 and 4.2.3)
unfoldable pub label_sound : List ℕ → Bool
label_sound s = is_fine (text_of (part s 1 (label_head s))) && ltb (word_at s (label_head s)) 0x8000_0000

-- SCOPE 7.7: an entry of a Group object has no "type above 1", which is reserved (the standard, Table 4.3); one of a Track Segments object is a sound label
abbrev pub is_sound : Kind → List ℕ → Bool
is_sound Group s = leb (get_or s 0 0) 1
is_sound Segments s = label_sound s

-- a whole entry stands at the front: the octets do not "end inside an entry" (SCOPE 7.7)
unfoldable pub is_entry : Kind → List ℕ → Bool
is_entry kind s = leb (size_of kind s) (length s) && is_sound kind s

-- SCOPE 7.6: "An entry of a Group object is three words: the type, the low 32 bits of the number and its high 16 bits. An entry of a Track Segments object is
-- one word, the start." SCOPE 7.8: "A name of any length is read and passed over."
unfoldable pub words_of : Kind → List ℕ → List ℕ
words_of Group s = get_or s 0 0 ∷ word_at s 1 ∷ half_at s 5 ∷ []
words_of Segments s = word_at s (label_head s) ∷ []

-- how many words an entry is read into
abbrev pub width_of : Kind → ℕ
width_of Group = 3
width_of Segments = 1

-- what octets are read as: whether they are whole entries, how many entries there are, and their words
pub record Entries : Type 0 where
  pub whole : Bool
  pub count : ℕ
  pub words : List ℕ

abbrev pub no_entries : Bool → Entries
no_entries whole = record { whole = whole; count = 0; words = [] }

abbrev pub behind : List ℕ → Entries → Entries
behind words e = record { whole = e.whole; count = suc e.count; words = words ++ e.words }

abbrev pub is_empty : List ℕ → Bool
is_empty s = eqb (length s) 0

-- Entries one behind the other, up to the end of the octets. `n` bounds how many are looked for. Each entry has octets, so there are at most as many entries as
-- octets.
unfoldable pub entries_in : Kind → ℕ → List ℕ → Entries
entries_in kind zero s = no_entries (is_empty s)
entries_in kind (suc n) s =
    pick (is_empty s) (no_entries true)
    (pick (is_entry kind s) (behind (words_of kind s) (entries_in kind n (drop (size_of kind s) s))) (no_entries false))

unfoldable pub entries_of : Kind → List ℕ → Entries
entries_of kind s = entries_in kind (length s) s

-- how many whole entries octets are, or none where they are not whole entries
abbrev pub CountsEntries : Kind → List ℕ → Option ℕ → Type 0
CountsEntries kind s r = MatchOption r ((entries_of kind s).whole ≡ false) (λ n. ((entries_of kind s).whole ≡ true) × (n ≡ (entries_of kind s).count))

-- SCOPE 7.7: "Octets that are not whole entries are refused with 222"; "Then 223 is given where the entries have more words than there is room for."
abbrev pub read_rows : Kind → List ℕ → ℕ → List Row
read_rows kind s room =
    row 222 (not (entries_of kind s).whole) ∷ row 223 (ltb room ((entries_of kind s).count * width_of kind)) ∷ []

-- SCOPE 7.6: "The answer is how many entries there are."
unfoldable pub read_said : Kind → List ℕ → ℕ → Said
read_said kind s room = said_through (read_rows kind s room) (granted ((entries_of kind s).count ∷ []))
