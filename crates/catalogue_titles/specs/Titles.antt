-- The office's titles: its own titles for tracks, in a second text beside the card's (SCOPE 5.1 to 5.8).
-- Assumes nothing.
use Rattle.std.specs.Prelude.{◌≡◌, Bool, true, false, ◌&&◌, List, [], ◌∷◌, ℕ, ◌+◌, ◌*◌, ◌≤◌, eqb, leb, length}
use Rattle.std.specs.Borrow.{Bor}
use Rattle.ground.specs.Cases.{pick}
use Rattle.ground.specs.Limits.{rename_words, most_title}
use Rattle.ground.specs.Lists.{part_from, all_below}
use Rattle.text.specs.Utf8.{text_of, is_fine}
use Rattle.catalogue_tables.specs.Tables.{word_in, track_count, title_offset_of, title_length_of}
use Rattle.catalogue_titles.specs.declared.Part.{Part}

-- SCOPE 5.1: "for each track an entry of two words: an offset and a length in that text"
abbrev pub rename_offset_of : List ℕ → ℕ → ℕ
rename_offset_of renames t = word_in rename_words renames t 0

abbrev pub rename_length_of : List ℕ → ℕ → ℕ
rename_length_of renames t = word_in rename_words renames t 1

-- An entry is right where its length is at most 128 and its part is in the office's text and UTF-8 (SCOPE 5.3). SCOPE 5.2: "Length 0 says that the track is not
-- renamed, and such an entry is not looked at further."
unfoldable pub entry_rule : ℕ → ℕ → List ℕ → Bool
entry_rule offset len office =
    pick (eqb len 0) true (leb len most_title && leb (offset + len) (length office) && is_fine (text_of (part_from offset len office)))

-- SCOPE 5.3: there is "one entry for each track", of so many tracks
unfoldable pub count_rule : ℕ → ℕ → Bool
count_rule count words = eqb words (count * rename_words)

-- each of so many entries is right
unfoldable pub entries_rule : ℕ → List ℕ → List ℕ → Bool
entries_rule count renames office = all_below count (λ t. entry_rule (rename_offset_of renames t) (rename_length_of renames t) office)

-- what 224 asks (SCOPE 5.3)
unfoldable pub renames_rule : List ℕ → List ℕ → List ℕ → Bool
renames_rule tracks renames office = count_rule (track_count tracks) (length renames) && entries_rule (track_count tracks) renames office

-- SCOPE 5.5: "The title of a track is the part of the office's text that its entry names, where the track is renamed; otherwise it is the part of the card's
-- text that its record names."
unfoldable pub part_of : List ℕ → List ℕ → ℕ → Part
part_of tracks renames t =
    pick (eqb (rename_length_of renames t) 0)
    (record { renamed = false; offset = title_offset_of tracks t; len = title_length_of tracks t })
    (record { renamed = true; offset = rename_offset_of renames t; len = rename_length_of renames t })

-- SCOPE 5.7: "the empty front of the card's text"
abbrev pub front : Part
front = record { renamed = false; offset = 0; len = 0 }

-- the text that a part is of: the office's where the track is renamed, and else the card's
abbrev pub text_for : {A : Type 0} → Part → A → A → A
text_for part text office = pick part.renamed office text

-- the octets of a part
unfoldable pub octets_at : Part → List ℕ → List ℕ → List ℕ
octets_at part text office = part_from part.offset part.len (text_for part text office)

-- SCOPE 5.8: the values of a part, "0 for the card's text or 1 for the office's, the offset, the length"
abbrev pub part_values : Part → List ℕ
part_values part = pick part.renamed 1 0 ∷ part.offset ∷ part.len ∷ []

-- a part lies within its text; `text` and `office` are the lengths of the two texts
abbrev pub Inside : Part → ℕ → ℕ → Type 0
Inside part text office = part.offset + part.len ≤ text_for part text office

-- SCOPE 5.6: the title is "a part of the office's text or of the card's text itself, and never a copy". So r begins where the octet of the lent text at the
-- offset stands, and has the octets from there on. (The checker sees a lent slice as `ref_ptr`, a block of memory and a place in it; and `now`, the octets.)
pub record IsPart (part : Part) (text office r : Bor (List ℕ)) : Type 0 where
  pub block : r.ref_ptr.0 ≡ (text_for part text office).ref_ptr.0
  pub start : r.ref_ptr.1 ≡ (text_for part text office).ref_ptr.1 + part.offset
  pub many : length r.now ≡ part.len
  pub octets : r.now ≡ octets_at part text.now office.now
