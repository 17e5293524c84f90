-- The check of a text (SCOPE 2.6): whether octets are UTF-8, and if not, where. `proofs/Law.antt` proves that it agrees with `Grammar.antt`, both ways.
-- Assumes nothing.
use Rattle.std.specs.Prelude.{Bool, ◌&&◌, List, [], ◌∷◌, ℕ, zero, suc, ◌+◌, ◌-◌, eqb, get_or, Result, Ok, Err}
use Rattle.ground.specs.Cases.{pick, within}
use Rattle.ground.specs.Refusals.{Said, granted, refused_with}
use Rattle.text.specs.declared.NotText.{NotText}

-- an octet that continues a character
abbrev pub is_tail : ℕ → Bool
is_tail x = within 0x80 0xBF x

-- How many octets the character has that begins with the octets a, b, c and d; 0 where they begin none. The lines are those of the grammar, in its order.
unfoldable pub char_of : ℕ → ℕ → ℕ → ℕ → ℕ
char_of a b c d =
    pick (within 0x00 0x7F a) 1
    (pick (within 0xC2 0xDF a && is_tail b) 2
    (pick (within 0xE0 0xE0 a && within 0xA0 0xBF b && is_tail c) 3
    (pick (within 0xE1 0xEC a && is_tail b && is_tail c) 3
    (pick (within 0xED 0xED a && within 0x80 0x9F b && is_tail c) 3
    (pick (within 0xEE 0xEF a && is_tail b && is_tail c) 3
    (pick (within 0xF0 0xF0 a && within 0x90 0xBF b && is_tail c && is_tail d) 4
    (pick (within 0xF1 0xF3 a && is_tail b && is_tail c && is_tail d) 4
    (pick (within 0xF4 0xF4 a && within 0x80 0x8F b && is_tail c && is_tail d) 4
    0))))))))

-- the same for the octets at the front of s; an octet behind the end of s counts as 0, which continues no character
abbrev pub char_length : List ℕ → ℕ
char_length s = char_of (get_or s 0 0) (get_or s 1 0) (get_or s 2 0) (get_or s 3 0)

-- no text, by the octet at an offset
abbrev pub bad_at : ℕ → Result Unit NotText
bad_at at = Err (record { at = at })

-- The check goes character by character. `at` is the offset of the next octet, and `rest` says how many octets are still to come of the character before it.
unfoldable pub text_from : ℕ → ℕ → List ℕ → Result Unit NotText
text_from at rest [] = Ok tt
text_from at zero (a ∷ s) =
    pick (eqb (char_length (a ∷ s)) 0) (bad_at at) (text_from (at + 1) (char_length (a ∷ s) - 1) s)
text_from at (suc rest) (a ∷ s) = text_from (at + 1) rest s

unfoldable pub text_of : List ℕ → Result Unit NotText
text_of s = text_from 0 0 s

-- the number and the values of each answer: a text that is not UTF-8 is 207 and carries the offset (SCOPE 20.4)
abbrev pub said_of : Result Unit NotText → Said
said_of (Ok u) = granted []
said_of (Err e) = refused_with 207 (e.at ∷ [])

unfoldable pub text_said : List ℕ → Said
text_said s = said_of (text_of s)

-- the answer is that the text is right
abbrev pub is_fine : Result Unit NotText → Bool
is_fine checked = (said_of checked).is_granted
