-- What UTF-8 is (SCOPE 2.5): the grammar of RFC 3629, section 4, a constructor for each of its lines. Comments that begin with `%` or `UTF8` are lines of it.
-- Assumes nothing.
use Rattle.std.specs.Prelude.{◌≡◌, List, [], ◌∷◌, ◌++◌, ℕ, ◌≤◌, ◌<◌, length, take, drop}

-- %xLOW-HIGH
pub record In (low high x : ℕ) : Type 0 where
  pub from : low ≤ x
  pub to : x ≤ high

-- UTF8-tail = %x80-BF
abbrev pub Tail : ℕ → Type 0
Tail x = In 0x80 0xBF x

-- UTF8-char = UTF8-1 / UTF8-2 / UTF8-3 / UTF8-4
pub data Char : List ℕ → Type 0 where
  one : {a : ℕ} → In 0x00 0x7F a → Char (a ∷ [])
  two : {a b : ℕ} → In 0xC2 0xDF a → Tail b → Char (a ∷ b ∷ [])
  three_e0 : {a b c : ℕ} → In 0xE0 0xE0 a → In 0xA0 0xBF b → Tail c → Char (a ∷ b ∷ c ∷ [])
  three_e1 : {a b c : ℕ} → In 0xE1 0xEC a → Tail b → Tail c → Char (a ∷ b ∷ c ∷ [])
  three_ed : {a b c : ℕ} → In 0xED 0xED a → In 0x80 0x9F b → Tail c → Char (a ∷ b ∷ c ∷ [])
  three_ee : {a b c : ℕ} → In 0xEE 0xEF a → Tail b → Tail c → Char (a ∷ b ∷ c ∷ [])
  four_f0 : {a b c d : ℕ} → In 0xF0 0xF0 a → In 0x90 0xBF b → Tail c → Tail d → Char (a ∷ b ∷ c ∷ d ∷ [])
  four_f1 : {a b c d : ℕ} → In 0xF1 0xF3 a → Tail b → Tail c → Tail d → Char (a ∷ b ∷ c ∷ d ∷ [])
  four_f4 : {a b c d : ℕ} → In 0xF4 0xF4 a → In 0x80 0x8F b → Tail c → Tail d → Char (a ∷ b ∷ c ∷ d ∷ [])

-- UTF8-octets = *( UTF8-char )
pub data Text : List ℕ → Type 0 where
  end : Text []
  more : {c s : List ℕ} → Char c → Text s → Text (c ++ s)

-- a whole valid character starts s
pub record Starts (s : List ℕ) : Type 0 where
  pub char : List ℕ
  pub behind : List ℕ
  pub valid : Char char
  pub is : s ≡ char ++ behind

-- SCOPE 2.6: "the offset of the first octet that does not start a whole valid character, where all octets before it are whole valid characters"
pub record FirstBad (s : List ℕ) (at : ℕ) : Type 0 where
  pub inside : at < length s
  pub before : Text (take at s)
  pub none : Starts (drop at s) → ⊥
