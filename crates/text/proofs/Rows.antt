-- `char_of` by its first octet: the lines of the grammar, and nothing in the gaps between and behind them. Assumes nothing.
use mathlib.Core.Path.{◌≡◌, ◌∙◌}
use mathlib.Core.Bool.{true, false, ◌&&◌}
use mathlib.Core.Logic.{⊎_elim}
use Prim.Native.Nat.{ℕ, ◌<◌}
use native.Mathlib.Omega.{arith}
use borrow.Author.Tests.{le-leb, lt-leb, leb-true}
use lib.Dec.{leb}
use Rattle.ground.specs.Cases.{pick, within}
use Rattle.ground.proofs.Cases.{le_or, and_left, and_right, and_both, and_fails}
use Rattle.text.specs.Grammar.{In}
use Rattle.text.specs.Utf8.{is_tail, char_of}

-- the test `within` and the range `In`
pub tested : {low high x : ℕ} → In low high x → within low high x ≡ true
tested {low} {high} {x} h = and_both (le-leb low x h.from) (le-leb x high h.to)

pub ranged : (low high x : ℕ) → within low high x ≡ true → In low high x
ranged low high x e =
    record {
      from = leb-true low x (and_left (leb low x) (leb x high) e);
      to = leb-true x high (and_right (leb low x) (leb x high) e);
    }

over : (low high x : ℕ) → high < x → within low high x ≡ false
over low high x h = and_fails (leb low x) (lt-leb x high h)

module _ (a b c d : ℕ) where
  -- the lines of three octets, and of four
  abbrev threes : ℕ
  threes =
      pick (within 0xE0 0xE0 a && within 0xA0 0xBF b && is_tail c) 3
      (pick (within 0xE1 0xEC a && is_tail b && is_tail c) 3
      (pick (within 0xED 0xED a && within 0x80 0x9F b && is_tail c) 3
      (pick (within 0xEE 0xEF a && is_tail b && is_tail c) 3
      0)))

  abbrev fours : ℕ
  fours =
      pick (within 0xF0 0xF0 a && within 0x90 0xBF b && is_tail c && is_tail d) 4
      (pick (within 0xF1 0xF3 a && is_tail b && is_tail c && is_tail d) 4
      (pick (within 0xF4 0xF4 a && within 0x80 0x8F b && is_tail c && is_tail d) 4
      0))

  up_to_two : a < 0xE0 → char_of a b c d ≡ pick (within 0x00 0x7F a) 1 (pick (within 0xC2 0xDF a && is_tail b) 2 0)
  unfolding char_of
  up_to_two h =
      simp (lt-leb 0xE0 a (omega arith), lt-leb 0xE1 a (omega arith), lt-leb 0xED a (omega arith), lt-leb 0xEE a (omega arith), lt-leb 0xF0 a (omega arith), lt-leb 0xF1 a (omega arith), lt-leb 0xF4 a (omega arith))

  just_three : In 0xE0 0xEF a → char_of a b c d ≡ threes
  unfolding char_of
  just_three h =
      simp (over 0x00 0x7F a (omega arith), over 0xC2 0xDF a (omega arith), lt-leb 0xF0 a (omega arith), lt-leb 0xF1 a (omega arith), lt-leb 0xF4 a (omega arith))

  from_four : 0xEF < a → char_of a b c d ≡ fours
  unfolding char_of
  from_four h =
      simp (over 0x00 0x7F a (omega arith), over 0xC2 0xDF a (omega arith), over 0xE0 0xE0 a (omega arith), over 0xE1 0xEC a (omega arith), over 0xED 0xED a (omega arith), over 0xEE 0xEF a (omega arith))

  pub row_one : In 0x00 0x7F a → char_of a b c d ≡ 1
  row_one h = up_to_two (omega arith) ∙ simp (tested h)

  pub row_gap : In 0x80 0xC1 a → char_of a b c d ≡ 0
  row_gap h = up_to_two (omega arith) ∙ simp (over 0x00 0x7F a (omega arith), lt-leb 0xC2 a (omega arith))

  pub row_two : In 0xC2 0xDF a → char_of a b c d ≡ pick (is_tail b) 2 0
  row_two h = up_to_two (omega arith) ∙ simp (over 0x00 0x7F a (omega arith), tested h)

  pub row_e0 : In 0xE0 0xE0 a → char_of a b c d ≡ pick (within 0xA0 0xBF b && is_tail c) 3 0
  row_e0 h = just_three (omega arith) ∙ simp (tested h, lt-leb 0xE1 a (omega arith), lt-leb 0xED a (omega arith), lt-leb 0xEE a (omega arith))

  pub row_e1 : In 0xE1 0xEC a → char_of a b c d ≡ pick (is_tail b && is_tail c) 3 0
  row_e1 h = just_three (omega arith) ∙ simp (over 0xE0 0xE0 a (omega arith), tested h, lt-leb 0xED a (omega arith), lt-leb 0xEE a (omega arith))

  pub row_ed : In 0xED 0xED a → char_of a b c d ≡ pick (within 0x80 0x9F b && is_tail c) 3 0
  row_ed h = just_three (omega arith) ∙ simp (over 0xE0 0xE0 a (omega arith), over 0xE1 0xEC a (omega arith), tested h, lt-leb 0xEE a (omega arith))

  pub row_ee : In 0xEE 0xEF a → char_of a b c d ≡ pick (is_tail b && is_tail c) 3 0
  row_ee h = just_three (omega arith) ∙ simp (over 0xE0 0xE0 a (omega arith), over 0xE1 0xEC a (omega arith), over 0xED 0xED a (omega arith), tested h)

  -- the two lines of three octets that ask the same of what follows
  pub three_tails : In 0xE1 0xEF a → (a ≡ 0xED → ⊥) → char_of a b c d ≡ pick (is_tail b && is_tail c) 3 0
  three_tails h n = ⊎_elim (λ l. row_e1 (omega arith)) (λ l. row_ee (omega arith)) (le_or a 0xEC)

  pub row_f0 : In 0xF0 0xF0 a → char_of a b c d ≡ pick (within 0x90 0xBF b && is_tail c && is_tail d) 4 0
  row_f0 h = from_four (omega arith) ∙ simp (tested h, lt-leb 0xF1 a (omega arith), lt-leb 0xF4 a (omega arith))

  pub row_f1 : In 0xF1 0xF3 a → char_of a b c d ≡ pick (is_tail b && is_tail c && is_tail d) 4 0
  row_f1 h = from_four (omega arith) ∙ simp (over 0xF0 0xF0 a (omega arith), tested h, lt-leb 0xF4 a (omega arith))

  pub row_f4 : In 0xF4 0xF4 a → char_of a b c d ≡ pick (within 0x80 0x8F b && is_tail c && is_tail d) 4 0
  row_f4 h = from_four (omega arith) ∙ simp (over 0xF0 0xF0 a (omega arith), over 0xF1 0xF3 a (omega arith), tested h)

  pub row_end : 0xF4 < a → char_of a b c d ≡ 0
  row_end h = from_four (omega arith) ∙ simp (over 0xF0 0xF0 a (omega arith), over 0xF1 0xF3 a (omega arith), over 0xF4 0xF4 a (omega arith))
