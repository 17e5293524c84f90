-- `char_length` against the grammar's characters: each has its length, and where the length is not 0 one stands. Assumes nothing.
use mathlib.Core.Path.{◌≡◌, refl, ap, ◌∙◌}
use mathlib.Core.Bool.{Bool, true, false, ◌&&◌}
use mathlib.Core.Logic.{◌⊎◌, inl, inr, ⊎_elim}
use mathlib.Core.List.{List, [], ◌∷◌, ◌++◌}
use Prim.Native.Nat.{ℕ, ◌+◌, ◌≤◌, ◌<◌}
use native.Mathlib.Nat.{add-zero}
use native.Mathlib.Omega.{arith}
use lib.ListN.{length, get_or, drop, length-append, length-drop, get_or-eq_default}
use lib.Seq.{drop-cons, get_or-drop}
use Rattle.ground.specs.Cases.{pick, within}
use Rattle.ground.proofs.Cases.{le_or, and_left, and_right}
use Rattle.text.specs.Grammar.{In, Tail, Char, Char.one, Char.two, Char.three_e0, Char.three_e1, Char.three_ed, Char.three_ee, Char.four_f0, Char.four_f1, Char.four_f4, Starts}
use Rattle.text.specs.Utf8.{is_tail, char_of, char_length}
use Rattle.text.proofs.Rows.{tested, ranged, row_one, row_two, row_e0, row_e1, row_ed, row_ee, row_f0, row_f1, row_f4}

pub char_sound : {c : List ℕ} → Char c → (t : List ℕ) → char_length (c ++ t) ≡ length c
char_sound (one {a = a} ha) t = simp (row_one a (get_or t 0 0) (get_or t 1 0) (get_or t 2 0) ha)
char_sound (two {a = a} {b = b} ha hb) t = simp (row_two a b (get_or t 0 0) (get_or t 1 0) ha, tested hb)
char_sound (three_e0 {a = a} {b = b} {c = c} ha hb hc) t = simp (row_e0 a b c (get_or t 0 0) ha, tested hb, tested hc)
char_sound (three_e1 {a = a} {b = b} {c = c} ha hb hc) t = simp (row_e1 a b c (get_or t 0 0) ha, tested hb, tested hc)
char_sound (three_ed {a = a} {b = b} {c = c} ha hb hc) t = simp (row_ed a b c (get_or t 0 0) ha, tested hb, tested hc)
char_sound (three_ee {a = a} {b = b} {c = c} ha hb hc) t = simp (row_ee a b c (get_or t 0 0) ha, tested hb, tested hc)
char_sound (four_f0 {a = a} {b = b} {c = c} {d = d} ha hb hc hd) t = simp (row_f0 a b c d ha, tested hb, tested hc, tested hd)
char_sound (four_f1 {a = a} {b = b} {c = c} {d = d} ha hb hc hd) t = simp (row_f1 a b c d ha, tested hb, tested hc, tested hd)
char_sound (four_f4 {a = a} {b = b} {c = c} {d = d} ha hb hc hd) t = simp (row_f4 a b c d ha, tested hb, tested hc, tested hd)

-- no character is empty
pub char_long : {c : List ℕ} → Char c → 0 < length c
char_long (one ha) = omega arith
char_long (two ha hb) = omega arith
char_long (three_e0 ha hb hc) = omega arith
char_long (three_e1 ha hb hc) = omega arith
char_long (three_ed ha hb hc) = omega arith
char_long (three_ee ha hb hc) = omega arith
char_long (four_f0 ha hb hc hd) = omega arith
char_long (four_f1 ha hb hc hd) = omega arith
char_long (four_f4 ha hb hc hd) = omega arith

-- a character of n octets starts s
pub record Begins (s : List ℕ) (n : ℕ) : Type 0 where
  pub starts : Starts s
  pub long : length starts.char ≡ n

module _ (s : List ℕ) (full : 0 < length s) where
  -- what is not 0 is not behind the end
  inner : (i : ℕ) → 0 < get_or s i 0 → i < length s
  inner i h = ⊎_elim (λ g. omega (arith, get_or-eq_default s 0 g)) (λ g. g) (le_or (length s) i)

  abbrev at : ℕ → ℕ
  at i = get_or s i 0

  cut_1 : s ≡ at 0 ∷ drop 1 s
  cut_1 = drop-cons s 0 0 full

  cut_2 : 0 < at 1 → s ≡ at 0 ∷ at 1 ∷ drop 2 s
  cut_2 p = cut_1 ∙ ap (λ (l : List ℕ). at 0 ∷ l) (drop-cons s 1 0 (inner 1 p))

  cut_3 : 0 < at 1 → 0 < at 2 → s ≡ at 0 ∷ at 1 ∷ at 2 ∷ drop 3 s
  cut_3 p q = cut_2 p ∙ ap (λ (l : List ℕ). at 0 ∷ at 1 ∷ l) (drop-cons s 2 0 (inner 2 q))

  cut_4 : 0 < at 1 → 0 < at 2 → 0 < at 3 → s ≡ at 0 ∷ at 1 ∷ at 2 ∷ at 3 ∷ drop 4 s
  cut_4 p q r = cut_3 p q ∙ ap (λ (l : List ℕ). at 0 ∷ at 1 ∷ at 2 ∷ l) (drop-cons s 3 0 (inner 3 r))

  begins : (c t : List ℕ) → Char c → s ≡ c ++ t → Begins s (length c)
  begins c t v e = record { starts = record { char = c; behind = t; valid = v; is = e }; long = refl }

  of_one : within 0x00 0x7F (at 0) ≡ true → Begins s 1
  of_one e = begins (at 0 ∷ []) (drop 1 s) (one (ranged 0x00 0x7F (at 0) e)) cut_1

  module _ (la ha lb hb : ℕ) (p : 0 < lb) where
    abbrev first_two : Bool
    first_two = within la ha (at 0) && within lb hb (at 1)

    ranges : first_two ≡ true → In la ha (at 0) × In lb hb (at 1)
    ranges e =
        (ranged la ha (at 0) (and_left (within la ha (at 0)) (within lb hb (at 1)) e), ranged lb hb (at 1) (and_right (within la ha (at 0)) (within lb hb (at 1)) e))

    of_two : (In la ha (at 0) → In lb hb (at 1) → Char (at 0 ∷ at 1 ∷ [])) → first_two ≡ true → Begins s 2
    of_two row e =
        let ab = ranges e in
        begins (at 0 ∷ at 1 ∷ []) (drop 2 s) (row ab.0 ab.1) (cut_2 (omega arith))

    of_three : (In la ha (at 0) → In lb hb (at 1) → Tail (at 2) → Char (at 0 ∷ at 1 ∷ at 2 ∷ [])) → (first_two && is_tail (at 2)) ≡ true → Begins s 3
    of_three row e =
        let ab = ranges (and_left first_two (is_tail (at 2)) e) in
        let c = ranged 0x80 0xBF (at 2) (and_right first_two (is_tail (at 2)) e) in
        begins (at 0 ∷ at 1 ∷ at 2 ∷ []) (drop 3 s) (row ab.0 ab.1 c) (cut_3 (omega arith) (omega arith))

    of_four : (In la ha (at 0) → In lb hb (at 1) → Tail (at 2) → Tail (at 3) → Char (at 0 ∷ at 1 ∷ at 2 ∷ at 3 ∷ []))
        → (first_two && is_tail (at 2) && is_tail (at 3)) ≡ true → Begins s 4
    of_four row e =
        let abc = and_left (first_two && is_tail (at 2)) (is_tail (at 3)) e in
        let ab = ranges (and_left first_two (is_tail (at 2)) abc) in
        let c = ranged 0x80 0xBF (at 2) (and_right first_two (is_tail (at 2)) abc) in
        let d = ranged 0x80 0xBF (at 3) (and_right (first_two && is_tail (at 2)) (is_tail (at 3)) e) in
        begins (at 0 ∷ at 1 ∷ at 2 ∷ at 3 ∷ []) (drop 4 s) (row ab.0 ab.1 c d) (cut_4 (omega arith) (omega arith) (omega arith))

  -- the first test that holds says how many octets
  or_else : {t : Bool} {n m : ℕ} → (t ≡ true → Begins s n) → (m ≡ 0) ⊎ Begins s m → (pick t n m ≡ 0) ⊎ Begins s (pick t n m)
  or_else {t = true} f q = inr (f refl)
  or_else {t = false} f q = q

  pub char_complete : (char_length s ≡ 0) ⊎ Begins s (char_length s)
  unfolding char_of
  char_complete =
      or_else of_one
      (or_else (of_two 0xC2 0xDF 0x80 0xBF (omega arith) two)
      (or_else (of_three 0xE0 0xE0 0xA0 0xBF (omega arith) three_e0)
      (or_else (of_three 0xE1 0xEC 0x80 0xBF (omega arith) three_e1)
      (or_else (of_three 0xED 0xED 0x80 0x9F (omega arith) three_ed)
      (or_else (of_three 0xEE 0xEF 0x80 0xBF (omega arith) three_ee)
      (or_else (of_four 0xF0 0xF0 0x90 0xBF (omega arith) four_f0)
      (or_else (of_four 0xF1 0xF3 0x80 0xBF (omega arith) four_f1)
      (or_else (of_four 0xF4 0xF4 0x80 0x8F (omega arith) four_f4)
      (inl refl)))))))))

  -- no character reaches behind the end
  pub char_fits : char_length s ≤ length s
  char_fits = ⊎_elim (λ z. omega arith) (λ b. omega (arith, ap length b.starts.is, b.long, length-append b.starts.char b.starts.behind)) char_complete

-- a number of octets, found from the octets at a place, is that of the character there
pub char_there : (s : List ℕ) (at r : ℕ) → at < length s → r ≡ char_of (get_or s at 0) (get_or s (at + 1) 0) (get_or s (at + 2) 0) (get_or s (at + 3) 0)
    → (r ≡ char_length (drop at s)) × (at + r ≤ length s)
char_there s at r h e =
    let q : r ≡ char_length (drop at s) = simp (get_or-drop, add-zero) e in
    (q, omega (arith, length-drop at s, char_fits (drop at s) (omega (arith, length-drop at s))))
