-- `text_from` by characters: one of them, a turn of the loop of `scan`, and octets that are all below 0x80. Assumes nothing.
use mathlib.Core.Path.{◌≡◌, refl, sym, ap, ◌∙◌}
use mathlib.Core.List.{List, [], ◌∷◌}
use Prim.Native.Nat.{ℕ, zero, suc, ◌+◌, ◌-◌, ◌≤◌, ◌<◌}
use native.Mathlib.Nat.{add-zero, not-suc-le-zero, le_of_suc-le-suc}
use native.Mathlib.Omega.{arith}
use borrow.Author.Tests.{ne_eqb}
use lib.ListN.{length, get_or, drop, length-drop}
use lib.Seq.{drop-drop, get_or-drop}
use Rattle.text.specs.Utf8.{bad_at, char_length, text_from, text_of}
use Rattle.std.specs.Prelude.{Result, Ok}
use Rattle.text.specs.declared.NotText.{NotText}
use Rattle.text.proofs.Rows.{row_one}
use Rattle.text.proofs.Chars.{char_fits}

-- the rest of a character
skip : (n at : ℕ) (s : List ℕ) → n ≤ length s → text_from at n s ≡ text_from (at + n) 0 (drop n s)
unfolding text_from
skip zero at s h = rw add-zero
skip (suc n) at [] h = absurd (not-suc-le-zero h)
skip (suc n) at (a ∷ s) h =
    let e : at + suc n ≡ at + 1 + n = omega arith in
    rw e (skip n (at + 1) s (le_of_suc-le-suc h))

-- no character
pub stops : (at : ℕ) (s : List ℕ) → 0 < length s → char_length s ≡ 0 → text_from at 0 s ≡ bad_at at
unfolding text_from
stops at [] h z = absurd (not-suc-le-zero h)
stops at (a ∷ s) h z = rw z

-- a character of n octets
pub goes_on_lem : (at n : ℕ) (s : List ℕ) → 0 < length s → char_length s ≡ n → 0 < n → text_from at 0 s ≡ text_from (at + n) 0 (drop n s)
unfolding text_from
goes_on_lem at n [] h e p = absurd (not-suc-le-zero h)
goes_on_lem at zero (a ∷ s) h e p = absurd (not-suc-le-zero p)
goes_on_lem at (suc n) (a ∷ s) h e p =
    let q : suc n - 1 ≡ n = omega arith in
    rw (e, ne_eqb (suc n) 0 (λ z. omega arith), q) (skip (suc n) at (a ∷ s) (omega (arith, char_fits (a ∷ s) h)))

-- a turn of the loop, which keeps that what is left says the whole: n octets of a character at i
module _ (s : List ℕ) (i : ℕ) {n : ℕ} {whole : Result Unit NotText} (inv : text_from i 0 (drop i s) ≡ whole) (h : i < length s) (e : n ≡ char_length (drop i s)) where
  left : 0 < length (drop i s)
  left = omega (arith, length-drop i s)

  pub stopped : n ≡ 0 → bad_at i ≡ whole
  stopped z = sym (stops i (drop i s) left (sym e ∙ z)) ∙ inv

  pub turned : 0 < n → text_from (i + n) 0 (drop (i + n) s) ≡ whole
  turned p = ap (text_from (i + n) 0) (sym (drop-drop n i s)) ∙ sym (goes_on_lem i n (drop i s) left (sym e) p) ∙ inv

ascii : (at : ℕ) (s : List ℕ) → ((i : ℕ) → i < length s → get_or s i 0 ≤ 0x7F) → text_from at 0 s ≡ Ok tt
unfolding text_from
ascii at [] low = refl
ascii at (a ∷ s) low =
    goes_on_lem at 1 (a ∷ s) (omega arith) (row_one a (get_or s 0 0) (get_or s 1 0) (get_or s 2 0) (omega (arith, low 0 (omega arith)))) (omega arith)
    ∙ ascii (at + 1) s (λ i h. low (suc i) (omega arith))

-- the loop's end: from i on all octets are plain
pub plain_rest : (s : List ℕ) (i : ℕ) {whole : Result Unit NotText} → text_from i 0 (drop i s) ≡ whole
    → ((k : ℕ) → i ≤ k → k < length s → get_or s k 0 ≤ 0x7F) → Ok tt ≡ whole
plain_rest s i inv low = sym (ascii i (drop i s) (λ k h. rw get_or-drop (low (i + k) (omega arith) (omega (arith, length-drop i s))))) ∙ inv

pub ascii_is_text : (s : List ℕ) → ((i : ℕ) → i < length s → get_or s i 0 ≤ 0x7F) → text_of s ≡ Ok tt
unfolding text_of
ascii_is_text s low = ascii 0 s low
