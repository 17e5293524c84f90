-- The check of a text agrees with the grammar of RFC 3629, both ways (SCOPE 2.5, 2.6): which texts are right, and which offset is told. Assumes nothing.
use mathlib.Core.Path.{◌≡◌, refl, sym, ap, ◌∙◌}
use mathlib.Core.Bool.{true, false≢true}
use mathlib.Core.Logic.{◌↔◌, ⊎_elim}
use mathlib.Core.List.{List, [], ◌∷◌, ◌++◌, append_assoc, append-nil}
use Prim.Native.Nat.{ℕ, zero, suc, ◌+◌, ◌≤◌, ◌<◌, zero-le}
use native.Mathlib.Nat.{add-zero, zero-add, add_assoc, not-suc-le-zero}
use native.Mathlib.Omega.{arith}
use lib.ListN.{length, get_or, take, drop, length-append, length-drop, take-append-drop}
use lib.Seq.{length-take-le, drop-append_seam, take-append-add, drop-append-add}
use Rattle.text.specs.Grammar.{Char, Text, Text.end, Text.more, Starts, FirstBad}
use Rattle.text.specs.Utf8.{bad_at, char_length, text_from, text_of, text_said, said_of, is_fine}
use Rattle.std.specs.Prelude.{Result, Ok, Err}
use Rattle.text.specs.declared.NotText.{NotText}
use Rattle.text.proofs.Chars.{char_sound, char_long, char_complete}
use Rattle.text.proofs.Run.{stops, goes_on_lem}

clash : {A : Type 0} {n : ℕ} → ◌≡◌ {A = Result Unit NotText} (Ok tt) (bad_at n) → A
clash e = let z : ◌≡◌ {A = ℕ} 0 1 = cc in absurd (omega arith)

same : {m n : ℕ} → bad_at m ≡ bad_at n → m ≡ n
same e = ap offset e
  where
    offset : Result Unit NotText → ℕ
    offset (Ok u) = 0
    offset (Err b) = b.at

-- a character is read as one
char_read : {c : List ℕ} → Char c → (at : ℕ) (s : List ℕ) → text_from at 0 (c ++ s) ≡ text_from (at + length c) 0 s
char_read {c} v at s =
    rw drop-append_seam at (goes_on_lem at (length c) (c ++ s) (omega (arith, length-append c s, char_long v)) (char_sound v s) (char_long v))

-- text is read to its end
text_read : {p : List ℕ} → Text p → (at : ℕ) (q : List ℕ) → text_from at 0 (p ++ q) ≡ text_from (at + length p) 0 q
text_read end at q = rw add-zero
text_read (more {c = c} {s = s} v t) at q =
    rw (append_assoc, length-append, ← add_assoc) (char_read v at (s ++ q) ∙ text_read t (at + length c) q)

-- where the length is 0 no character stands
no_start : {s : List ℕ} → char_length s ≡ 0 → Starts s → ⊥
no_start z p = omega (arith, char_long p.valid, sym z ∙ ap char_length p.is ∙ char_sound p.valid p.behind)

-- what `text_from` says of s, with what the grammar says of it
data Reading (s : List ℕ) (at : ℕ) : Type 0 where
  fine : text_from at 0 s ≡ Ok tt → Text s → Reading s at
  bad : (k : ℕ) → text_from at 0 s ≡ bad_at (at + k) → FirstBad s k → Reading s at

-- a character in front
onto : {c s : List ℕ} {at : ℕ} → Char c → Reading s (at + length c) → Reading (c ++ s) at
onto {c} {s} {at} v (fine e t) = fine (char_read v at s ∙ e) (more v t)
onto {c} {s} {at} v (bad k e f) =
    bad
    (length c + k)
    (char_read v at s ∙ e ∙ ap bad_at (add_assoc at (length c) k))
    (record {
      inside = omega (arith, f.inside, length-append c s);
      before = rw take-append-add (more v f.before);
      none = λ p. f.none (rw drop-append-add at p);
    })

reading : (n : ℕ) (s : List ℕ) → length s ≤ n → (at : ℕ) → Reading s at
unfolding text_from
reading zero [] h at = fine refl end
reading zero (a ∷ s) h at = absurd (not-suc-le-zero h)
reading (suc n) [] h at = fine refl end
reading (suc n) (a ∷ s) h at =
    ⊎_elim
    (λ z. bad 0 (rw add-zero (stops at (a ∷ s) (omega arith) z)) (record { inside = omega arith; before = end; none = no_start z }))
    (λ b. begun b.starts (reading n b.starts.behind (shorter b.starts) (at + length b.starts.char)))
    (char_complete (a ∷ s) (omega arith))
  where
    begun : (p : Starts (a ∷ s)) → Reading p.behind (at + length p.char) → Reading (a ∷ s) at
    begun p r = rw p.is (onto p.valid r)

    shorter : (p : Starts (a ∷ s)) → length p.behind ≤ n
    shorter p = omega (arith, ap length p.is, length-append p.char p.behind, char_long p.valid)

read_fine : {s : List ℕ} → text_from 0 0 s ≡ Ok tt → Reading s 0 → Text s
read_fine h (fine e t) = t
read_fine h (bad k e f) = clash (sym h ∙ e)

read_bad : {s : List ℕ} {at : ℕ} → text_from 0 0 s ≡ bad_at at → Reading s 0 → FirstBad s at
read_bad h (fine e t) = clash (sym e ∙ h)
read_bad {s} {at} h (bad k e f) =
    let q : k ≡ at = sym (zero-add k) ∙ same (sym e ∙ h) in
    rw q at f

bad_read : {s : List ℕ} {at : ℕ} → FirstBad s at → text_from 0 0 s ≡ bad_at at
bad_read {s} {at} f =
    let g : 0 < length (drop at s) = omega (arith, f.inside, length-drop at s) in
    let z : char_length (drop at s) ≡ 0 = ⊎_elim (λ z. z) (λ b. absurd (f.none b.starts)) (char_complete (drop at s) g) in
    let l : length (take at s) ≡ at = length-take-le at s (omega (arith, f.inside)) in
    ap (text_from 0 0) (sym (take-append-drop at s)) ∙ text_read f.before 0 (drop at s) ∙ stops (0 + length (take at s)) (drop at s) g z ∙ ap bad_at (zero-add (length (take at s)) ∙ l)

-- of the two answers the one that is granted
pub only_fine : (c : Result Unit NotText) → is_fine c ≡ true → c ≡ Ok tt
only_fine (Ok u) e = refl
only_fine (Err _) e = absurd (false≢true e)

-- THE LAW (SCOPE 2.5): a text is called right exactly where the grammar of the RFC makes it
pub fine_is_text : (s : List ℕ) → (text_of s ≡ Ok tt) ↔ Text s
unfolding text_of text_from
fine_is_text s =
    (λ e. read_fine e (reading (length s) s (omega arith) 0), λ t. ap (text_from 0 0) (sym (append-nil s)) ∙ text_read t 0 [])

-- and the offset is that of the first octet that starts no character, with whole characters before it (SCOPE 2.6)
pub bad_is_first : (s : List ℕ) (at : ℕ) → (text_of s ≡ bad_at at) ↔ FirstBad s at
unfolding text_of
bad_is_first s at = (λ e. read_bad e (reading (length s) s (omega arith) 0), bad_read)

-- an offset that is told lies within the text
pub offset_within : (s : List ℕ) (i : ℕ) → get_or (text_said s).values i 0 ≤ length s
unfolding text_said
offset_within s i = at (text_of s) refl i
  where
    at : (c : Result Unit NotText) → text_of s ≡ c → (i : ℕ) → get_or (said_of c).values i 0 ≤ length s
    at (Ok u) e i = zero-le
    at (Err b) e zero = omega (arith, ((bad_is_first s b.at).0 e).inside)
    at (Err b) e (suc i) = zero-le
