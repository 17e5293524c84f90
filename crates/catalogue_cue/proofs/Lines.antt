-- The lines of a sheet, one after the other: the octets up to the first LF, without a CR directly before it, and then what is behind it.
-- Assumes nothing.
use mathlib.Core.Path.{◌≡◌, refl, sym, ap, ◌∙◌}
use mathlib.Core.Bool.{Bool, true, false, ◌&&◌}
use mathlib.Core.List.{List, [], ◌∷◌, ◌++◌, map}
use mathlib.Core.Logic.{inl, inr}
use Prim.Native.Nat.{ℕ, zero, suc, ◌+◌, ◌-◌, ◌<◌, ◌≤◌, zero-le}
use native.Mathlib.Numerals.{add-one}
use native.Mathlib.Omega.{arith}
use borrow.Author.Tests.{eqb-true, eq-eqb, ne_eqb, le-leb, lt-leb}
use lib.Dec.{eqb}
use lib.ListN.{length, get_or, take, drop, length-drop, length-take, take-append-drop}
use lib.Seq.{drop-cons, drop-drop, get_or-drop, get_or-take, take-length, take-take}
use Rattle.ground.specs.Cases.{pick}
use Rattle.ground.specs.Lists.{part}
use Rattle.ground.proofs.Cases.{and_fails}
use Rattle.catalogue_cue.specs.Sheet.{lf, cr, space, onto, lines, unspaced, line_of}
use Rattle.catalogue_cue.specs.Scan.{ahead, is_lf, lines_from, CutAt}
use Rattle.catalogue_cue.proofs.Ahead.{ahead_le, ahead_found}

-- no octet is an LF
abbrev NoLf : List ℕ → Type 0
NoLf [] = Unit
NoLf (x ∷ s) = (eqb x lf ≡ false) × NoLf s

-- a CR at the very end is dropped
without_cr : List ℕ → List ℕ
without_cr [] = []
without_cr (x ∷ []) = pick (eqb x cr) [] (x ∷ [])
without_cr (x ∷ y ∷ s) = x ∷ without_cr (y ∷ s)

-- an octet of a line that neither ends the line nor belongs to its end
more : (x : ℕ) (s : List ℕ) → eqb x lf ≡ false → (eqb x cr && eqb (get_or s 0 0) lf) ≡ false → lines (x ∷ s) ≡ onto x (lines s)
unfolding lines
more x s e f = rw (e, f)

-- the last line
last_line : (s : List ℕ) → NoLf s → lines s ≡ s ∷ []
unfolding lines
last_line [] h = refl
last_line (x ∷ []) h = rw (h.0, and_fails (eqb x cr) {b = eqb 0 lf} refl)
last_line (x ∷ y ∷ s) h = more x (y ∷ s) h.0 (and_fails (eqb x cr) h.1.0) ∙ ap (onto x) (last_line (y ∷ s) h.1)

-- a line with an LF behind it
line_and_lf : (s rest : List ℕ) → NoLf s → lines (s ++ (lf ∷ rest)) ≡ without_cr s ∷ lines rest
unfolding lines without_cr
line_and_lf [] rest h = refl
line_and_lf (x ∷ []) rest h = rw h.0 (by (eqb x cr))
  where
    by : (t : Bool) → pick (t && true) ([] ∷ lines rest) (onto x ([] ∷ lines rest)) ≡ pick t [] (x ∷ []) ∷ lines rest
    by true = refl
    by false = refl
line_and_lf (x ∷ y ∷ s) rest h = more x (y ∷ (s ++ (lf ∷ rest))) h.0 (and_fails (eqb x cr) h.1.0) ∙ ap (onto x) (line_and_lf (y ∷ s) rest h.1)

cr_dropped : (s : List ℕ) (n : ℕ) → length s ≡ suc n → get_or s n 0 ≡ cr → without_cr s ≡ take n s
unfolding without_cr
cr_dropped [] n h e = absurd (omega arith)
cr_dropped (x ∷ []) zero h e = rw (eq-eqb _ _ e)
cr_dropped (x ∷ []) (suc n) h e = absurd (omega arith)
cr_dropped (x ∷ y ∷ s) zero h e = absurd (omega arith)
cr_dropped (x ∷ y ∷ s) (suc n) h e = ap (λ (l : List ℕ). x ∷ l) (cr_dropped (y ∷ s) n (omega arith) e)

cr_kept : (s : List ℕ) (n : ℕ) → length s ≡ suc n → (get_or s n 0 ≡ cr → ⊥) → without_cr s ≡ s
unfolding without_cr
cr_kept [] n h e = absurd (omega arith)
cr_kept (x ∷ []) zero h e = rw (ne_eqb _ _ e)
cr_kept (x ∷ []) (suc n) h e = absurd (omega arith)
cr_kept (x ∷ y ∷ s) zero h e = absurd (omega arith)
cr_kept (x ∷ y ∷ s) (suc n) h e = ap (λ (l : List ℕ). x ∷ l) (cr_kept (y ∷ s) n (omega arith) e)

-- the octets before the first LF, and the LF
no_lf_before : (s : List ℕ) → NoLf (take (ahead is_lf s) s)
unfolding ahead
no_lf_before [] = tt
no_lf_before (x ∷ s) = by (eqb x lf) refl (no_lf_before s)
  where
    by : (t : Bool) → eqb x lf ≡ t → NoLf (take (ahead is_lf s) s) → NoLf (take (pick t zero (suc (ahead is_lf s))) (x ∷ s))
    by true e k = tt
    by false e k = (e, k)

lf_behind : (s : List ℕ) → ahead is_lf s < length s → get_or s (ahead is_lf s) 0 ≡ lf
lf_behind s h = eqb-true _ _ (ahead_found is_lf s h)

-- the lines from the front, and from behind the end
pub from_zero : (sheet : List ℕ) → lines_from sheet 0 ≡ lines sheet
unfolding lines_from
from_zero sheet = rw (le-leb 0 (length sheet) zero-le)

pub from_beyond : (sheet : List ℕ) (at : ℕ) → length sheet < at → lines_from sheet at ≡ []
unfolding lines_from
from_beyond sheet at h = rw (lt-leb at (length sheet) h)

-- the two ways in which a line ends
last_of : (s : List ℕ) → length s ≤ ahead is_lf s → lines s ≡ s ∷ []
last_of s h =
    let e : ahead is_lf s ≡ length s = omega (arith, ahead_le is_lf s) in
    last_line s (rw (e, take-length) at (no_lf_before s))

first_of : (s : List ℕ) → ahead is_lf s < length s → lines s ≡ without_cr (take (ahead is_lf s) s) ∷ lines (drop (ahead is_lf s + 1) s)
first_of s h =
    let n = ahead is_lf s in
    let e : drop n s ≡ lf ∷ drop (n + 1) s = rw (add-one, drop-cons s n 0, lf_behind s h) in
    ap lines (sym (take-append-drop n s) ∙ ap (λ (l : List ℕ). take n s ++ l) e) ∙ line_and_lf (take n s) (drop (n + 1) s) (no_lf_before s)

-- the LF that a search from a place on finds
pub lf_place : (sheet : List ℕ) (at : ℕ) → at + ahead is_lf (drop at sheet) < length sheet → get_or sheet (at + ahead is_lf (drop at sheet)) 0 ≡ lf
lf_place sheet at h = sym (get_or-drop at sheet (ahead is_lf (drop at sheet)) 0) ∙ lf_behind (drop at sheet) (omega (arith, length-drop at sheet))

module _ (sheet : List ℕ) (at : ℕ) (h : at ≤ length sheet) (n : ℕ) (e : n ≡ at + ahead is_lf (drop at sheet)) where
  from : lines_from sheet at ≡ lines (drop at sheet)
  unfolding lines_from
  from = rw (le-leb _ _ h)

  span : ahead is_lf (drop at sheet) ≡ n - at
  span = omega arith

  -- at the text's end
  pub cut_last : length sheet ≤ n → CutAt sheet at n (n + 1)
  cut_last k =
      let m : n ≡ length sheet = omega (arith, ahead_le is_lf (drop at sheet), length-drop at sheet) in
      let all : n - at ≡ length (drop at sheet) = omega (arith, length-drop at sheet) in
      let whole : part sheet at n ≡ drop at sheet = rw (all, take-length) in
      let none : lines_from sheet (n + 1) ≡ [] = from_beyond sheet (n + 1) (omega arith) in
      record {
        low = omega arith;
        high = omega arith;
        onward = omega arith;
        bound = omega arith;
        stop = λ q. absurd (omega arith);
        cut = from ∙ last_of (drop at sheet) (omega (arith, length-drop at sheet)) ∙ (λ i. sym whole i ∷ sym none i);
      }

  module _ (k : n < length sheet) where
    behind : lines_from sheet (n + 1) ≡ lines (drop (n + 1) sheet)
    unfolding lines_from
    behind = rw (le-leb (n + 1) (length sheet) (omega arith))

    up_to_lf : lines_from sheet at ≡ without_cr (part sheet at n) ∷ lines_from sheet (n + 1)
    up_to_lf =
        let j : ahead is_lf (drop at sheet) < length (drop at sheet) = omega (arith, length-drop at sheet) in
        let place : at + (ahead is_lf (drop at sheet) + 1) ≡ n + 1 = omega arith in
        let on : drop (ahead is_lf (drop at sheet) + 1) (drop at sheet) ≡ drop (n + 1) sheet = drop-drop _ at sheet ∙ ap (λ (x : ℕ). drop x sheet) place in
        from ∙ first_of (drop at sheet) j ∙ (λ i. without_cr (take (span i) (drop at sheet)) ∷ (ap lines on ∙ sym behind) i)

    long : length (part sheet at n) ≡ n - at
    long = simp (length-take, length-drop) (omega arith)

    found : get_or sheet n 0 ≡ lf
    found = ap (λ (i : ℕ). get_or sheet i 0) e ∙ lf_place sheet at (omega arith)

    -- an LF alone, and one behind a line
    pub cut_empty : n ≤ at → CutAt sheet at n (n + 1)
    unfolding without_cr
    cut_empty j =
        let z : n - at ≡ 0 = omega arith in
        let none : without_cr (part sheet at n) ≡ part sheet at n = rw z in
        record { low = omega arith; high = omega arith; onward = omega arith; bound = omega arith; stop = λ q. inl found; cut = up_to_lf ∙ (λ i. none i ∷ lines_from sheet (n + 1)) }

    module _ (j : at < n) where
      -- the octet before the LF
      last_octet : get_or (part sheet at n) (n - 1 - at) 0 ≡ get_or sheet (n - 1) 0
      last_octet =
          let p : at + (n - 1 - at) ≡ n - 1 = omega arith in
          get_or-take (n - at) (drop at sheet) (n - 1 - at) 0 (omega arith) ∙ get_or-drop at sheet (n - 1 - at) 0 ∙ ap (λ (x : ℕ). get_or sheet x 0) p

      one_more : length (part sheet at n) ≡ suc (n - 1 - at)
      one_more = long ∙ omega arith

      pub cut_plain : (get_or sheet (n - 1) 0 ≡ cr → ⊥) → CutAt sheet at n (n + 1)
      cut_plain f =
          record {
            low = omega arith;
            high = omega arith;
            onward = omega arith;
            bound = omega arith;
            stop = λ q. inl found;
            cut = up_to_lf ∙ (λ i. cr_kept (part sheet at n) (n - 1 - at) one_more (λ q. f (sym last_octet ∙ q)) i ∷ lines_from sheet (n + 1));
          }

      pub cut_cr : get_or sheet (n - 1) 0 ≡ cr → CutAt sheet at (n - 1) (n + 1)
      cut_cr f =
          let short : without_cr (part sheet at n) ≡ part sheet at (n - 1) =
          cr_dropped (part sheet at n) (n - 1 - at) one_more (last_octet ∙ f) ∙ take-take (n - 1 - at) (n - at) (drop at sheet) (omega arith) in
          let behind-cr : n - 1 + 1 ≡ n = omega arith in
          record {
            low = omega arith;
            high = omega arith;
            onward = omega arith;
            bound = omega arith;
            stop = λ q. inr (f, ap (λ (x : ℕ). get_or sheet x 0) behind-cr ∙ found);
            cut = up_to_lf ∙ (λ i. short i ∷ lines_from sheet (n + 1));
          }

-- the octets of a part that lies in the sheet
pub part_length : (sheet : List ℕ) (a e : ℕ) → e ≤ length sheet → length (part sheet a e) ≡ e - a
part_length sheet a e h = simp (length-take, length-drop) (omega arith)

pub part_at : (sheet : List ℕ) (a e j : ℕ) → j < e - a → get_or (part sheet a e) j 0 ≡ get_or sheet (a + j) 0
part_at sheet a e j h = get_or-take (e - a) (drop a sheet) j 0 h ∙ get_or-drop a sheet j 0

-- there is always a line
some_line : (s : List ℕ) → 0 < length (lines s)
unfolding lines
some_line [] = omega arith
some_line (x ∷ s) = by (eqb x lf) (eqb x cr && eqb (get_or s 0 0) lf) (some_line s)
  where
    long : (ls : List (List ℕ)) → 0 < length (onto x ls)
    long [] = omega arith
    long (l ∷ ls) = omega arith

    by : (a b : Bool) → 0 < length (lines s) → 0 < length (pick a ([] ∷ lines s) (pick b (lines s) (onto x (lines s))))
    by true b h = omega arith
    by false true h = h
    by false false h = long (lines s)

-- a space at the front of a line changes nothing of what the line gives
space_gives : (s : List ℕ) → map line_of (lines (space ∷ s)) ≡ map line_of (lines s)
unfolding line_of unspaced
space_gives s = ap (map line_of) (more space s refl refl) ∙ by (lines s) (some_line s)
  where
    by : (ls : List (List ℕ)) → 0 < length ls → map line_of (onto space ls) ≡ map line_of ls
    by [] h = absurd (omega arith)
    by (l ∷ ls) h = refl

-- nor do many spaces
one_space : (sheet : List ℕ) (i : ℕ) → i < length sheet → get_or sheet i 0 ≡ space → map line_of (lines_from sheet i) ≡ map line_of (lines_from sheet (i + 1))
unfolding lines_from
one_space sheet i k q =
    let e : drop i sheet ≡ space ∷ drop (i + 1) sheet = rw (add-one, drop-cons sheet i 0, q) in
    rw (le-leb i (length sheet) (omega arith), le-leb (i + 1) (length sheet) (omega arith)) (ap (λ (l : List ℕ). map line_of (lines l)) e ∙ space_gives (drop (i + 1) sheet))

pub spaces_give : (n : ℕ) (sheet : List ℕ) (at : ℕ) → at + n ≤ length sheet → ((j : ℕ) → j < n → get_or sheet (at + j) 0 ≡ space)
    → map line_of (lines_from sheet at) ≡ map line_of (lines_from sheet (at + n))
spaces_give zero sheet at h g = let e : at + 0 ≡ at = omega arith in rw e
spaces_give (suc n) sheet at h g =
    let e : at + suc n ≡ at + n + 1 = omega arith in
    rw e (spaces_give n sheet at (omega arith) (λ j k. g j (omega arith)) ∙ one_space sheet (at + n) (omega arith) (g n (omega arith)))
