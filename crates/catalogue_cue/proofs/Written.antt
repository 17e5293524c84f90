-- A line gives a start exactly where it is `INDEX 01 mm:ss:ff`, in two digits each, of a frame within its ranges (SCOPE 6.5): both ways. Assumes nothing.
use mathlib.Core.Path.{◌≡◌, refl, sym, ap, ◌∙◌}
use mathlib.Core.Bool.{true, ◌&&◌}
use mathlib.Core.List.{List, [], ◌∷◌, ◌++◌}
use mathlib.Core.Logic.{⊎_elim}
use Prim.Native.Nat.{ℕ, ◌+◌, ◌-◌, ◌*◌, ◌/◌, ◌%◌, ◌<◌, ◌≤◌}
use native.Mathlib.Omega.{arith}
use borrow.Author.Tests.{eqb-true, eq-eqb, leb-true, le-leb}
use lib.Dec.{eqb, leb}
use lib.ListN.{get_or, get_or-append}
use lib.Seq.{ext_get_or}
use Rattle.ground.specs.Lists.{all_below}
use Rattle.ground.proofs.Bounded.{all_at, all_intro}
use Rattle.ground.proofs.Cases.{and_left, and_right, and_both, true_or}
use Rattle.catalogue_cue.specs.declared.Line.{Line}
use Rattle.catalogue_cue.specs.declared.Line.TheVariants.{Start, Passed, NotUnderstood}
use Rattle.catalogue_cue.specs.Sheet.{octets, begins, unspaced, is_digit, digits_at, number_at, hundredths, is_start, start_of, is_passed, line_of}
use Rattle.catalogue_cue.proofs.Form.{start_by, StartForm, start_form, begins_at, digits_9, digits_12, digits_15, colon_11, colon_14}
use Rattle.catalogue_cue.proofs.Meaning.{gives_start, gives_nothing, gives_fault}

-- a frame within its ranges, ss at most 59 and ff at most 74, and its two digits each (SCOPE 6.5)
pub record IsFrame (mm ss ff : ℕ) : Type 0 where
  pub minutes : mm ≤ 99
  pub seconds : ss ≤ 59
  pub frames : ff ≤ 74

abbrev pub two_digits : ℕ → List ℕ
two_digits n = (0x30 + n / 10) ∷ (0x30 + n % 10) ∷ []

abbrev pub time : ℕ → ℕ → ℕ → List ℕ
time mm ss ff = two_digits mm ++ octets ":" ++ two_digits ss ++ octets ":" ++ two_digits ff

-- the line `INDEX 01 mm:ss:ff` of a frame
abbrev pub written : ℕ → ℕ → ℕ → List ℕ
written mm ss ff = octets "INDEX 01 " ++ time mm ss ff

-- two digits that are written are digits, and the number that they make is the one that was written
digits : (n : ℕ) → n ≤ 99 → (is_digit (0x30 + n / 10) && is_digit (0x30 + n % 10)) ≡ true
digits n h =
    and_both
    (and_both (le-leb 0x30 (0x30 + n / 10) (omega arith)) (le-leb (0x30 + n / 10) 0x39 (omega arith)))
    (and_both (le-leb 0x30 (0x30 + n % 10) (omega arith)) (le-leb (0x30 + n % 10) 0x39 (omega arith)))

number : (n : ℕ) → (0x30 + n / 10 - 0x30) * 10 + (0x30 + n % 10 - 0x30) ≡ n
number n = omega arith

limit : (n most : ℕ) → n ≤ most → leb ((0x30 + n / 10 - 0x30) * 10 + (0x30 + n % 10 - 0x30)) most ≡ true
limit n most h = rw (number n) (le-leb n most h)

module _ (mm ss ff : ℕ) (f : IsFrame mm ss ff) where
  is_start_lem : is_start (written mm ss ff) ≡ true
  unfolding digits_at number_at begins
  is_start_lem =
      start_by (written mm ss ff) refl refl
      ∙ and_both
      (and_both
      (and_both (and_both (and_both (and_both (digits mm f.minutes) refl) (digits ss (omega (arith, f.seconds)))) refl) (digits ff (omega (arith, f.frames))))
      (limit ss 59 f.seconds))
      (limit ff 74 f.frames)

  pub written_gives : line_of (written mm ss ff) ≡ Start (hundredths mm ss ff)
  unfolding unspaced start_of number_at
  written_gives = sym (gives_start (written mm ss ff) (written mm ss ff) refl is_start_lem (λ i. hundredths (sym (number mm) i) (sym (number ss) i) (sym (number ff) i)))

-- a digit, back from the number that it is in
tens : (a b : ℕ) → (is_digit a && is_digit b) ≡ true → (a ≡ 0x30 + ((a - 0x30) * 10 + (b - 0x30)) / 10) × (b ≡ 0x30 + ((a - 0x30) * 10 + (b - 0x30)) % 10) × ((a - 0x30) * 10 + (b - 0x30) ≤ 99)
tens a b e =
    let p = and_left (is_digit a) (is_digit b) e in
    let q = and_right (is_digit a) (is_digit b) e in
    let a0 = leb-true 0x30 a (and_left (leb 0x30 a) (leb a 0x39) p) in
    let a9 = leb-true a 0x39 (and_right (leb 0x30 a) (leb a 0x39) p) in
    let b0 = leb-true 0x30 b (and_left (leb 0x30 b) (leb b 0x39) q) in
    let b9 = leb-true b 0x39 (and_right (leb 0x30 b) (leb b 0x39) q) in
    (omega arith, omega arith, omega arith)

module _ (line : List ℕ) (f : StartForm line) where
  -- its three numbers
  abbrev wholly : List ℕ
  wholly = written (number_at line 9) (number_at line 12) (number_at line 15)

  letter : (j : ℕ) → j < 9 → eqb (get_or line j 0) (get_or wholly j 0) ≡ true
  letter j h = eq-eqb _ _ (begins_at (octets "INDEX 01 ") line f.word j h ∙ sym (get_or-append (octets "INDEX 01 ") (time (number_at line 9) (number_at line 12) (number_at line 15)) 0 j h))

  is_written : line ≡ wholly
  unfolding all_below digits_at number_at
  is_written =
      ext_get_or 0 line wholly f.long (λ j h. eqb-true _ _ (all_at (λ k. eqb (get_or line k 0) (get_or wholly k 0)) 17 every j (omega (arith, f.long))))
    where
      mm : (get_or line 9 0 ≡ 0x30 + ((get_or line 9 0 - 0x30) * 10 + (get_or line 10 0 - 0x30)) / 10) × (get_or line 10 0 ≡ 0x30 + ((get_or line 9 0 - 0x30) * 10 + (get_or line 10 0 - 0x30)) % 10) × ((get_or line 9 0 - 0x30) * 10 + (get_or line 10 0 - 0x30) ≤ 99)
      mm = tens (get_or line 9 0) (get_or line 10 0) (digits_9 line f.time)

      ss : (get_or line 12 0 ≡ 0x30 + ((get_or line 12 0 - 0x30) * 10 + (get_or line 13 0 - 0x30)) / 10) × (get_or line 13 0 ≡ 0x30 + ((get_or line 12 0 - 0x30) * 10 + (get_or line 13 0 - 0x30)) % 10) × ((get_or line 12 0 - 0x30) * 10 + (get_or line 13 0 - 0x30) ≤ 99)
      ss = tens (get_or line 12 0) (get_or line 13 0) (digits_12 line f.time)

      ff : (get_or line 15 0 ≡ 0x30 + ((get_or line 15 0 - 0x30) * 10 + (get_or line 16 0 - 0x30)) / 10) × (get_or line 16 0 ≡ 0x30 + ((get_or line 15 0 - 0x30) * 10 + (get_or line 16 0 - 0x30)) % 10) × ((get_or line 15 0 - 0x30) * 10 + (get_or line 16 0 - 0x30) ≤ 99)
      ff = tens (get_or line 15 0) (get_or line 16 0) (digits_15 line f.time)

      every : all_below 17 (λ k. eqb (get_or line k 0) (get_or wholly k 0)) ≡ true
      every =
          and_both (and_both (and_both (and_both (and_both (and_both (and_both (and_both (all_intro _ 9 letter) (eq-eqb _ _ mm.0)) (eq-eqb _ _ mm.1)) (colon_11 line f.time)) (eq-eqb _ _ ss.0)) (eq-eqb _ _ ss.1)) (colon_14 line f.time)) (eq-eqb _ _ ff.0)) (eq-eqb _ _ ff.1)

-- what a line gives, as numbers: whether it is a start, and which
tag : Line → ℕ
tag (Start n) = 1
tag Passed = 0
tag NotUnderstood = 0

start_in : Line → ℕ
start_in (Start n) = n
start_in Passed = 0
start_in NotUnderstood = 0

module _ (line : List ℕ) (n : ℕ) (e : line_of line ≡ Start n) where
  -- without its leading spaces
  abbrev bare : List ℕ
  bare = unspaced line

  has_form : is_start bare ≡ true
  unfolding tag
  has_form =
      ⊎_elim
      (λ s. s)
      (λ s.
      ⊎_elim
      (λ p. absurd (zero_one (ap tag (gives_nothing line bare refl s p ∙ e))))
      (λ p. absurd (zero_one (ap tag (gives_fault line bare refl s p ∙ e))))
      (true_or (is_passed bare)))
      (true_or (is_start bare))
    where
      zero_one : ◌≡◌ {A = ℕ} 0 1 → ⊥
      zero_one q = omega arith

  pub start_written :
      let mm = number_at bare 9 in
      let ss = number_at bare 12 in
      let ff = number_at bare 15 in
      IsFrame mm ss ff × (bare ≡ written mm ss ff) × (n ≡ hundredths mm ss ff)
  unfolding start_of start_in digits_at number_at
  start_written =
      let f = start_form bare has_form in (
        record { minutes = (tens (get_or bare 9 0) (get_or bare 10 0) (digits_9 bare f.time)).2; seconds = f.seconds; frames = f.frames },
        is_written bare f,
        sym (ap start_in (gives_start line bare refl has_form refl ∙ e)),
      )
