-- A line that is understood, by three of its octets: it is a start, or it is passed over. Assumes nothing.
use mathlib.Core.Path.{◌≡◌, refl, sym, ap, ◌∙◌}
use mathlib.Core.Bool.{true, false, not, ◌&&◌, or-false, false≢true}
use mathlib.Core.List.{List, map}
use mathlib.Core.Logic.{⊎_elim}
use Prim.Native.Nat.{ℕ, ◌+◌, ◌-◌, ◌<◌, ◌≤◌}
use native.Mathlib.Omega.{arith}
use borrow.Author.Tests.{eqb-true, eqb-false, eq-eqb, leb-true, le-leb, not-true}
use lib.Dec.{eqb, leb}
use lib.ListN.{length, get_or}
use Rattle.ground.specs.Lists.{part}
use Rattle.ground.proofs.Cases.{and_left, and_right, and_both, le_or, true_or}
use Rattle.catalogue_cue.specs.declared.Line.TheVariants.{Passed, NotUnderstood}
use Rattle.catalogue_cue.specs.Sheet.{cr, space, octets, begins, digits_at, number_at, unspaced, is_start, is_other_index, is_passed, line_of}
use Rattle.catalogue_cue.specs.Scan.{is_lf, is_no_space, ahead_end, lines_from, CutAt, StartLine, ReadAt, AllUnderstood, looks_start}
use Rattle.catalogue_cue.proofs.Words.{passed_by, filled_line}
use Rattle.catalogue_cue.proofs.Form.{start_form, begins_at, short_index}
use Rattle.catalogue_cue.proofs.Lines.{part_length, part_at, cut_last, cut_empty, cut_plain, cut_cr}
use Rattle.catalogue_cue.proofs.Starting.{no_lf_within}
use Rattle.catalogue_cue.proofs.Meaning.{gives_nothing, gives_fault}
use Rattle.catalogue_cue.proofs.Reading.{unspaced_cut, no_space, skipped, line_read}

-- the line that starts at a place, cut
pub record SomeCut (sheet : List ℕ) (at : ℕ) : Type 0 where
  pub end : ℕ
  pub cut : CutAt sheet at end (ahead_end is_lf sheet at + 1)

some_cut : (sheet : List ℕ) (at : ℕ) → at ≤ length sheet → SomeCut sheet at
some_cut sheet at h =
    let n = ahead_end is_lf sheet at in
    ⊎_elim
    (λ k. record { end = n; cut = cut_last sheet at h n refl k })
    (λ k.
    ⊎_elim
    (λ j. record { end = n; cut = cut_empty sheet at h n refl k j })
    (λ j.
    ⊎_elim
    (λ t. record { end = n - 1; cut = cut_cr sheet at h n refl k j (eqb-true _ _ t) })
    (λ t. record { end = n; cut = cut_plain sheet at h n refl k j (eqb-false _ _ t) })
    (true_or (eqb (get_or sheet (n - 1) 0) cr)))
    (le_or n at))
    (le_or (length sheet) n)

number_one : (s : List ℕ) → get_or s 6 0 ≡ 48 → get_or s 7 0 ≡ 49 → number_at s 6 ≡ 1
unfolding number_at
number_one s a b = omega arith

-- a line that begins at a place, behind its spaces
module _ (sheet : List ℕ) (from : ℕ) (k : from ≤ length sheet) (first : from < length sheet → get_or sheet from 0 ≡ space → ⊥) where
  here : SomeCut sheet from
  here = some_cut sheet from k

  l : List ℕ
  l = part sheet from here.end

  long : length l ≡ here.end - from
  unfolding l
  long = part_length sheet from here.end here.cut.high

  at_place_lem : (j : ℕ) → j < length l → get_or l j 0 ≡ get_or sheet (from + j) 0
  unfolding l
  at_place_lem j q = part_at sheet from here.end j (omega (arith, long))

  at_front : 0 < length l → get_or l 0 0 ≡ get_or sheet from 0
  at_front q = let e : from + 0 ≡ from = omega arith in at_place_lem 0 q ∙ ap (λ (i : ℕ). get_or sheet i 0) e

  -- what the three octets tell
  module _ (t : looks_start sheet from ≡ true) where
    four : (17 ≤ length sheet - from) × (get_or sheet from 0 ≡ 73) × (get_or sheet (from + 6) 0 ≡ 48) × (get_or sheet (from + 7) 0 ≡ 49)
    unfolding looks_start
    four =
        let a = leb 17 (length sheet - from) in
        let b = eqb (get_or sheet from 0) 73 in
        let c = eqb (get_or sheet (from + 6) 0) 48 in
        let d = eqb (get_or sheet (from + 7) 0) 49 in (
          leb-true _ _ (and_left a b (and_left (a && b) c (and_left (a && b && c) d t))),
          eqb-true _ _ (and_right a b (and_left (a && b) c (and_left (a && b && c) d t))),
          eqb-true _ _ (and_right (a && b) c (and_left (a && b && c) d t)),
          eqb-true _ _ (and_right (a && b && c) d t),
        )

    some_octets : 0 < length l
    some_octets =
        ⊎_elim
        (λ z.
        let e : here.end ≡ from = omega (arith, long, here.cut.low) in
        absurd
        (⊎_elim
        (λ f. omega (arith, four.1, f, ap (λ (i : ℕ). get_or sheet i 0) e))
        (λ f. omega (arith, four.1, f.0, ap (λ (i : ℕ). get_or sheet i 0) e))
        (here.cut.stop (omega (arith, four.0, e)))))
        (λ z. z)
        (le_or (length l) 0)

    index_is_01 : is_other_index l ≡ true → ⊥
    unfolding is_other_index
    index_is_01 q =
        ⊎_elim
        (λ z.
        let six : get_or l 6 0 ≡ 48 = at_place_lem 6 (omega arith) ∙ four.2 in
        let seven : get_or l 7 0 ≡ 49 = at_place_lem 7 (omega arith) ∙ four.3 in
        let other : not (eqb (number_at l 6) 1) ≡ true = and_right (begins (octets "INDEX ") l && digits_at l 6) _ q in
        eqb-false (number_at l 6) 1 (not-true _ other) (number_one l six seven))
        (λ z. false≢true (sym (short_index l z) ∙ q))
        (le_or 8 (length l))

    not_passed : is_passed l ≡ true → ⊥
    not_passed p =
        let e : get_or l 0 0 ≡ 73 = at_front some_octets ∙ four.1 in
        index_is_01 (sym (passed_by l 73 e ∙ rw (filled_line l 73 e (λ q. omega arith)) (simp or-false)) ∙ p)

  -- a start has these three octets
  looks : is_start l ≡ true → looks_start sheet from ≡ true
  unfolding looks_start
  looks s =
      let f = start_form l s in
      let octet : (j : ℕ) → j < 9 → get_or sheet (from + j) 0 ≡ get_or (octets "INDEX 01 ") j 0 = λ j q. sym (at_place_lem j (omega (arith, f.long))) ∙ begins_at (octets "INDEX 01 ") l f.word j q in
      let e : from + 0 ≡ from = omega arith in
      and_both
      (and_both
      (and_both (le-leb 17 (length sheet - from) (omega (arith, f.long, long, here.cut.high))) (eq-eqb _ _ (sym (ap (λ (i : ℕ). get_or sheet i 0) e) ∙ octet 0 (omega arith))))
      (eq-eqb _ _ (octet 6 (omega arith))))
      (eq-eqb _ _ (octet 7 (omega arith)))

  module _ (u : line_of l ≡ NotUnderstood → ⊥) where
    same : l ≡ unspaced l
    unfolding l
    same = unspaced_cut sheet from here.end first here.cut.high

    is_start_lem : looks_start sheet from ≡ true → is_start l ≡ true
    is_start_lem t =
        ⊎_elim
        (λ s. s)
        (λ s. ⊎_elim (λ p. absurd (not_passed t p)) (λ p. absurd (u (sym (gives_fault l l same s p)))) (true_or (is_passed l)))
        (true_or (is_start l))

    is_passed_lem : looks_start sheet from ≡ false → Passed ≡ line_of l
    is_passed_lem t =
        ⊎_elim
        (λ s. absurd (false≢true (sym t ∙ looks s)))
        (λ s. ⊎_elim (λ p. gives_nothing l l same s p) (λ p. absurd (u (sym (gives_fault l l same s p)))) (true_or (is_passed l)))
        (true_or (is_start l))

    -- the start's octets, and its line
    skimmed_start : looks_start sheet from ≡ true → (n : ℕ) → n ≡ ahead_end is_lf sheet (from + 17) → StartLine sheet from (n + 1)
    unfolding l
    skimmed_start t n q =
        let s = is_start_lem t in
        let e : here.end ≡ from + 17 = omega (arith, (start_form l s).long, long) in
        let form : is_start (part sheet from (from + 17)) ≡ true = rw e at s in
        let fits : from + 17 ≤ length sheet = omega (arith, here.cut.high, e) in
        let next : ahead_end is_lf sheet from + 1 ≡ n + 1 = omega (arith, no_lf_within sheet from fits form) in
        record { fits = fits; form = form; cut = rw (e, next) at here.cut }

-- the line at a place of a sheet whose lines are understood
module _ (sheet : List ℕ) (at from : ℕ) (h : at ≤ length sheet) (e : from ≡ ahead_end is_no_space sheet at) (k : from ≤ length sheet) (understood : AllUnderstood (map line_of (lines_from sheet at))) where
  own : line_of (l sheet from k (no_space sheet at from h e k)) ≡ NotUnderstood → ⊥
  unfolding l
  own = (rw (skipped sheet at from h e k, (here sheet from k (no_space sheet at from h e k)).cut.cut) at understood).0

  pub skim_start : looks_start sheet from ≡ true → (n : ℕ) → n ≡ ahead_end is_lf sheet (from + 17) → StartLine sheet from (n + 1)
  skim_start = skimmed_start sheet from k (no_space sheet at from h e k) own

  pub skim_passed : looks_start sheet from ≡ false → (n : ℕ) → n ≡ ahead_end is_lf sheet from → ReadAt sheet at Passed (n + 1)
  unfolding l
  skim_passed t n q =
      let c = here sheet from k (no_space sheet at from h e k) in
      line_read sheet at from h e k Passed c.end (n + 1) (rw (sym q) at c.cut) (is_passed_lem sheet from k (no_space sheet at from h e k) own t)
