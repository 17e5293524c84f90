-- The line at a place, behind its spaces: what it gives. Assumes nothing.
use mathlib.Core.Path.{◌≡◌, sym, ap, ◌∙◌}
use mathlib.Core.Bool.{true, false, not}
use mathlib.Core.List.{List, ◌∷◌, map}
use Prim.Native.Nat.{ℕ, ◌+◌, ◌<◌, ◌≤◌}
use native.Mathlib.Omega.{arith}
use borrow.Author.Tests.{eqb-true, eqb-false, not-true, not-false}
use lib.Dec.{eqb}
use lib.ListN.{length, get_or, drop, length-drop}
use lib.Seq.{get_or-drop}
use mathlib.Core.Logic.{⊎_elim}
use Rattle.std.proofs.lemmas.List.{get_or_past}
use Rattle.ground.specs.Lists.{part}
use Rattle.ground.proofs.Cases.{le_or}
use Rattle.catalogue_cue.specs.declared.Line.{Line}
use Rattle.catalogue_cue.specs.declared.Line.TheVariants.{Start, Passed, NotUnderstood}
use Rattle.catalogue_cue.specs.Sheet.{space, unspaced, start_of, is_passed, line_of}
use Rattle.catalogue_cue.specs.Scan.{ahead, is_no_space, ahead_end, lines_from, CutAt, StartLine, NoStartLine, ReadAt}
use Rattle.catalogue_cue.proofs.Ahead.{ahead_none, ahead_found, unspaced_same}
use Rattle.catalogue_cue.proofs.Lines.{part_length, part_at, spaces_give}
use Rattle.catalogue_cue.proofs.Meaning.{gives_start, gives_nothing, gives_fault}

-- a line that was cut where no space stands has none in front
pub unspaced_cut : (sheet : List ℕ) (from end : ℕ) → (from < length sheet → get_or sheet from 0 ≡ space → ⊥) → end ≤ length sheet
    → part sheet from end ≡ unspaced (part sheet from end)
unspaced_cut sheet from end first h = sym (unspaced_same (part sheet from end) none)
  where
    none : get_or (part sheet from end) 0 0 ≡ space → ⊥
    none q =
        ⊎_elim
        (λ z. omega (arith, q, get_or_past (part sheet from end) 0 0 z))
        (λ z.
        let more : from < end = omega (arith, part_length sheet from end h) in
        let e : from + 0 ≡ from = omega arith in
        first (omega arith) (sym (ap (λ (i : ℕ). get_or sheet i 0) e) ∙ sym (part_at sheet from end 0 (omega arith)) ∙ q))
        (le_or (length (part sheet from end)) 0)

module _ (sheet : List ℕ) (at from : ℕ) (h : at ≤ length sheet) (e : from ≡ ahead_end is_no_space sheet at) (k : from ≤ length sheet) where
  all_spaces : (j : ℕ) → j < ahead is_no_space (drop at sheet) → get_or sheet (at + j) 0 ≡ space
  all_spaces j q =
      eqb-true _ _ (not-false _ (ap (λ (x : ℕ). not (eqb x space)) (sym (get_or-drop at sheet j 0)) ∙ ahead_none is_no_space (drop at sheet) j q))

  -- behind the spaces no space stands
  pub no_space : from < length sheet → get_or sheet from 0 ≡ space → ⊥
  no_space q z =
      let n = ahead is_no_space (drop at sheet) in
      let found : not (eqb (get_or (drop at sheet) n 0) space) ≡ true = ahead_found is_no_space (drop at sheet) (omega (arith, length-drop at sheet)) in
      eqb-false _ _ (not-true _ found) (get_or-drop at sheet n 0 ∙ sym (ap (λ (i : ℕ). get_or sheet i 0) e) ∙ z)

  pub skipped : map line_of (lines_from sheet at) ≡ map line_of (lines_from sheet from)
  skipped = rw e (spaces_give (ahead is_no_space (drop at sheet)) sheet at (omega arith) all_spaces)

  -- a line that was cut behind the spaces
  pub line_read : (line : Line) (end next : ℕ) → CutAt sheet from end next → line ≡ line_of (part sheet from end) → ReadAt sheet at line next
  line_read line end next c m =
      record {
        onward = omega (arith, c.onward);
        bound = c.bound;
        gives = skipped ∙ ap (map line_of) c.cut ∙ (λ i. sym m i ∷ map line_of (lines_from sheet next));
      }

  -- a start
  pub start_read : (start next : ℕ) → StartLine sheet from next → start ≡ start_of (part sheet from (from + 17)) → ReadAt sheet at (Start start) next
  start_read start next s m =
      let l = part sheet from (from + 17) in
      line_read (Start start) (from + 17) next s.cut (gives_start l l (unspaced_cut sheet from (from + 17) no_space s.fits) s.form m)

  -- a line that is no start
  module _ (none : NoStartLine sheet from) (end next : ℕ) (c : CutAt sheet from end next) where
    pub passed_read : is_passed (part sheet from end) ≡ true → ReadAt sheet at Passed next
    passed_read p = line_read Passed end next c (gives_nothing (part sheet from end) _ (unspaced_cut sheet from end no_space c.high) (none end next c) p)

    pub fault_read : is_passed (part sheet from end) ≡ false → ReadAt sheet at NotUnderstood next
    fault_read p = line_read NotUnderstood end next c (gives_fault (part sheet from end) _ (unspaced_cut sheet from end no_space c.high) (none end next c) p)
