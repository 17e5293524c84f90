-- `catalogue_cue::fill`: the loop's state is `Filling`.
use mathlib.Core.Path.{◌≡◌, refl, ap, ◌∙◌}
use mathlib.Core.List.{List, [], ◌∷◌, ◌++◌, map}
use Prim.Native.Nat.{ℕ, ◌≤◌, ◌<◌, ◌+◌}
use native.Mathlib.Omega.{arith}
use mathlib.Core.Logic.{⊎_elim}
use lib.ListN.{length, take, length-append}
use lib.Seq.{paste, take-length, length-take-le}
use Rattle.ground.proofs.Cases.{le_or}
use Rattle.ground.proofs.Filling.{Filling, filling_starts, filling_room, filling_goes}
use Rattle.catalogue_cue.specs.Sheet.{line_of, sheet_lines, starts_of}
use Rattle.catalogue_cue.specs.declared.Line.{Line}
use Rattle.catalogue_cue.specs.Scan.{lines_from, ReadAt}
use Rattle.catalogue_cue.proofs.Lines.{from_zero, from_beyond}
use Rattle.catalogue_cue.proofs.Meaning.{starts_split}
use borrow.Author.Rules.{rules}
use Rattle.catalogue_cue.proofs.fill.Goals as goal

-- what is written and what is left are as many as there are
as_many : (all left old dst : List ℕ) (n : ℕ) → Filling all left old dst n → n + length left ≡ length all
as_many all left old dst n F = omega (arith, ap length F.front, length-append (take n dst) left, length-take-le n dst F.within)

-- the front of the table with the starts of the lines before a place, and the line at that place
module _ (sheet : List ℕ) {old dst : List ℕ} (at : ℕ) {n : ℕ} (F : Filling (starts_of (sheet_lines sheet)) (starts_of (map line_of (lines_from sheet at))) old dst n) where
  -- where starts are left, a line is
  line_left : n < length (starts_of (sheet_lines sheet)) → at ≤ length sheet
  unfolding starts_of
  line_left h =
      ⊎_elim
      (λ k. k)
      (λ k.
      let none : length (starts_of (map line_of (lines_from sheet at))) ≡ 0 = ap (λ (ls : List (List ℕ)). length (starts_of (map line_of ls))) (from_beyond sheet at k) in
      absurd (omega (arith, none, as_many (starts_of (sheet_lines sheet)) (starts_of (map line_of (lines_from sheet at))) old dst n F)))
      (le_or at (length sheet))

  module _ {line : Line} {next : ℕ} (R : ReadAt sheet at line next) (room : length (starts_of (sheet_lines sheet)) ≤ length old) where
    split : starts_of (map line_of (lines_from sheet at)) ≡ starts_of (line ∷ []) ++ starts_of (map line_of (lines_from sheet next))
    split = ap starts_of R.gives ∙ starts_split _ _

    own_fits : n + length (starts_of (line ∷ [])) ≤ length dst
    own_fits = filling_room (starts_of (sheet_lines sheet)) old _ dst n F (starts_of (line ∷ [])) (starts_of (map line_of (lines_from sheet next))) split _ refl room

    goes_on : (new : List ℕ) → new ≡ paste dst n (starts_of (line ∷ [])) (length (starts_of (line ∷ [])))
        → Filling (starts_of (sheet_lines sheet)) (starts_of (map line_of (lines_from sheet next))) old new (n + length (starts_of (line ∷ [])))
    goes_on new e =
        filling_goes (starts_of (sheet_lines sheet)) old _ dst n F (starts_of (line ∷ [])) (starts_of (map line_of (lines_from sheet next))) split _ refl new
        (starts_of (line ∷ [])) (take-length (starts_of (line ∷ []))) own_fits e

pub loop-n-init : goal.loop-n-init
loop-n-init c =
    let s = c.args.sheet.now in
    let whole : map line_of (lines_from s 0) ≡ sheet_lines s = ap (map line_of) (from_zero s) in
    record { within = search rules; filling = filling_starts (starts_of (sheet_lines s)) _ (ap starts_of whole); understood = rw whole c.requires.all_understood }

pub skim_line-read-requires-clause-at_in_bounds : goal.skim_line-read-requires-clause-at_in_bounds
skim_line-read-requires-clause-at_in_bounds c =
    line_left c.args.sheet.now c.loop-n.at c.loop-n.invariant.filling (omega (arith, c.requires.count_value))

pub put-n-requires : goal.put-n-requires
put-n-requires c =
    own_fits _ _ c.loop-n.invariant.filling c.skim_line-read.ensures (omega (arith, c.requires.count_value, c.requires.count_in_bounds))

pub loop-n-preserved : goal.loop-n-preserved
loop-n-preserved c =
    let read = c.skim_line-read.ensures in
    let done = c.put-n.ensures in
    record {
      within = read.bound;
      filling = rw done.value (goes_on _ _ c.loop-n.invariant.filling read (omega (arith, c.requires.count_value, c.requires.count_in_bounds)) _ done.starts_after);
      understood = (rw read.gives at c.loop-n.invariant.understood).1;
    }
