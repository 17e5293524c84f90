-- `catalogue_cue::skim_line`: behind the spaces, a start or a line that is passed over.
use mathlib.Core.Path.{◌≡◌, refl, sym, ◌∙◌}
use mathlib.Core.Bool.{Bool, true}
use mathlib.Core.List.{List, map}
use Prim.Native.Nat.{ℕ, ◌+◌, ◌≤◌}
use native.Mathlib.Omega.{arith}
use lib.ListN.{length}
use Rattle.catalogue_cue.specs.Sheet.{line_of}
use Rattle.catalogue_cue.specs.Scan.{is_lf, is_no_space, ahead_end, StartLine, lines_from, looks_start, AllUnderstood}
use Rattle.catalogue_cue.proofs.Reading.{start_read}
use Rattle.catalogue_cue.proofs.Skimming.{skim_start, skim_passed}
use Rattle.catalogue_cue.proofs.skim_line.Goals as goal

-- a line that looks like a start
started : (sheet : List ℕ) (at : ℕ) {from : ℕ} {looks : Bool} → at ≤ length sheet → (from ≡ ahead_end is_no_space sheet at) × (from ≤ length sheet)
    → AllUnderstood (map line_of (lines_from sheet at)) → looks ≡ looks_start sheet from → looks ≡ true
    → (n : ℕ) → n ≡ ahead_end is_lf sheet (from + 17) → StartLine sheet from (n + 1)
started sheet at {from} h f u l t = skim_start sheet at from h f.0 f.1 u (sym l ∙ t)

pub slice_bounds-start_of-end : goal.slice_bounds-start_of-end
slice_bounds-start_of-end c =
    let r = c.requires in
    let start = started c.args.sheet.now c.args.at r.at_in_bounds c.first_from-from.ensures r.all_understood c.looks_start.ensures c.if-looks_start.true _ refl in
    omega (arith, start.fits)

pub start_of-requires : goal.start_of-requires
start_of-requires c =
    let r = c.requires in
    (started c.args.sheet.now c.args.at r.at_in_bounds c.first_from-from.ensures r.all_understood c.looks_start.ensures c.if-looks_start.true _ refl).form

pub returns-then-looks_start : goal.returns-then-looks_start
returns-then-looks_start c =
    let sheet = c.args.sheet.now in
    let at = c.args.at in
    let r = c.requires in
    let from = c.first_from-from.ensures in
    let start = started sheet at r.at_in_bounds from r.all_understood c.looks_start.ensures c.if-looks_start.true c.first_from-lf.result c.first_from-lf.ensures.0 in
    start_read sheet at c.first_from-from.result r.at_in_bounds from.0 from.1 _ (c.first_from-lf.result + 1) start c.start_of.ensures

pub returns : goal.returns
returns c =
    skim_passed c.args.sheet.now c.args.at c.first_from-from.result c.requires.at_in_bounds c.first_from-from.ensures.0 c.first_from-from.ensures.1 c.requires.all_understood (sym c.looks_start.ensures ∙ c.if-looks_start.false) c.lf_from-lf.result c.lf_from-lf.ensures.0
