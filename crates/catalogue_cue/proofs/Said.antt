-- What is said of a sheet, by its length, its lines and the room, in this order (SCOPE 6.10); and its rows stand in the order of the table. Assumes nothing.
use mathlib.Core.Path.{◌≡◌, refl}
use mathlib.Core.Bool.{Bool, true, false}
use mathlib.Core.List.{List, [], ◌∷◌}
use mathlib.Core.Logic.{◌⊎◌, inl, inr, ⊎_elim}
use Prim.Native.Nat.{ℕ, suc}
use lib.Dec.{ltb}
use lib.ListN.{length}
use Rattle.ground.specs.Cases.{pick}
use Rattle.ground.specs.Refusals.{Said, granted, refused, row_with, said_through, table, in_order}
use Rattle.catalogue_cue.specs.declared.Line.{Line}
use Rattle.catalogue_cue.specs.declared.Line.TheVariants.{Start, Passed, NotUnderstood}
use Rattle.catalogue_cue.specs.Sheet.{most_sheet, sheet_lines, starts_of, may_follow, line_row, cue_rows, cue_said}
use Rattle.catalogue_cue.specs.Scan.{judged}

line_said : (number : ℕ) (before : List ℕ) (ls : List Line) (behind : Said) → said_through (line_row number before ls ∷ []) behind ≡ judged number before ls behind
unfolding line_row judged
line_said number before [] behind = refl
line_said number before (Passed ∷ ls) behind = line_said (suc number) before ls behind
line_said number before (NotUnderstood ∷ ls) behind = refl
line_said number before (Start n ∷ ls) behind = by (may_follow before n) (line_said (suc number) (n ∷ before) ls behind)
  where
    by : (t : Bool) → said_through (line_row (suc number) (n ∷ before) ls ∷ []) behind ≡ judged (suc number) (n ∷ before) ls behind
        → said_through (pick t (line_row (suc number) (n ∷ before) ls) (row_with 227 (number ∷ []) true) ∷ []) behind
        ≡ pick t (judged (suc number) (n ∷ before) ls behind) (said_through (row_with 227 (number ∷ []) true ∷ []) behind)
    by true ih = ih
    by false ih = refl

-- what stands behind the lines: the room, and the number of starts
abbrev pub behind_of : List ℕ → ℕ → Said
behind_of sheet room = pick (ltb room (length (starts_of (sheet_lines sheet)))) (refused 228) (granted (length (starts_of (sheet_lines sheet)) ∷ []))

pub cue_said_lem : (sheet : List ℕ) (room : ℕ) → cue_said sheet room ≡ pick (ltb most_sheet (length sheet)) (refused 225) (judged 1 [] (sheet_lines sheet) (behind_of sheet room))
unfolding cue_said
cue_said_lem sheet room = λ i. pick (ltb most_sheet (length sheet)) (refused 225) (line_said 1 [] (sheet_lines sheet) (behind_of sheet room) i)

-- the row of the lines is 226 or 227
line_number : (number : ℕ) (before : List ℕ) (ls : List Line) → ((line_row number before ls).number ≡ 226) ⊎ ((line_row number before ls).number ≡ 227)
unfolding line_row
line_number number before [] = inl refl
line_number number before (Passed ∷ ls) = line_number (suc number) before ls
line_number number before (NotUnderstood ∷ ls) = inl refl
line_number number before (Start n ∷ ls) = by (may_follow before n) (line_number (suc number) (n ∷ before) ls)
  where
    by : (t : Bool) → ((line_row (suc number) (n ∷ before) ls).number ≡ 226) ⊎ ((line_row (suc number) (n ∷ before) ls).number ≡ 227)
        → ((pick t (line_row (suc number) (n ∷ before) ls) (row_with 227 (number ∷ []) true)).number ≡ 226)
        ⊎ ((pick t (line_row (suc number) (n ∷ before) ls) (row_with 227 (number ∷ []) true)).number ≡ 227)
    by true ih = ih
    by false ih = inr refl

-- the rows stand in the order of the table
pub cue_order : (sheet : List ℕ) (room : ℕ) → in_order table (cue_rows sheet room) ≡ true
cue_order sheet room = ⊎_elim (λ e. rw e refl) (λ e. rw e refl) (line_number 1 [] (sheet_lines sheet))
