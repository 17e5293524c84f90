-- What reading a sheet says fits a word: there are no more lines than octets, and one more; and no more starts than lines. Assumes nothing.
use mathlib.Core.Path.{◌≡◌, refl, sym, ap, subst}
use mathlib.Core.Bool.{Bool, true, false, ◌&&◌}
use mathlib.Core.List.{List, [], ◌∷◌, map}
use Prim.Native.Nat.{ℕ, zero, suc, ◌+◌, ◌≤◌, zero-le}
use native.Mathlib.Omega.{arith}
use borrow.Author.Tests.{ltb-false}
use lib.Dec.{eqb, ltb}
use lib.ListN.{length, get_or}
use Rattle.ground.specs.Cases.{pick}
use Rattle.ground.specs.Refusals.{Said, refused}
use Rattle.catalogue_cue.proofs.Said.{behind_of, cue_said_lem}
use Rattle.catalogue_cue.specs.declared.Line.{Line}
use Rattle.catalogue_cue.specs.declared.Line.TheVariants.{Start, Passed, NotUnderstood}
use Rattle.catalogue_cue.specs.Scan.{judged}
use Rattle.catalogue_cue.specs.Sheet.{most_sheet, lf, cr, onto, lines, line_of, sheet_lines, starts_of, may_follow, cue_said}

few_onto : (x : ℕ) (ls : List (List ℕ)) → length (onto x ls) ≤ length ls + 1
few_onto x [] = omega arith
few_onto x (l ∷ ls) = omega arith

few_lines : (s : List ℕ) → length (lines s) ≤ length s + 1
unfolding lines
few_lines [] = omega arith
few_lines (x ∷ s) = by (eqb x lf) (eqb x cr && eqb (get_or s 0 0) lf) (few_lines s)
  where
    by : (a b : Bool) → length (lines s) ≤ length s + 1 → length (pick a ([] ∷ lines s) (pick b (lines s) (onto x (lines s)))) ≤ suc (length s) + 1
    by true b h = omega arith
    by false true h = omega arith
    by false false h = omega (arith, few_onto x (lines s))

few_starts : (ls : List Line) → length (starts_of ls) ≤ length ls
unfolding starts_of
few_starts [] = zero-le
few_starts (Start n ∷ ls) = omega (arith, few_starts ls)
few_starts (Passed ∷ ls) = omega (arith, few_starts ls)
few_starts (NotUnderstood ∷ ls) = omega (arith, few_starts ls)

as_many : (ls : List (List ℕ)) → length (map line_of ls) ≡ length ls
as_many [] = refl
as_many (l ∷ ls) = ap suc (as_many ls)

-- every value is at most b
abbrev UpTo : ℕ → Said → Type 0
UpTo b said = (i : ℕ) → get_or said.values i 0 ≤ b

one_up_to : (b v : ℕ) → v ≤ b → (i : ℕ) → get_or (v ∷ []) i 0 ≤ b
one_up_to b v h zero = h
one_up_to b v h (suc i) = zero-le

up_to_by : (t : Bool) (b : ℕ) (said other : Said) → UpTo b said → UpTo b other → UpTo b (pick t said other)
up_to_by true b said other h k = h
up_to_by false b said other h k = k

judged_up_to : (b number : ℕ) (before : List ℕ) (ls : List Line) (behind : Said) → number + length ls ≤ b + 1 → UpTo b behind → UpTo b (judged number before ls behind)
unfolding judged
judged_up_to b number before [] behind h k = k
judged_up_to b number before (Passed ∷ ls) behind h k = judged_up_to b (suc number) before ls behind (omega arith) k
judged_up_to b number before (NotUnderstood ∷ ls) behind h k = one_up_to b number (omega arith)
judged_up_to b number before (Start n ∷ ls) behind h k =
    up_to_by (may_follow before n) b _ _ (judged_up_to b (suc number) (n ∷ before) ls behind (omega arith) k) (one_up_to b number (omega arith))

pub cue_small : (sheet : List ℕ) (room : ℕ) → UpTo (most_sheet + 1) (cue_said sheet room)
cue_small sheet room = subst (λ (said : Said). UpTo (most_sheet + 1) said) (sym (cue_said_lem sheet room)) (by (ltb most_sheet (length sheet)) refl)
  where
    few : length sheet ≤ most_sheet → length (sheet_lines sheet) ≤ most_sheet + 1
    few h = omega (arith, as_many (lines sheet), few_lines sheet)

    behind : Said
    behind = behind_of sheet room

    by : (t : Bool) → ltb most_sheet (length sheet) ≡ t → UpTo (most_sheet + 1) (pick t (refused 225) (judged 1 [] (sheet_lines sheet) behind))
    by true e = λ i. zero-le
    by false e =
        let h : length (sheet_lines sheet) ≤ most_sheet + 1 = few (ltb-false _ _ e) in
        judged_up_to (most_sheet + 1) 1 [] (sheet_lines sheet) behind (omega arith)
        (up_to_by (ltb room (length (starts_of (sheet_lines sheet)))) (most_sheet + 1) (refused 228) _ (λ i. zero-le) (one_up_to _ _ (omega (arith, few_starts (sheet_lines sheet)))))
