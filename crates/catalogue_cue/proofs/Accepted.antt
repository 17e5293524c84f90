-- What is known of an accepted sheet: it is short, its starts have room, the first is 0 and each other lies above the one before (SCOPE 6.9). Assumes nothing.
use mathlib.Core.Path.{◌≡◌, refl, sym, ap, ◌∙◌}
use mathlib.Core.Bool.{Bool, true, false}
use mathlib.Core.List.{List, [], ◌∷◌}
use Prim.Native.Nat.{ℕ, zero, suc, ◌+◌, ◌<◌, ◌≤◌}
use native.Mathlib.Omega.{arith}
use borrow.Author.Tests.{ltb-true, ltb-false, eqb-true}
use lib.Dec.{ltb}
use lib.ListN.{length, get_or}
use Rattle.ground.specs.Cases.{pick}
use Rattle.ground.specs.Refusals.{Said, granted, refused, refused_with}
use Rattle.ground.proofs.Cases.{clash}
use Rattle.catalogue_cue.proofs.Said.{behind_of, cue_said_lem}
use Rattle.catalogue_cue.specs.declared.Line.{Line}
use Rattle.catalogue_cue.specs.declared.Line.TheVariants.{Start, Passed, NotUnderstood}
use Rattle.catalogue_cue.specs.Sheet.{most_sheet, sheet_lines, starts_of, may_follow, cue_said}
use Rattle.catalogue_cue.specs.Scan.{AllUnderstood, judged}

-- each start may follow those before it (SCOPE 6.9); of those before, the last stands first
abbrev Follow : List ℕ → List ℕ → Type 0
Follow before [] = Unit
Follow before (n ∷ starts) = (may_follow before n ≡ true) × Follow (n ∷ before) starts

-- a number that tells lines that are understood from those that are not
understood : Line → ℕ
understood (Start n) = 0
understood Passed = 0
understood NotUnderstood = 1

no : ◌≡◌ {A = ℕ} 0 1 → ⊥
no e = omega arith

-- where the lines are not refused, what stands behind them is said, and each start follows
judged_granted : (number : ℕ) (before : List ℕ) (ls : List Line) (behind : Said) → (judged number before ls behind).is_granted ≡ true
    → (judged number before ls behind ≡ behind) × Follow before (starts_of ls)
unfolding judged starts_of
judged_granted number before [] behind e = (refl, tt)
judged_granted number before (Passed ∷ ls) behind e = judged_granted (suc number) before ls behind e
judged_granted number before (NotUnderstood ∷ ls) behind e = clash e
judged_granted number before (Start n ∷ ls) behind e = by (may_follow before n) refl e (judged_granted (suc number) (n ∷ before) ls behind)
  where
    by : (t : Bool) → may_follow before n ≡ t → (pick t (judged (suc number) (n ∷ before) ls behind) (refused_with 227 (number ∷ []))).is_granted ≡ true
        → ((judged (suc number) (n ∷ before) ls behind).is_granted ≡ true → (judged (suc number) (n ∷ before) ls behind ≡ behind) × Follow (n ∷ before) (starts_of ls))
        → (pick t (judged (suc number) (n ∷ before) ls behind) (refused_with 227 (number ∷ [])) ≡ behind) × ((may_follow before n ≡ true) × Follow (n ∷ before) (starts_of ls))
    by true m g k = ((k g).0, (m, (k g).1))
    by false m g k = clash g

-- and its lines are understood
judged_understood : (number : ℕ) (before : List ℕ) (ls : List Line) (behind : Said) → (judged number before ls behind).is_granted ≡ true → AllUnderstood ls
unfolding judged understood
judged_understood number before [] behind e = tt
judged_understood number before (Passed ∷ ls) behind e = ((λ q. no (λ i. understood (q i))), judged_understood (suc number) before ls behind e)
judged_understood number before (NotUnderstood ∷ ls) behind e = clash e
judged_understood number before (Start n ∷ ls) behind e = ((λ q. no (λ i. understood (q i))), by (may_follow before n) e (judged_understood (suc number) (n ∷ before) ls behind))
  where
    by : (t : Bool) → (pick t (judged (suc number) (n ∷ before) ls behind) (refused_with 227 (number ∷ []))).is_granted ≡ true
        → ((judged (suc number) (n ∷ before) ls behind).is_granted ≡ true → AllUnderstood ls) → AllUnderstood ls
    by true g k = k g
    by false g k = clash g

-- the first is 0, and each other lies above the one before
pub record Rises (starts : List ℕ) : Type 0 where
  pub begins : get_or starts 0 0 ≡ 0
  pub above : (i : ℕ) → i + 1 < length starts → get_or starts i 0 < get_or starts (i + 1) 0

above_by : (last : ℕ) (before starts : List ℕ) → Follow (last ∷ before) starts → (i : ℕ) → i + 1 < length (last ∷ starts) → get_or (last ∷ starts) i 0 < get_or (last ∷ starts) (i + 1) 0
above_by last before [] f i h = absurd (omega arith)
above_by last before (n ∷ starts) f zero h = ltb-true last n f.0
above_by last before (n ∷ starts) f (suc i) h =
    let e : suc i + 1 ≡ suc (i + 1) = omega arith in
    rw e (above_by n (last ∷ before) starts f.1 i (omega arith))

rising : (starts : List ℕ) → Follow [] starts → Rises starts
rising [] f = record { begins = refl; above = λ i h. absurd (omega arith) }
rising (n ∷ starts) f = record { begins = eqb-true n 0 f.0; above = above_by n [] starts f.1 }

pub record Accepted (sheet : List ℕ) (room : ℕ) : Type 0 where
  pub short : length sheet ≤ most_sheet
  pub fits : length (starts_of (sheet_lines sheet)) ≤ room
  pub said : cue_said sheet room ≡ granted (length (starts_of (sheet_lines sheet)) ∷ [])
  pub rises : Rises (starts_of (sheet_lines sheet))
  pub understood : AllUnderstood (sheet_lines sheet)

pub accepted : (sheet : List ℕ) (room : ℕ) → (cue_said sheet room).is_granted ≡ true → Accepted sheet room
accepted sheet room e = by (ltb most_sheet (length sheet)) refl (sym (ap (λ (s : Said). s.is_granted) (cue_said_lem sheet room)) ∙ e)
  where
    starts : List ℕ
    starts = starts_of (sheet_lines sheet)

    behind : Said
    behind = behind_of sheet room

    last : (t : Bool) → ltb room (length starts) ≡ t → (pick t (refused 228) (granted (length starts ∷ []))).is_granted ≡ true → (length starts ≤ room) × (pick t (refused 228) (granted (length starts ∷ [])) ≡ granted (length starts ∷ []))
    last true m g = clash g
    last false m g = (ltb-false _ _ m, refl)

    by : (t : Bool) → ltb most_sheet (length sheet) ≡ t → (pick t (refused 225) (judged 1 [] (sheet_lines sheet) behind)).is_granted ≡ true → Accepted sheet room
    by true m g = clash g
    by false m g =
        let j = judged_granted 1 [] (sheet_lines sheet) behind g in
        let k = last (ltb room (length starts)) refl (sym (ap (λ (s : Said). s.is_granted) j.0) ∙ g) in
        record { short = ltb-false _ _ m; fits = k.0; said = cue_said_lem sheet room ∙ rw m (j.0 ∙ k.1); rises = rising starts j.1; understood = judged_understood 1 [] (sheet_lines sheet) behind g }
