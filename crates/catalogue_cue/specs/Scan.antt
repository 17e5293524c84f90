-- What the small functions find that go along a sheet (SCOPE 6). Laws in `proofs/` say how this is tied to the lines of the sheet.
-- Assumes nothing.
use Rattle.std.specs.Prelude.{◌≡◌, Bool, true, false, not, ◌&&◌, List, [], ◌∷◌, map, ◌⊎◌, ℕ, zero, suc, ◌+◌, ◌-◌, ◌<◌, ◌≤◌, eqb, leb, length, get_or, drop, Result, Ok, Err}
use Rattle.ground.specs.Cases.{pick}
use Rattle.ground.specs.Lists.{part}
use Rattle.ground.specs.Refusals.{Said, refused_with}
use Rattle.catalogue_cue.specs.declared.Line.{Line}
use Rattle.catalogue_cue.specs.declared.Line.TheVariants.{Start, Passed, NotUnderstood}
use Rattle.ground.specs.declared.Reason.{Reason}
use Rattle.ground.specs.declared.Reason.TheVariants.{BadLine, NotRising}
use Rattle.catalogue_cue.specs.declared.Starts.{Starts}
use Rattle.catalogue_cue.specs.Sheet.{lf, cr, space, lines, is_start, line_of, may_follow}

-- how many octets stand before the first one that passes the test
unfoldable pub ahead : (ℕ → Bool) → List ℕ → ℕ
ahead test [] = zero
ahead test (x ∷ s) = pick (test x) zero (suc (ahead test s))

-- a test for the octet x (true), or for any other octet (false)
abbrev pub is_it : ℕ → Bool → ℕ → Bool
is_it x true y = eqb y x
is_it x false y = not (eqb y x)

abbrev pub is_lf : ℕ → Bool
is_lf = is_it lf true

abbrev pub is_no_space : ℕ → Bool
is_no_space = is_it space false

-- the place in the whole sheet of that first octet, where the search starts at the place `at`
abbrev pub ahead_end : (ℕ → Bool) → List ℕ → ℕ → ℕ
ahead_end test s at = at + ahead test (drop at s)

-- a search went on from one place to another, and met no octet that passes the test
pub record Passes (test : ℕ → Bool) (s : List ℕ) (at to : ℕ) : Type 0 where
  pub low : at ≤ to
  pub high : to ≤ length s
  pub same : ahead_end test s to ≡ ahead_end test s at

-- the lines from a place on; behind the end of the text there are none
unfoldable pub lines_from : List ℕ → ℕ → List (List ℕ)
lines_from sheet at = pick (leb at (length sheet)) (lines (drop at sheet)) []

-- The line that starts at the place `at` has its octets up to the place `end`. There the text ends, or an LF or a CR LF stands. The line behind it starts at
-- `next`.
pub record CutAt (sheet : List ℕ) (at end next : ℕ) : Type 0 where
  pub low : at ≤ end
  pub high : end ≤ length sheet
  pub onward : at < next
  pub bound : next ≤ length sheet + 1
  pub stop : end < length sheet → (get_or sheet end 0 ≡ lf) ⊎ ((get_or sheet end 0 ≡ cr) × (get_or sheet (end + 1) 0 ≡ lf))
  pub cut : lines_from sheet at ≡ part sheet at end ∷ lines_from sheet next

-- the line that starts at a place is `INDEX 01 mm:ss:ff` and nothing else (SCOPE 6.5), and the line behind it starts at `next`; or it is no such line
pub record StartLine (sheet : List ℕ) (at next : ℕ) : Type 0 where
  pub fits : at + 17 ≤ length sheet
  pub form : is_start (part sheet at (at + 17)) ≡ true
  pub cut : CutAt sheet at (at + 17) next

abbrev pub NoStartLine : List ℕ → ℕ → Type 0
NoStartLine sheet at = (end next : ℕ) → CutAt sheet at end next → is_start (part sheet at end) ≡ false

-- what the line gives that starts at a place, and where the line behind it starts
pub record ReadAt (sheet : List ℕ) (at : ℕ) (line : Line) (next : ℕ) : Type 0 where
  pub onward : at < next
  pub bound : next ≤ length sheet + 1
  pub gives : map line_of (lines_from sheet at) ≡ line ∷ map line_of (lines_from sheet next)

-- Every line is understood. Of such a line three octets tell whether it is a start, where 17 octets are left.
abbrev pub AllUnderstood : List Line → Type 0
AllUnderstood [] = Unit
AllUnderstood (line ∷ more) = (line ≡ NotUnderstood → ⊥) × AllUnderstood more

unfoldable pub looks_start : List ℕ → ℕ → Bool
looks_start sheet at =
    leb 17 (length sheet - at) && eqb (get_or sheet at 0) 0x49 && eqb (get_or sheet (at + 6) 0) 0x30 && eqb (get_or sheet (at + 7) 0) 0x31

-- a start may follow `count` others, of which the last is `last` (SCOPE 6.9)
abbrev pub rises : ℕ → ℕ → ℕ → Bool
rises zero last start = may_follow [] start
rises (suc n) last start = may_follow (last ∷ []) start

-- the starts so far with those of one line more; or why that line is refused: it is not understood, or its start may not follow
abbrev pub weighed_of : Line → Starts → Result Starts Reason
weighed_of Passed starts = Ok starts
weighed_of NotUnderstood starts = Err BadLine
weighed_of (Start n) starts = pick (rises starts.count starts.last n) (Ok (record { count = starts.count + 1; last = n })) (Err NotRising)

-- the same as the row of the lines in `Sheet`, line by line; where no line is at fault, it is what stands behind that row
unfoldable pub judged : ℕ → List ℕ → List Line → Said → Said
judged number before [] behind = behind
judged number before (Passed ∷ more) behind = judged (suc number) before more behind
judged number before (NotUnderstood ∷ more) behind = refused_with 226 (number ∷ [])
judged number before (Start n ∷ more) behind =
    pick (may_follow before n) (judged (suc number) (n ∷ before) more behind) (refused_with 227 (number ∷ []))
