-- The survey's loop: what the lines that are left say behind the starts so far is what the whole sheet says. Assumes nothing.
use mathlib.Core.Path.{◌≡◌, refl, sym, ap, ◌∙◌}
use mathlib.Core.Bool.{Bool, true, false}
use mathlib.Core.List.{List, [], ◌∷◌, map}
use Prim.Native.Nat.{ℕ, suc, ◌+◌, ◌<◌, ◌≤◌}
use native.Mathlib.Nat.{zero-add, add-zero}
use native.Mathlib.Numerals.{add-one}
use native.Mathlib.Omega.{arith}
use lib.ListN.{length, get_or}
use Rattle.ground.specs.Cases.{pick}
use Rattle.ground.specs.Refusals.{Said, number_of, refused_with}
use Rattle.catalogue_cue.specs.declared.Line.{Line}
use Rattle.catalogue_cue.specs.declared.Line.TheVariants.{Start, Passed, NotUnderstood}
use Rattle.std.specs.Prelude.{Result, Ok, Err}
use Rattle.ground.specs.declared.Reason.{Reason}
use Rattle.ground.specs.declared.Reason.TheVariants.{NotRising}
use Rattle.catalogue_cue.specs.declared.Starts.{Starts}
use Rattle.catalogue_cue.specs.Sheet.{line_of, sheet_lines, starts_of, may_follow}
use Rattle.catalogue_cue.specs.Scan.{lines_from, ReadAt, rises, weighed_of, judged}
use Rattle.catalogue_cue.proofs.Lines.{from_zero, from_beyond}

-- behind the starts before, as the code knows them: how many, and the last
rises_is : (before : List ℕ) (count last start : ℕ) → length before ≡ count → get_or before 0 0 ≡ last → rises count last start ≡ may_follow before start
rises_is before count last start m l = rw (sym m, sym l) (by before)
  where
    by : (b : List ℕ) → rises (length b) (get_or b 0 0) start ≡ may_follow b start
    by [] = refl
    by (x ∷ b) = refl

-- of two answers, an `Ok` is no `Err`; and what each holds
apart : {s : Starts} {r : Reason} → ◌≡◌ {A = Result Starts Reason} (Ok s) (Err r) → ⊥
apart e = let z : ◌≡◌ {A = ℕ} 0 1 = ap kind e in absurd (omega arith)
  where
    kind : Result Starts Reason → ℕ
    kind (Ok s) = 0
    kind (Err r) = 1

told : {r q : Reason} → ◌≡◌ {A = Result Starts Reason} (Err r) (Err q) → number_of r ≡ number_of q
told {r} {q} e = ap number e
  where
    number : Result Starts Reason → ℕ
    number (Ok s) = 0
    number (Err r) = number_of r

kept : {s q : Starts} → ◌≡◌ {A = Result Starts Reason} (Ok s) (Ok q) → s ≡ q
kept {s} {q} e = ap starts e
  where
    starts : Result Starts Reason → Starts
    starts (Ok s) = s
    starts (Err r) = q

pub record Judging (sheet : List ℕ) (behind : Said) (at number count last : ℕ) : Type 0 where
  pub before : List ℕ
  pub many : length before ≡ count
  pub latest : get_or before 0 0 ≡ last
  pub left : judged number before (map line_of (lines_from sheet at)) behind ≡ judged 1 [] (sheet_lines sheet) behind
  pub total : count + length (starts_of (map line_of (lines_from sheet at))) ≡ length (starts_of (sheet_lines sheet))

pub judging_starts : (sheet : List ℕ) (behind : Said) → Judging sheet behind 0 1 0 0
judging_starts sheet behind =
    record {
      before = [];
      many = refl;
      latest = refl;
      left = ap (λ (ls : List (List ℕ)). judged 1 [] (map line_of ls) behind) (from_zero sheet);
      total = zero-add _ ∙ ap (λ (ls : List (List ℕ)). length (starts_of (map line_of ls))) (from_zero sheet);
    }

module _ {sheet : List ℕ} {behind : Said} {at number count last : ℕ} (J : Judging sheet behind at number count last) where
  -- behind the last line
  module _ (h : length sheet < at) where
    pub judging_ends : judged 1 [] (sheet_lines sheet) behind ≡ behind
    unfolding judged
    judging_ends = sym J.left ∙ ap (λ (ls : List (List ℕ)). judged number J.before (map line_of ls) behind) (from_beyond sheet at h)

    pub all_counted : count ≡ length (starts_of (sheet_lines sheet))
    unfolding starts_of
    all_counted = sym (add-zero count) ∙ sym (ap (λ (ls : List (List ℕ)). count + length (starts_of (map line_of ls))) (from_beyond sheet at h)) ∙ J.total

  -- one line
  module _ {line : Line} {next : ℕ} (R : ReadAt sheet at line next) where
    rest : List Line
    rest = map line_of (lines_from sheet next)

    split : map line_of (lines_from sheet at) ≡ line ∷ rest
    unfolding rest
    split = R.gives

    judged_here : judged number J.before (line ∷ rest) behind ≡ judged 1 [] (sheet_lines sheet) behind
    judged_here = sym (ap (λ (ls : List Line). judged number J.before ls behind) split) ∙ J.left

    counted_here : count + length (starts_of (line ∷ rest)) ≡ length (starts_of (sheet_lines sheet))
    counted_here = sym (ap (λ (ls : List Line). count + length (starts_of ls)) split) ∙ J.total

    -- what is said of this line
    abbrev said : ℕ → Said
    said n = refused_with n (number ∷ [])

    abbrev so_far : Starts
    so_far = record { count = count; last = last }

    -- a line that is refused: that is what is said of the sheet
    pub refuses : (r : Reason) → Err r ≡ weighed_of line so_far → said (number_of r) ≡ judged 1 [] (sheet_lines sheet) behind
    unfolding judged
    refuses r e = of_line line e judged_here
      where
        of_line : (ln : Line) → Err r ≡ weighed_of ln so_far → judged number J.before (ln ∷ rest) behind ≡ judged 1 [] (sheet_lines sheet) behind
            → said (number_of r) ≡ judged 1 [] (sheet_lines sheet) behind
        of_line Passed e j = absurd (apart (sym e))
        of_line NotUnderstood e j = ap said (told e) ∙ j
        of_line (Start n) e j = by (rises count last n) (rises_is J.before count last n J.many J.latest) e
          where
            by : (t : Bool) → t ≡ may_follow J.before n → ◌≡◌ {A = Result Starts Reason} (Err r) (pick t (Ok (record { count = count + 1; last = n })) (Err NotRising))
                → said (number_of r) ≡ judged 1 [] (sheet_lines sheet) behind
            by true m e = absurd (apart (sym e))
            by false m e = ap said (told e) ∙ rw (sym m) at j

    -- one that is not: with it the lines behind it say the whole
    pub goes_on : (s : Starts) → Ok s ≡ weighed_of line so_far → Judging sheet behind next (number + 1) s.count s.last
    unfolding judged starts_of rest
    goes_on s e = of_line line e judged_here counted_here
      where
        of_line : (ln : Line) → Ok s ≡ weighed_of ln so_far → judged number J.before (ln ∷ rest) behind ≡ judged 1 [] (sheet_lines sheet) behind
            → count + length (starts_of (ln ∷ rest)) ≡ length (starts_of (sheet_lines sheet)) → Judging sheet behind next (number + 1) s.count s.last
        of_line Passed e j t =
            let q = kept e in
            record { before = J.before; many = J.many ∙ sym (ap (λ (x : Starts). x.count) q); latest = J.latest ∙ sym (ap (λ (x : Starts). x.last) q); left = rw add-one j; total = ap (λ (x : Starts). x.count + length (starts_of rest)) q ∙ t }
        of_line NotUnderstood e j t = absurd (apart e)
        of_line (Start n) e j t = by (rises count last n) (rises_is J.before count last n J.many J.latest) e
          where
            by : (u : Bool) → u ≡ may_follow J.before n → ◌≡◌ {A = Result Starts Reason} (Ok s) (pick u (Ok (record { count = count + 1; last = n })) (Err NotRising))
                → Judging sheet behind next (number + 1) s.count s.last
            by true m e =
                let q = kept e in
                record {
                  before = n ∷ J.before;
                  many = rw add-one (ap suc J.many) ∙ sym (ap (λ (x : Starts). x.count) q);
                  latest = sym (ap (λ (x : Starts). x.last) q);
                  left = rw add-one (rw (sym m) at j);
                  total = omega (arith, t, ap (λ (x : Starts). x.count) q);
                }
            by false m e = absurd (apart e)

    pub counts : (s : Starts) → Ok s ≡ weighed_of line so_far → s.count ≤ count + 1
    counts s e = of_line line e
      where
        of_line : (ln : Line) → Ok s ≡ weighed_of ln so_far → s.count ≤ count + 1
        of_line Passed e = omega (arith, ap (λ (x : Starts). x.count) (kept e))
        of_line NotUnderstood e = absurd (apart e)
        of_line (Start n) e = by (rises count last n) e
          where
            by : (u : Bool) → ◌≡◌ {A = Result Starts Reason} (Ok s) (pick u (Ok (record { count = count + 1; last = n })) (Err NotRising)) → s.count ≤ count + 1
            by true e = omega (arith, ap (λ (x : Starts). x.count) (kept e))
            by false e = absurd (apart e)
