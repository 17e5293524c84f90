-- `catalogue_cue::put`: a line has one start or none.
use mathlib.Core.Path.{◌≡◌, ap, ◌∙◌}
use mathlib.Core.List.{List, [], ◌∷◌, append_assoc}
use Prim.Native.Nat.{ℕ, ◌+◌, ◌<◌, ◌≤◌}
use native.Mathlib.Omega.{arith}
use native.Mathlib.Numerals.{add-one}
use lib.ListN.{length, set}
use lib.Seq.{paste, paste-zero, set_split}
use Rattle.catalogue_cue.specs.declared.Line.{Line}
use Rattle.catalogue_cue.specs.declared.Line.TheVariants.{Start}
use Rattle.catalogue_cue.specs.Sheet.{starts_of}
-- one word over a place
use Rattle.catalogue_cue.proofs.put.Goals as goal

one_word : (d : List ℕ) (n x : ℕ) → n < length d → set d n x ≡ paste d n (x ∷ []) 1
one_word d n x h = set_split d n x h ∙ rw (add-one, append_assoc)

room : {line : Line} {n start most : ℕ} → n + length (starts_of (line ∷ [])) ≤ most → line ≡ Start start → n < most
unfolding starts_of
room h is = omega (arith, h, ap (λ (l : Line). length (starts_of (l ∷ []))) is)

pub bounds-starts-n : goal.bounds-starts-n
bounds-starts-n c =
    room c.requires c.in-Start.is

pub returns-in-Start-clause-value : goal.returns-in-Start-clause-value
unfolding starts_of
returns-in-Start-clause-value c =
    rw c.in-Start.is (omega arith)

pub returns-in-Start-clause-starts_after : goal.returns-in-Start-clause-starts_after
unfolding starts_of
returns-in-Start-clause-starts_after c =
    rw c.in-Start.is (one_word c.args.starts.now c.args.n _ (room c.requires c.in-Start.is))

pub returns-in-Passed-clause-value : goal.returns-in-Passed-clause-value
unfolding starts_of
returns-in-Passed-clause-value c =
    rw c.in-Passed.is (omega arith)

pub returns-in-Passed-clause-starts_after : goal.returns-in-Passed-clause-starts_after
unfolding starts_of
returns-in-Passed-clause-starts_after c =
    rw c.in-Passed.is (paste-zero c.args.starts.now c.args.n [])

pub returns-in-NotUnderstood-clause-value : goal.returns-in-NotUnderstood-clause-value
unfolding starts_of
returns-in-NotUnderstood-clause-value c =
    rw c.in-NotUnderstood.is (omega arith)

pub returns-in-NotUnderstood-clause-starts_after : goal.returns-in-NotUnderstood-clause-starts_after
unfolding starts_of
returns-in-NotUnderstood-clause-starts_after c =
    rw c.in-NotUnderstood.is (paste-zero c.args.starts.now c.args.n [])
