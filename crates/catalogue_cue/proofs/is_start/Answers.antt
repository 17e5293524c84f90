-- `catalogue_cue::is_start`: the tests of the definition.
use borrow.Author.Tests.{ne_eqb, eq-eqb}
use mathlib.Core.Path.{◌≡◌, sym, ◌∙◌}
use mathlib.Core.Bool.{Bool, ◌&&◌}
use mathlib.Core.List.{List}
use Prim.Native.Nat.{ℕ}
use lib.Dec.{leb}
use Rattle.catalogue_cue.specs.Sheet.{digits_at, colon_at, is_start}
use Rattle.catalogue_cue.proofs.Form.{time_form, start_by}
use Rattle.catalogue_cue.proofs.is_start.Goals as goal

pub returns-then-line-ne-START_OCTETS : goal.returns-then-line-ne-START_OCTETS
unfolding is_start
returns-then-line-ne-START_OCTETS c =
    rw (ne_eqb _ _ c.if-line-ne-START_OCTETS.true)

pub returns-then-not-is_index_01 : goal.returns-then-not-is_index_01
unfolding is_start
returns-then-not-is_index_01 c =
    rw (eq-eqb _ _ c.if-line-ne-START_OCTETS.false, sym c.is_index_01.ensures ∙ c.if-not-is_index_01.true)

-- the five tests, as the code asks them
asked : (line : List ℕ) {mm ss ff : Bool} → mm ≡ digits_at line 9 → ss ≡ digits_at line 12 → ff ≡ digits_at line 15
    → (mm && colon_at line 11 && ss && colon_at line 14 && ff) ≡ time_form line
asked line m s f = λ i. m i && colon_at line 11 && s i && colon_at line 14 && f i

pub returns-then-not-mm-line : goal.returns-then-not-mm-line
returns-then-not-mm-line c =
    let line = c.args.line.now in
    let wrong = sym (asked line c.digits_at-mm.ensures c.digits_at-ss.ensures c.digits_at-ff.ensures) ∙ c.if-not-mm-line.true in
    sym (start_by line c.if-line-ne-START_OCTETS.false (sym c.is_index_01.ensures ∙ c.if-not-is_index_01.false) ∙ rw wrong)

pub returns : goal.returns
returns c =
    let line = c.args.line.now in
    let right = sym (asked line c.digits_at-mm.ensures c.digits_at-ss.ensures c.digits_at-ff.ensures) ∙ c.if-not-mm-line.false in
    sym
    (start_by line c.if-line-ne-START_OCTETS.false (sym c.is_index_01.ensures ∙ c.if-not-is_index_01.false)
    ∙ (λ i. right i && leb (sym c.number_at-seconds.ensures.0 i) 59 && leb (sym c.number_at-frames.ensures.0 i) 74))
