-- `catalogue_cue::is_other_index`: the tests of the definition, in its order.
use mathlib.Core.Path.{◌≡◌, sym, ap, ◌∙◌}
use mathlib.Core.Bool.{Bool, not, ◌&&◌}
use mathlib.Core.List.{List}
use Prim.Native.Nat.{ℕ}
use lib.Dec.{eqb}
use Rattle.catalogue_cue.specs.Sheet.{octets, begins, digits_at, number_at, is_other_index}
use Rattle.catalogue_cue.proofs.Form.{short_index}
use Rattle.catalogue_cue.proofs.is_other_index.Goals as goal

pub returns-then-line-lt8 : goal.returns-then-line-lt8
returns-then-line-lt8 c =
    sym (short_index _ c.if-line-lt8.true)

-- both tests, as the code asks them
asked : (line : List ℕ) {index digits : Bool} → index ≡ begins (octets "INDEX ") line → digits ≡ digits_at line 6
    → (index && digits) ≡ (begins (octets "INDEX ") line && digits_at line 6)
asked line b d = λ i. b i && d i

pub returns-then-not-index-digits : goal.returns-then-not-index-digits
unfolding is_other_index
returns-then-not-index-digits c =
    let line = c.args.line.now in
    let wrong = sym (asked line c.begins_with-index.ensures c.digits_at-digits.ensures) ∙ c.if-not-index-digits.true in
    sym (ap (λ (t : Bool). t && not (eqb (number_at line 6) 1)) wrong)

pub returns : goal.returns
unfolding is_other_index
returns c =
    let right = sym (asked c.args.line.now c.begins_with-index.ensures c.digits_at-digits.ensures) ∙ c.if-not-index-digits.false in
    sym (λ i. right i && not (eqb (sym c.number_at-number.ensures.0 i) 1))
