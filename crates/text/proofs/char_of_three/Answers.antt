-- `text::char_of_three`: each `return` is a row of the table, by the bounds that the tests leave of the first octet.
use mathlib.Core.Path.{sym, ◌∙◌}
use native.Mathlib.Omega.{arith}
use Rattle.text.proofs.Rows.{row_e0, row_ed, three_tails}
use Rattle.text.proofs.char_of_three.Goals as goal

pub returns-then-a-eq224 : goal.returns-then-a-eq224
returns-then-a-eq224 c d =
    let x = c.args in
    c.three.ensures ∙ sym (row_e0 x.a x.b x.c d (omega arith))

pub returns-then-a-eq237 : goal.returns-then-a-eq237
returns-then-a-eq237 c d =
    let x = c.args in
    c.three-then-a-eq237.ensures ∙ sym (row_ed x.a x.b x.c d (omega arith))

pub returns : goal.returns
returns c d =
    let x = c.args in
    c.three-2.ensures ∙ sym (three_tails x.a x.b x.c d (omega arith) c.if-a-eq237.false)
