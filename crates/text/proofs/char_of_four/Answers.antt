-- `text::char_of_four`: each `return` is a row of the table, by the bounds that the tests leave of the first octet.
use mathlib.Core.Path.{sym, ◌∙◌}
use native.Mathlib.Omega.{arith}
use Rattle.text.proofs.Rows.{row_f0, row_f1, row_f4}
use Rattle.text.proofs.char_of_four.Goals as goal

pub returns-then-a-eq240 : goal.returns-then-a-eq240
returns-then-a-eq240 c =
    let x = c.args in
    c.four.ensures ∙ sym (row_f0 x.a x.b x.c x.d (omega arith))

pub returns-then-a-eq244 : goal.returns-then-a-eq244
returns-then-a-eq244 c =
    let x = c.args in
    c.four-then-a-eq244.ensures ∙ sym (row_f4 x.a x.b x.c x.d (omega arith))

pub returns : goal.returns
returns c =
    let x = c.args in
    c.four-2.ensures ∙ sym (row_f1 x.a x.b x.c x.d (omega arith))
