-- `text::char_at`: each `return` is a row of the table at the octets there; what a row does not ask is not read.
use mathlib.Core.Path.{refl, sym, ap, ◌∙◌}
use Prim.Native.Nat.{◌+◌}
use native.Mathlib.Omega.{arith}
use lib.ListN.{get_or}
use Rattle.ground.proofs.Cases.{past, here}
use Rattle.text.specs.Utf8.{is_tail, char_of}
use Rattle.text.proofs.Rows.{row_one, row_gap, row_two, row_end}
use Rattle.text.proofs.Chars.{char_there}
use Rattle.text.proofs.char_at.Goals as goal

pub returns-then-a-le127 : goal.returns-then-a-le127
returns-then-a-le127 c =
    let t = char_there c.args.s.now c.args.at 1 c.requires (sym (row_one _ _ _ _ (omega arith))) in
    record { value = t.0; result_in_bounds = t.1 }

pub returns-then-a-le193 : goal.returns-then-a-le193
returns-then-a-le193 c =
    let t = char_there c.args.s.now c.args.at 0 c.requires (sym (row_gap _ _ _ _ (omega arith))) in
    record { value = t.0; result_in_bounds = t.1 }

pub returns-then-a-gt244 : goal.returns-then-a-gt244
returns-then-a-gt244 c =
    let t = char_there c.args.s.now c.args.at 0 c.requires (sym (row_end _ _ _ _ (omega arith))) in
    record { value = t.0; result_in_bounds = t.1 }

pub returns-then-is_within : goal.returns-then-is_within
returns-then-is_within c =
    let tail = c.is_within.ensures ∙ ap is_tail c.at_or-b.ensures in
    let t = char_there c.args.s.now c.args.at 2 c.requires (here 0 (sym tail ∙ c.if-is_within.true) refl ∙ sym (row_two _ _ _ _ (omega arith))) in
    record { value = t.0; result_in_bounds = t.1 }

pub returns-then-a-le223 : goal.returns-then-a-le223
returns-then-a-le223 c =
    let tail = c.is_within.ensures ∙ ap is_tail c.at_or-b.ensures in
    let t = char_there c.args.s.now c.args.at 0 c.requires (past 2 (sym tail ∙ c.if-is_within.false) refl ∙ sym (row_two _ _ _ _ (omega arith))) in
    record { value = t.0; result_in_bounds = t.1 }

pub returns-then-a-le239 : goal.returns-then-a-le239
returns-then-a-le239 c =
    let s = c.args.s.now in
    let at = c.args.at in
    let d = get_or s (at + 3) 0 in
    let t = char_there s at _ c.requires (c.char_of_three.ensures d ∙ (λ k. char_of (get_or s at 0) (c.at_or-b.ensures k) (c.at_or-c.ensures k) d)) in
    record { value = t.0; result_in_bounds = t.1 }

pub returns : goal.returns
returns c =
    let s = c.args.s.now in
    let at = c.args.at in
    let t = char_there s at _ c.requires (c.char_of_four.ensures ∙ (λ k. char_of (get_or s at 0) (c.at_or-b.ensures k) (c.at_or-c.ensures k) (c.at_or-d.ensures k))) in
    record { value = t.0; result_in_bounds = t.1 }
