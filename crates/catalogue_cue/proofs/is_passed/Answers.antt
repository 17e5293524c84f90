-- `catalogue_cue::is_passed`: for each first octet, the words that are left.
use mathlib.Core.Path.{sym, ◌∙◌}
use mathlib.Core.Bool.{◌||◌, or-false}
use native.Mathlib.Omega.{arith}
use borrow.Author.Tests.{ne_eqb}
use Rattle.catalogue_cue.proofs.Words.{passed_by, filled_line}
use Rattle.catalogue_cue.proofs.is_passed.Goals as goal

pub returns-in-73 : goal.returns-in-73
returns-in-73 c =
    let line = c.args.line.now in
    let e = sym c.octet_or_zero-first.ensures ∙ c.in-73.is in
    c.is_other_index.ensures ∙ sym (passed_by line 73 e ∙ rw (filled_line line 73 e (λ q. omega arith)) (simp or-false))

pub returns-in-82 : goal.returns-in-82
returns-in-82 c =
    let line = c.args.line.now in
    let e = sym c.octet_or_zero-first.ensures ∙ c.in-82.is in
    c.begins_with.ensures ∙ sym (passed_by line 82 e ∙ rw (filled_line line 82 e (λ q. omega arith)) (simp or-false))

pub returns-in-84 : goal.returns-in-84
returns-in-84 c =
    let line = c.args.line.now in
    let e = sym c.octet_or_zero-first.ensures ∙ c.in-84.is in
    (λ i. c.begins_with-in-84.ensures i || c.begins_with-in-84-2.ensures i) ∙ sym (passed_by line 84 e ∙ rw (filled_line line 84 e (λ q. omega arith)) (simp or-false))

pub returns-in-80 : goal.returns-in-80
returns-in-80 c =
    let line = c.args.line.now in
    let e = sym c.octet_or_zero-first.ensures ∙ c.in-80.is in
    c.begins_with-in-80.ensures ∙ sym (passed_by line 80 e ∙ rw (filled_line line 80 e (λ q. omega arith)) (simp or-false))

pub returns-in-70 : goal.returns-in-70
returns-in-70 c =
    let line = c.args.line.now in
    let e = sym c.octet_or_zero-first.ensures ∙ c.in-70.is in
    c.begins_with-in-70.ensures ∙ sym (passed_by line 70 e ∙ rw (filled_line line 70 e (λ q. omega arith)) (simp or-false))

pub returns-in_default : goal.returns-in_default
returns-in_default c =
    let first = c.octet_or_zero-first.result in
    sym
    (passed_by c.args.line.now first (sym c.octet_or_zero-first.ensures)
    ∙ rw (ne_eqb first 73 (λ q. omega arith), ne_eqb first 82 (λ q. omega arith), ne_eqb first 84 (λ q. omega arith), ne_eqb first 80 (λ q. omega arith), ne_eqb first 70 (λ q. omega arith)) (simp or-false))
