-- `catalogue_titles::entry_right`: by the first test that fails; a part that lies in the text is looked at.
use mathlib.Core.Path.{◌≡◌, ◌∙◌}
use Prim.Native.Nat.{◌+◌, ◌-◌}
use native.Mathlib.Omega.{arith}
use lib.ListN.{length, take, drop}
use borrow.Author.Tests.{eq-eqb, ne_eqb, le-leb, lt-leb}
use Rattle.ground.specs.Limits.{most_title}
use Rattle.text.specs.Utf8.{text_of, is_fine}
use Rattle.catalogue_titles.specs.Titles.{entry_rule}
use Rattle.catalogue_titles.proofs.entry_right.Goals as goal

pub returns-then-n-eq0 : goal.returns-then-n-eq0
unfolding entry_rule
returns-then-n-eq0 c =
    let a = c.args in
    rw (eq-eqb a.len 0 (omega arith))

pub returns-then-n-gt-MOST_TITLE : goal.returns-then-n-gt-MOST_TITLE
unfolding entry_rule
returns-then-n-gt-MOST_TITLE c =
    let a = c.args in
    rw (ne_eqb a.len 0 (λ e. omega arith), lt-leb a.len most_title (omega arith))

pub returns-then-office-end : goal.returns-then-office-end
unfolding entry_rule
returns-then-office-end c =
    let a = c.args in
    rw
    (ne_eqb a.len 0 (λ e. omega arith), le-leb a.len most_title (omega arith), lt-leb (a.offset + a.len) (length a.office.now) (omega arith))

pub returns : goal.returns
unfolding entry_rule
returns c =
    let o = c.wide_word-start in
    let n = c.wide_word-n in
    let a = c.args in
    let long : o.result + n.result - o.result ≡ a.len = omega arith in
    rw
    (ne_eqb a.len 0 (λ e. omega arith), le-leb a.len most_title (omega arith), le-leb (a.offset + a.len) (length a.office.now) (omega arith))
    (c.is_text.ensures ∙ (λ k. is_fine (text_of (take (long k) (drop (o.ensures.0 k) a.office.now)))))
