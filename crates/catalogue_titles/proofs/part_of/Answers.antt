-- `catalogue_titles::part_of`: by the length of the track's entry.
use mathlib.Core.Path.{sym, ◌∙◌}
use mathlib.Core.Bool.{true, false}
use borrow.Author.Tests.{eq-eqb, ne_eqb}
use Rattle.catalogue_titles.specs.Titles.{part_of}
use Rattle.catalogue_titles.proofs.part_of.Goals as goal

pub returns-then-len-eq0 : goal.returns-then-len-eq0
unfolding part_of
returns-then-len-eq0 c =
    rw (eq-eqb _ _ (sym c.word_in-len.ensures ∙ c.if-len-eq0.true)) (λ k. record { renamed = false; offset = c.title_offset-at.ensures k; len = c.title_length-own.ensures k })

pub returns : goal.returns
unfolding part_of
returns c =
    let w = c.word_in-len.ensures in
    rw (ne_eqb _ _ (λ e. c.if-len-eq0.false (w ∙ e))) (λ k. record { renamed = true; offset = c.word_in-offset.ensures k; len = w k })
