-- `catalogue_titles::renames_right`: whether there are as many entries as tracks, and then whether all are zeros, or entry by entry.
use mathlib.Core.Path.{◌≡◌, sym, ap, ◌∙◌}
use Prim.Native.Nat.{ℕ, ◌*◌}
use native.Mathlib.Omega.{arith}
use borrow.Author.Tests.{eq-eqb, ne_eqb}
use lib.ListN.{length}
use Rattle.ground.specs.Limits.{rename_words}
use Rattle.catalogue_tables.specs.Tables.{track_count}
use Rattle.catalogue_titles.specs.Titles.{count_rule, renames_rule}
use Rattle.catalogue_titles.proofs.Zeros.{zeros_right}
use Rattle.catalogue_titles.proofs.renames_right.Goals as goal

pub returns-then-renames-count : goal.returns-then-renames-count
unfolding count_rule renames_rule
returns-then-renames-count c =
    rw (ne_eqb _ _ (λ e. c.if-renames-count.true (e ∙ ap (λ (n : ℕ). n * rename_words) (sym c.track_count-count.ensures))))

-- there is an entry for each track
as_many : {all count words : ℕ} → count ≡ all → words ≡ count * rename_words → words ≡ all * rename_words
as_many n e = e ∙ ap (λ (m : ℕ). m * rename_words) n

pub returns-then-all_zero : goal.returns-then-all_zero
unfolding count_rule renames_rule
returns-then-all_zero c =
    let a = c.args in
    let many = as_many c.track_count-count.ensures c.if-renames-count.false in
    rw (eq-eqb _ _ many, zeros_right (track_count a.tracks.now) (length a.renames.now) a.renames.now a.office.now (omega (arith, many)) (sym c.all_zero.ensures ∙ c.if-all_zero.true))

pub returns : goal.returns
unfolding count_rule renames_rule
returns c =
    rw (eq-eqb _ _ (as_many c.track_count-count.ensures c.if-renames-count.false), ← c.track_count-count.ensures) c.entries_right.ensures
