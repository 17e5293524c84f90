-- `catalogue_check::check`: by whether the plain rules are kept, and then by what is said of the titles.
use mathlib.Core.Path.{◌≡◌, sym, ap, ◌∙◌}
use mathlib.Core.Bool.{true, false}
use mathlib.Core.List.{[], ◌∷◌}
use Prim.Native.Nat.{ℕ}
use Rattle.ground.specs.Refusals.{granted, refused, refused_with}
use Rattle.ground.proofs.Passed.{turned_into}
use Rattle.catalogue_tables.specs.Tables.{Tables, tables}
use Rattle.catalogue_rules.specs.Rules.{bad_title, titles_of}
use Rattle.catalogue_rules.proofs.Checked.{titles_inside}
use Rattle.catalogue_rules.proofs.BadTitles.{text_is, text_not}
use Rattle.catalogue_check.specs.Catalogue.{plain_rule, catalogue_rule, catalogue_carries, check_said}
use Rattle.catalogue_check.proofs.Laws.{plain_kept}
use Rattle.catalogue_check.proofs.check.Goals as goal

-- what the check says, by the first that fails
module _ (k : Tables) where
  says_plain : plain_rule k ≡ false → refused 200 ≡ check_said k
  unfolding check_said catalogue_rule catalogue_carries
  says_plain p = rw p

  says_title : plain_rule k ≡ true → {t o : ℕ} → bad_title k.tracks k.text ≡ t ∷ o ∷ [] → refused_with 200 (t ∷ o ∷ []) ≡ check_said k
  unfolding check_said catalogue_rule catalogue_carries
  says_title p b = rw (p, text_not k.tracks k.text b, b)

  says_fine : plain_rule k ≡ true → bad_title k.tracks k.text ≡ [] → granted [] ≡ check_said k
  unfolding check_said catalogue_rule catalogue_carries
  says_fine p b = rw (p, text_is k.tracks k.text b)

pub returns-then-not-plain_right : goal.returns-then-not-plain_right
returns-then-not-plain_right c =
    let a = c.args in
    c.from.ensures ∙ says_plain (tables a.groups.now a.tracks.now a.segments.now a.text.now) (sym c.plain_right.ensures ∙ c.if-not-plain_right.true)

pub titles_text-requires : goal.titles_text-requires
titles_text-requires c =
    let a = c.args in
    titles_inside _ _ (plain_kept (tables a.groups.now a.tracks.now a.segments.now a.text.now) (sym c.plain_right.ensures ∙ c.if-not-plain_right.false)).placed

pub returns-in_err-titles_text : goal.returns-in_err-titles_text
returns-in_err-titles_text c =
    let a = c.args in
    turned_into _ _ _ c.from_residual.ensures.1
    ∙ says_title (tables a.groups.now a.tracks.now a.segments.now a.text.now) (sym c.plain_right.ensures ∙ c.if-not-plain_right.false) (sym c.in_err-titles_text.ensures)

pub returns : goal.returns
returns c =
    let a = c.args in
    says_fine (tables a.groups.now a.tracks.now a.segments.now a.text.now) (sym c.plain_right.ensures ∙ c.if-not-plain_right.false) (sym c.in_ok-titles_text.ensures)
