-- `catalogue_titles::check`: 200, 224, the first that applies.
use mathlib.Core.Path.{◌≡◌, refl, sym, ap, ◌∙◌}
use mathlib.Core.Bool.{true, false}
use mathlib.Core.List.{[], ◌∷◌}
use Rattle.ground.specs.Refusals.{Said, granted, refused}
use Rattle.ground.proofs.Rows.{more}
use Rattle.ground.proofs.Passed.{passed_on}
use Rattle.catalogue_check.specs.Catalogue.{catalogue_row, check_said}
use Rattle.catalogue_check.proofs.Laws.{passed}
use Rattle.catalogue_titles.specs.Titles.{renames_rule}
use Rattle.catalogue_titles.specs.Lent.{Lent, lent, catalogue_of, renames_row, lent_said}
use Rattle.catalogue_titles.proofs.check.Goals as goal

-- what the check says, by the first that fails
module _ (k : Lent) where
  says_catalogue : {said : Said} → said.is_granted ≡ false → said ≡ check_said (catalogue_of k) → said ≡ lent_said k
  unfolding check_said lent_said
  says_catalogue refused e =
      e ∙ more (catalogue_row (catalogue_of k) ∷ []) (renames_row k ∷ []) (sym (ap (λ (s : Said). s.is_granted) e) ∙ refused)

  says_renames : granted [] ≡ check_said (catalogue_of k) → renames_rule k.tracks k.renames k.office ≡ false → refused 224 ≡ lent_said k
  unfolding lent_said
  says_renames e bad = rw (passed (catalogue_of k) (sym e), bad)

  says_fine : granted [] ≡ check_said (catalogue_of k) → renames_rule k.tracks k.renames k.office ≡ true → granted [] ≡ lent_said k
  unfolding lent_said
  says_fine e good = rw (passed (catalogue_of k) (sym e), good)

pub returns-in_err-check : goal.returns-in_err-check
returns-in_err-check c =
    passed_on _ _ _ c.from_residual.ensures.1
    (says_catalogue (lent c.args.loan.now) refl c.in_err-check.ensures)

pub returns-then-not-renames_right : goal.returns-then-not-renames_right
returns-then-not-renames_right c =
    c.from.ensures
    ∙ says_renames (lent c.args.loan.now) c.in_ok-check.ensures (sym c.renames_right.ensures ∙ c.if-not-renames_right.true)

pub returns : goal.returns
returns c =
    says_fine (lent c.args.loan.now) c.in_ok-check.ensures (sym c.renames_right.ensures ∙ c.if-not-renames_right.false)
