-- What a call on the state is lent beside the state: a catalogue, and the office's titles (SCOPE 5.1, 5.9, 17.5).
-- Assumes nothing.
use Rattle.std.specs.Prelude.{◌≡◌, Bool, ◌&&◌, not, List, [], ◌∷◌, ℕ}
use Rattle.ground.specs.Refusals.{Said, granted, Row, row, said_by}
use Rattle.catalogue_tables.specs.Tables.{Tables, tables}
use Rattle.catalogue_check.specs.Catalogue.{catalogue_rule, catalogue_row}
use Rattle.catalogue_titles.specs.declared.Loan.{Loan}
use Rattle.catalogue_titles.specs.Titles.{renames_rule}

-- the four tables of the catalogue, the entries that rename its tracks, and the office's text
pub record Lent : Type 0 where
  pub groups : List ℕ
  pub tracks : List ℕ
  pub segments : List ℕ
  pub text : List ℕ
  pub renames : List ℕ
  pub office : List ℕ

abbrev pub lending : List ℕ → List ℕ → List ℕ → List ℕ → List ℕ → List ℕ → Lent
lending groups tracks segments text renames office =
    record { groups = groups; tracks = tracks; segments = segments; text = text; renames = renames; office = office }

abbrev pub lent : Loan → Lent
lent loan = lending loan.groups.now loan.tracks.now loan.segments.now loan.text.now loan.renames.now loan.office.now

-- the catalogue alone, which is all that the card writer and the calls that write objects are lent (SCOPE 5.9)
abbrev pub catalogue_of : Lent → Tables
catalogue_of k = tables k.groups k.tracks k.segments k.text

-- the catalogue keeps its rules, and so do the titles
unfoldable pub lent_rule : Lent → Bool
lent_rule k = catalogue_rule (catalogue_of k) && renames_rule k.tracks k.renames k.office

-- SCOPE 5.3: "The titles are refused with 224 where there is not one entry for each track, where a length is over 128, or where a part of length above 0 is
-- outside the office's text or not UTF-8. 224 comes after 200 and carries nothing."
abbrev pub renames_row : Lent → Row
renames_row k = row 224 (not (renames_rule k.tracks k.renames k.office))

-- 200, then 224
abbrev pub fit_rows : Lent → List Row
fit_rows k = catalogue_row (catalogue_of k) ∷ renames_row k ∷ []

unfoldable pub lent_said : Lent → Said
lent_said k = said_by (fit_rows k)

-- Neither applies. Every layer above relies on this.
abbrev pub Fit : Lent → Type 0
Fit k = lent_said k ≡ granted []
