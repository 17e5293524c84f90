-- What a layer above knows of a catalogue and titles that neither 200 nor 224 refuses (SCOPE 4.14, 5.3): stated over the check's result, so that no rule has to
-- be opened.
-- Assumes nothing.
use mathlib.Core.Path.{◌≡◌, ap}
use mathlib.Core.Bool.{true, false, ◌&&◌}
use mathlib.Core.List.{List, []}
use mathlib.Core.Logic.{⊎_elim}
use Prim.Native.Nat.{ℕ, ◌+◌, ◌<◌, ◌≤◌}
use native.Mathlib.Omega.{arith}
use borrow.Author.Tests.{leb-true, not-false}
use lib.Dec.{eqb, leb}
use lib.ListN.{length, length-take}
use Rattle.ground.specs.Limits.{most_title}
use Rattle.ground.specs.Lists.{part_from}
use Rattle.ground.specs.Refusals.{Said, granted}
use Rattle.ground.proofs.Bounded.{all_at}
use Rattle.ground.proofs.Rows.{kept}
use Rattle.ground.proofs.Cases.{and_left, and_right, and_both, true_or}
use Rattle.text.specs.Grammar.{Text}
use Rattle.text.specs.Utf8.{text_of, is_fine}
use Rattle.text.proofs.Law.{only_fine, fine_is_text}
use Rattle.catalogue_tables.specs.Tables.{track_count, title_of}
use Rattle.catalogue_check.specs.Catalogue.{catalogue_rule, Right}
use Rattle.catalogue_check.proofs.Laws.{is_right, title_inside, title_short, title_valid}
use Rattle.catalogue_titles.specs.Titles.{rename_offset_of, rename_length_of, entry_rule, count_rule, entries_rule, renames_rule, part_of, octets_at, Inside}
use Rattle.catalogue_titles.specs.Lent.{Lent, catalogue_of, lent_rule, fit_rows, lent_said, Fit}

-- neither row applies exactly where all rules hold
pub fit_kept : (k : Lent) → Fit k → lent_rule k ≡ true
unfolding lent_said lent_rule
fit_kept k fit =
    let n = kept (fit_rows k) (granted []) (ap (λ (s : Said). s.is_granted) fit) in
    and_both (not-false (catalogue_rule (catalogue_of k)) n.0) (not-false (renames_rule k.tracks k.renames k.office) n.1.0)

-- the catalogue's rules, and those of the renames
pub rules_kept : (k : Lent) → lent_rule k ≡ true → catalogue_rule (catalogue_of k) ≡ true
unfolding lent_rule
rules_kept k e = and_left (catalogue_rule (catalogue_of k)) (renames_rule k.tracks k.renames k.office) e

pub renames_kept : (k : Lent) → lent_rule k ≡ true → renames_rule k.tracks k.renames k.office ≡ true
unfolding lent_rule
renames_kept k e = and_right (catalogue_rule (catalogue_of k)) (renames_rule k.tracks k.renames k.office) e

pub is_fit : (k : Lent) → lent_rule k ≡ true → Fit k
unfolding lent_said
is_fit k e = rw (rules_kept k e, renames_kept k e)

-- the catalogue passes its check
pub fit_right : (k : Lent) → Fit k → Right (catalogue_of k)
fit_right k fit = is_right (catalogue_of k) (rules_kept k (fit_kept k fit))

-- an entry that renames a track
module _ (offset len : ℕ) (office : List ℕ) (right : entry_rule offset len office ≡ true) (renames : eqb len 0 ≡ false) where
  tests : (leb len most_title && leb (offset + len) (length office) && is_fine (text_of (part_from offset len office))) ≡ true
  unfolding entry_rule
  tests = rw renames at right

  short : len ≤ most_title
  short = leb-true _ _ (and_left (leb len most_title) (leb (offset + len) (length office)) (and_left _ (is_fine (text_of (part_from offset len office))) tests))

  within : offset + len ≤ length office
  within = leb-true _ _ (and_right (leb len most_title) (leb (offset + len) (length office)) (and_left _ (is_fine (text_of (part_from offset len office))) tests))

  valid : Text (part_from offset len office)
  valid = (fine_is_text (part_from offset len office)).0 (only_fine _ (and_right (leb len most_title && leb (offset + len) (length office)) _ tests))

module _ (k : Lent) (fit : Fit k) (t : ℕ) (exists : t < track_count k.tracks) where
  entry : entry_rule (rename_offset_of k.renames t) (rename_length_of k.renames t) k.office ≡ true
  unfolding renames_rule entries_rule
  entry = all_at _ (track_count k.tracks) (and_right (count_rule (track_count k.tracks) (length k.renames)) _ (renames_kept k (fit_kept k fit))) t exists

  -- the part that is a track's title lies in its text, is short, and is UTF-8
  pub part_inside : Inside (part_of k.tracks k.renames t) (length k.text) (length k.office)
  unfolding part_of
  part_inside =
      ⊎_elim
      (λ e. rw e (title_inside (catalogue_of k) (fit_right k fit) t exists))
      (λ e. rw e (within _ _ k.office entry e))
      (true_or (eqb (rename_length_of k.renames t) 0))

  pub part_short : length (octets_at (part_of k.tracks k.renames t) k.text k.office) ≤ most_title
  unfolding part_of octets_at title_of
  part_short =
      ⊎_elim
      (λ e. rw e (title_short (catalogue_of k) (fit_right k fit) t exists))
      (λ e. rw e (simp length-take (omega (arith, short _ _ k.office entry e))))
      (true_or (eqb (rename_length_of k.renames t) 0))

  pub part_valid : Text (octets_at (part_of k.tracks k.renames t) k.text k.office)
  unfolding part_of octets_at title_of
  part_valid =
      ⊎_elim
      (λ e. rw e (title_valid (catalogue_of k) (fit_right k fit) t exists))
      (λ e. rw e (valid _ _ k.office entry e))
      (true_or (eqb (rename_length_of k.renames t) 0))
