-- What a value asks of catalogue and state: the current track lies in the current group's run, the name and the title have at most 128 octets; and so has
-- every value. Assumes nothing.
use mathlib.Core.Path.{◌≡◌}
use mathlib.Core.Bool.{true}
use mathlib.Core.Logic.{⊎_elim}
use Prim.Native.Nat.{ℕ, ◌<◌, ◌≤◌}
use native.Mathlib.Omega.{arith}
use borrow.Author.Tests.{leb-true}
use lib.Dec.{leb}
use lib.ListN.{length}
use Rattle.ground.specs.Limits.{most_title}
use Rattle.ground.proofs.Cases.{true_or, and_left}
use Rattle.catalogue_tables.specs.Tables.{Tables, track_count}
use Rattle.catalogue_check.specs.Catalogue.{Right}
use Rattle.catalogue_titles.specs.Titles.{octets_at, Inside}
use Rattle.catalogue_titles.specs.Lent.{Lent, catalogue_of, Fit}
use Rattle.catalogue_titles.proofs.Laws.{fit_right, part_inside, part_short}
use Rattle.player_state.specs.declared.Player.{Player}
use Rattle.player_state.specs.Player.{is_active}
use Rattle.player_check.specs.Standing.{name_rule, player_rule}
use Rattle.player_check.proofs.Laws.{name_kept}
use Rattle.player_values.specs.Values.{source_of, title_part, title_value, value_of}
use Rattle.player_values.proofs.Laws.{value_short}
use Rattle.player_moves.specs.Moves.{Sits}
use Rattle.player_moves.proofs.Choices.{active_above}
use Rattle.player_moves.proofs.Ready.{shaped, seated, track_there}

module _ (k : Tables) (right : Right k) (p : Player) (stands : player_rule k.groups k.tracks p ≡ true) where
  pub player_sits : Sits k.groups k.tracks p
  player_sits active = seated _ _ _ (shaped k right) p stands active

  pub name_short : p.name.len ≤ most_title
  unfolding name_rule
  name_short = leb-true _ _ (and_left (leb p.name.len most_title) _ (name_kept k.groups k.tracks p stands))

  there : is_active p ≡ true → p.place.track.0 < track_count k.tracks
  there e = track_there _ _ _ (shaped k right) p stands (active_above p e)

module _ (k : Lent) (fit : Fit k) (p : Player) (stands : player_rule k.groups k.tracks p ≡ true) where
  -- the title lies in its text
  pub title_lies : Inside (title_part k.tracks k.renames p) (length k.text) (length k.office)
  unfolding title_part
  title_lies =
      ⊎_elim
      (λ e. rw e (part_inside k fit p.place.track.0 (there (catalogue_of k) (fit_right k fit) p stands e)))
      (λ e. rw e (omega arith))
      (true_or (is_active p))

  pub title_fits : length (title_value k.tracks k.text k.renames k.office p) ≤ most_title
  unfolding title_value title_part octets_at
  title_fits =
      ⊎_elim
      (λ e. rw e (part_short k fit p.place.track.0 (there (catalogue_of k) (fit_right k fit) p stands e)))
      (λ e. rw e (omega arith))
      (true_or (is_active p))

  pub value_fits : (c : ℕ) → length (value_of (source_of k) p c) ≤ most_title
  value_fits c =
      value_short k.groups k.tracks k.text k.renames k.office p (name_short (catalogue_of k) (fit_right k fit) p stands) title_fits c
