-- What card write says, by what the catalogue check says; and what a catalogue that passes it has. Assumes nothing.
use mathlib.Core.Path.{◌≡◌, sym, ap, ◌∙◌}
use mathlib.Core.Bool.{false, not}
use mathlib.Core.List.{[], ◌∷◌}
use Prim.Native.Nat.{ℕ, ◌≤◌}
use native.Mathlib.Omega.{arith}
use lib.ListN.{length}
use Rattle.ground.specs.Refusals.{Said, granted, said_through}
use Rattle.ground.proofs.Cases.{past}
use Rattle.ground.proofs.Rows.{shut}
use Rattle.catalogue_tables.specs.Tables.{Tables, group_count, track_count}
use Rattle.catalogue_check.specs.Catalogue.{catalogue_row, check_said, Right}
use Rattle.catalogue_check.proofs.Laws.{passed, few_groups, few_tracks, few_segments, few_text, whole_groups, whole_tracks}
use Rattle.card_write.specs.Card.{blocks_taken}
use Rattle.card_write.specs.Write.{room_row, write_said}
use Rattle.card_write.proofs.Loading.{Sized}

module _ (k : Tables) (room : ℕ) where
  -- 200: nothing behind it is asked
  pub says_catalogue : (said : Said) → said ≡ check_said k → said.is_granted ≡ false → said ≡ write_said k room
  unfolding check_said write_said
  says_catalogue said e h =
      e
      ∙ shut (λ s. s) (catalogue_row k ∷ []) (said_through (room_row k room ∷ []) (granted (blocks_taken k ∷ [])))
      (sym (ap (λ (s : Said). s.is_granted) e) ∙ h)

  -- where the catalogue is right, the room decides
  pub says_behind : Right k → (said : Said) → said ≡ said_through (room_row k room ∷ []) (granted (blocks_taken k ∷ [])) → said ≡ write_said k room
  unfolding write_said
  says_behind right said e = past _ (ap not (passed k right)) e

module _ (k : Tables) (right : Right k) where
  pub right_sized : Sized k (group_count k.groups) (track_count k.tracks) (length k.segments) (length k.text)
  right_sized =
      record {
        groups_are = sym (whole_groups k right);
        tracks_are = sym (whole_tracks k right);
        segments_are = omega arith;
        text_is = omega arith;
        groups_few = few_groups k right;
        tracks_few = few_tracks k right;
        segments_few = few_segments k right;
        text_short = few_text k right;
      }

  -- so the tables are short, and their card has 89 blocks at most, which are 45,568 octets
  pub short_groups : length k.groups ≤ 192
  short_groups = omega (arith, few_groups k right, whole_groups k right)

  pub short_tracks : length k.tracks ≤ 1536
  short_tracks = omega (arith, few_tracks k right, whole_tracks k right)

  pub most_blocks_lem : blocks_taken k ≤ 89
  most_blocks_lem = omega (arith, short_groups, short_tracks, few_segments k right, few_text k right)
