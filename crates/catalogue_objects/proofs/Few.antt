-- The objects of a right catalogue have few octets: of a group at most 64 child groups and 256 tracks, of a track at most 1,024 segments. Assumes nothing.
use mathlib.Core.Path.{ap}
use mathlib.Core.Bool.{Bool, true, false}
use mathlib.Core.List.{List, [], ◌∷◌, map}
use Prim.Native.Nat.{ℕ, ◌<◌, ◌≤◌}
use native.Mathlib.Omega.{arith}
use lib.ListN.{length, length-append}
use Rattle.ground.specs.Cases.{pick}
use Rattle.ground.specs.Lists.{span, those}
use Rattle.catalogue_tables.specs.Tables.{Tables, group_count, track_count, first_track_of, tracks_in, starts_of}
use Rattle.catalogue_check.specs.Catalogue.{Right}
use Rattle.catalogue_check.proofs.Laws.{few_groups, few_tracks, track_run_inside, starts_length, segment_run_inside, few_segments}
use Rattle.catalogue_objects.specs.Entries.{group_member, track_member, is_child, children_of, tracks_of, members_of, labels_of, member_octets, all_octets}
use Rattle.catalogue_objects.specs.Objects.{group_octets, segments_octets}
use Rattle.catalogue_objects.proofs.Octets.{all_append, members_long, labels_long}
use Rattle.catalogue_objects.proofs.Spans.{span_long}

-- those of a list that pass a test are no more than the list
those_few : (test : ℕ → Bool) (s : List ℕ) → length (those test s) ≤ length s
those_few test [] = omega arith
those_few test (x ∷ s) = at (test x) (those_few test s)
  where
    at : (t : Bool) → length (those test s) ≤ length s → length (pick t (x ∷ those test s) (those test s)) ≤ length (x ∷ s)
    at true h = omega arith
    at false h = omega arith

module _ (k : Tables) (right : Right k) where
  pub group_few : (g : ℕ) → g < group_count k.groups → length (group_octets k.groups g) ≤ 2240
  unfolding group_octets members_of children_of tracks_of
  group_few g h =
      let children = children_of k.groups g in
      let tracks = tracks_of k.groups g in
      omega (
        arith,
        ap (λ (s : List ℕ). length s) (all_append member_octets (map group_member children) (map track_member tracks)),
        length-append (all_octets member_octets (map group_member children)) (all_octets member_octets (map track_member tracks)),
        members_long group_member children,
        members_long track_member tracks,
        those_few (is_child k.groups g) (span 0 (group_count k.groups)),
        span_long 0 (group_count k.groups),
        span_long (first_track_of k.groups g) (tracks_in k.groups g),
        few_groups k right,
        few_tracks k right,
        track_run_inside k right g h,
      )

  pub segments_few : (t : ℕ) → t < track_count k.tracks → length (segments_octets k.tracks k.segments t) ≤ 5120
  unfolding segments_octets labels_of
  segments_few t h =
      omega
      (arith, labels_long (starts_of k.tracks k.segments t), starts_length k right t h, segment_run_inside k right t h, few_segments k right)
