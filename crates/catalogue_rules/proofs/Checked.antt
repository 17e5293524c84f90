-- What each rule tells of each group and track. `Laws` has the same over the check's result. Assumes nothing.
use mathlib.Core.Path.{◌≡◌}
use mathlib.Core.Bool.{Bool, true, ◌&&◌}
use mathlib.Core.List.{List}
use Prim.Native.Nat.{ℕ, ◌+◌, ◌-◌, ◌/◌, ◌%◌, ◌<◌, ◌≤◌}
use native.Mathlib.Omega.{arith}
use borrow.Author.Tests.{eqb-true, ltb-true, leb-true, ne_eqb}
use lib.Dec.{eqb, leb}
use lib.ListN.{length, get_or}
use Rattle.ground.specs.Limits.{most_groups, most_tracks, most_segments, most_text, group_words, track_words, most_title}
use Rattle.ground.proofs.Bounded.{all_at}
use Rattle.ground.proofs.Cases.{and_left, and_right}
use Rattle.catalogue_tables.specs.Tables.{group_count, track_count, parent_of, first_segment_of, segments_in, end_of, title_offset_of, title_length_of, starts_of}
use Rattle.catalogue_rules.specs.Rules.{sizes_rule, parents_rule, segment_runs_rule, begin_rule, rise_rule, below_rule, starts_right, starts_rule, titles_placed_rule, RunsInside, TitlesInside}
use Rattle.catalogue_rules.proofs.Runs.{inside}

module _ (groups tracks segments text : ℕ) (good : sizes_rule groups tracks segments text ≡ true) where
  abbrev whole : Bool
  whole = eqb (groups % group_words) 0 && eqb (tracks % track_words) 0

  abbrev few : Bool
  few = whole && leb (groups / group_words) most_groups && leb (tracks / track_words) most_tracks

  pub few_text : text ≤ most_text
  unfolding sizes_rule
  few_text = leb-true _ _ (and_right (few && leb segments most_segments) _ good)

  but_text : (few && leb segments most_segments) ≡ true
  unfolding sizes_rule
  but_text = and_left (few && leb segments most_segments) (leb text most_text) good

  pub few_segments : segments ≤ most_segments
  few_segments = leb-true _ _ (and_right few _ but_text)

  few_both : few ≡ true
  few_both = and_left few (leb segments most_segments) but_text

  pub few_tracks : tracks / track_words ≤ most_tracks
  few_tracks = leb-true _ _ (and_right (whole && leb (groups / group_words) most_groups) _ few_both)

  whole_few : (whole && leb (groups / group_words) most_groups) ≡ true
  whole_few = and_left (whole && leb (groups / group_words) most_groups) (leb (tracks / track_words) most_tracks) few_both

  pub few_groups : groups / group_words ≤ most_groups
  few_groups = leb-true _ _ (and_right whole _ whole_few)

  whole_both : whole ≡ true
  whole_both = and_left whole (leb (groups / group_words) most_groups) whole_few

  pub whole_groups : groups % group_words ≡ 0
  whole_groups = eqb-true _ _ (and_left (eqb (groups % group_words) 0) (eqb (tracks % track_words) 0) whole_both)

  pub whole_tracks : tracks % track_words ≡ 0
  whole_tracks = eqb-true _ _ (and_right (eqb (groups % group_words) 0) _ whole_both)

module _ (groups : List ℕ) (good : parents_rule groups ≡ true) where
  pub root : 0 < group_count groups → parent_of groups 0 ≡ 0
  unfolding parents_rule
  root h = eqb-true _ _ (all_at _ (group_count groups) good 0 h)

  pub smaller : (g : ℕ) → 0 < g → g < group_count groups → parent_of groups g < g
  unfolding parents_rule
  smaller g p h =
      let n : eqb g 0 ≡ Bool.false = ne_eqb g 0 (λ e. let z : ⊥ = omega arith in z) in
      ltb-true _ _ (rw n at (all_at _ (group_count groups) good g h))

pub runs_inside : (tracks : List ℕ) (segments : ℕ) → segment_runs_rule tracks segments ≡ true → RunsInside tracks segments
unfolding segment_runs_rule
runs_inside tracks segments good t h = inside (first_segment_of tracks) (segments_in tracks) (track_count tracks) segments good t h

module _ (tracks segments : List ℕ) (good : starts_rule tracks segments ≡ true) (t : ℕ) (h : t < track_count tracks) where
  abbrev starts : List ℕ
  starts = starts_of tracks segments t

  right : starts_right starts (end_of tracks t) ≡ true
  unfolding starts_rule
  right = all_at _ (track_count tracks) good t h

  pub begins : get_or starts 0 0 ≡ 0
  unfolding begin_rule
  begins =
      eqb-true _ _ (and_left (begin_rule starts) (rise_rule starts)
      (and_left (begin_rule starts && rise_rule starts) (below_rule starts (end_of tracks t)) right))

  pub rises : (i : ℕ) → i + 1 < length starts → get_or starts i 0 < get_or starts (i + 1) 0
  unfolding rise_rule
  rises i l =
      ltb-true _ _ (all_at _ (length starts - 1) (and_right (begin_rule starts) (rise_rule starts)
      (and_left (begin_rule starts && rise_rule starts) (below_rule starts (end_of tracks t)) right)) i (omega arith))

  pub below : (i : ℕ) → i < length starts → get_or starts i 0 < end_of tracks t
  unfolding below_rule
  below i l =
      ltb-true _ _ (all_at _ (length starts) (and_right (begin_rule starts && rise_rule starts) (below_rule starts (end_of tracks t)) right) i l)

module _ (tracks : List ℕ) (text : ℕ) (good : titles_placed_rule tracks text ≡ true) where
  pub titles_inside : TitlesInside tracks text
  unfolding titles_placed_rule
  titles_inside t h =
      leb-true _ _ (and_left (leb (title_offset_of tracks t + title_length_of tracks t) text) _ (all_at _ (track_count tracks) good t h))

  pub titles_short : (t : ℕ) → t < track_count tracks → title_length_of tracks t ≤ most_title
  unfolding titles_placed_rule
  titles_short t h =
      leb-true _ _ (and_right (leb (title_offset_of tracks t + title_length_of tracks t) text) _ (all_at _ (track_count tracks) good t h))
