-- What a layer above knows of a catalogue that passes the check (SCOPE 4.14): stated over the check's result, so that no rule has to be opened.
-- Assumes nothing.
use mathlib.Core.Path.{◌≡◌, refl, ap}
use mathlib.Core.Bool.{Bool, true, false, ◌&&◌, ◌||◌, not}
use mathlib.Core.List.{List, []}
use mathlib.Core.Logic.{⊎_elim}
use Prim.Native.Nat.{ℕ, zero, suc, ◌+◌, ◌*◌, ◌<◌, ◌≤◌, zero-le}
use native.Mathlib.Nat.{not-suc-le-zero, eq-or-lt_of_le}
use native.Mathlib.Numerals.{add-one}
use native.Mathlib.Omega.{arith}
use borrow.Author.Tests.{leb-true}
use lib.Dec.{leb}
use lib.ListN.{length, get_or, length-take, length-drop}
use Rattle.ground.specs.Cases.{pick}
use Rattle.ground.specs.Refusals.{Said, granted, refused_with}
use Rattle.ground.specs.Limits.{most_groups, most_tracks, most_segments, most_text, most_duration, most_title, group_words, track_words}
use Rattle.ground.proofs.Bounded.{all_at}
use Rattle.ground.proofs.Cases.{and_left, and_right, clash, true_or}
use Rattle.text.specs.Grammar.{Text}
use Rattle.text.specs.Utf8.{text_of}
use Rattle.std.specs.Prelude.{Ok}
use Rattle.text.proofs.Law.{only_fine, fine_is_text}
use Rattle.catalogue_tables.specs.Tables.{Tables, group_count, track_count, parent_of, first_track_of, tracks_in, duration_of, is_unknown, end_by, end_of, first_segment_of, segments_in, title_offset_of, title_length_of, starts_of, title_of}
use Rattle.catalogue_rules.specs.Rules.{sizes_rule, parents_rule, track_runs_rule, segment_runs_rule, durations_rule, starts_rule, titles_placed_rule, titles_text_rule, bad_title}
use Rattle.catalogue_check.specs.Catalogue.{plain_rule, catalogue_rule, catalogue_carries, check_said, Right}
use Rattle.catalogue_rules.proofs.Runs.{inside, apart}
use Rattle.catalogue_rules.proofs.Checked as rule
use Rattle.catalogue_rules.proofs.BadTitles.{told_small}

passes : (t : Bool) (values : List ℕ) → pick (not t) (refused_with 200 values) (granted []) ≡ granted [] → t ≡ true
passes true values e = refl
passes false values e = clash (ap (λ (s : Said). s.is_granted) e)

-- the check passes exactly when every rule is kept
pub passed : (k : Tables) → Right k → catalogue_rule k ≡ true
unfolding check_said
passed k right = passes (catalogue_rule k) (catalogue_carries k) right

pub is_right : (k : Tables) → catalogue_rule k ≡ true → Right k
unfolding check_said
is_right k e = rw e

-- the rules one by one
pub record Plain (k : Tables) : Type 0 where
  pub sizes : sizes_rule (length k.groups) (length k.tracks) (length k.segments) (length k.text) ≡ true
  pub parents : parents_rule k.groups ≡ true
  pub track_runs : track_runs_rule k.groups (track_count k.tracks) ≡ true
  pub segment_runs : segment_runs_rule k.tracks (length k.segments) ≡ true
  pub durations : durations_rule k.tracks ≡ true
  pub starts : starts_rule k.tracks k.segments ≡ true
  pub placed : titles_placed_rule k.tracks (length k.text) ≡ true

pub plain_kept : (k : Tables) → plain_rule k ≡ true → Plain k
unfolding plain_rule
plain_kept k p7 =
    let r1 = sizes_rule (length k.groups) (length k.tracks) (length k.segments) (length k.text) in
    let r2 = r1 && parents_rule k.groups in
    let r3 = r2 && track_runs_rule k.groups (track_count k.tracks) in
    let r4 = r3 && segment_runs_rule k.tracks (length k.segments) in
    let r5 = r4 && durations_rule k.tracks in
    let r6 = r5 && starts_rule k.tracks k.segments in
    let p6 = and_left r6 (titles_placed_rule k.tracks (length k.text)) p7 in
    let p5 = and_left r5 (starts_rule k.tracks k.segments) p6 in
    let p4 = and_left r4 (durations_rule k.tracks) p5 in
    let p3 = and_left r3 (segment_runs_rule k.tracks (length k.segments)) p4 in
    let p2 = and_left r2 (track_runs_rule k.groups (track_count k.tracks)) p3 in
    record {
      sizes = and_left r1 (parents_rule k.groups) p2;
      parents = and_right r1 (parents_rule k.groups) p2;
      track_runs = and_right r2 (track_runs_rule k.groups (track_count k.tracks)) p3;
      segment_runs = and_right r3 (segment_runs_rule k.tracks (length k.segments)) p4;
      durations = and_right r4 (durations_rule k.tracks) p5;
      starts = and_right r5 (starts_rule k.tracks k.segments) p6;
      placed = and_right r6 (titles_placed_rule k.tracks (length k.text)) p7;
    }

-- what 200 carries is small
pub carries_small : (k : Tables) (i : ℕ) → get_or (catalogue_carries k) i 0 ≤ most_tracks + most_text
unfolding catalogue_carries
carries_small k i = at (plain_rule k) refl
  where
    at : (t : Bool) → plain_rule k ≡ t → get_or (pick t (bad_title k.tracks k.text) []) i 0 ≤ most_tracks + most_text
    at true e =
        let sizes = (plain_kept k e).sizes in
        omega (arith, told_small k.tracks k.text i, rule.few_tracks _ _ _ _ sizes, rule.few_text _ _ _ _ sizes)
    at false e = zero-le

-- those of a catalogue that passes
kept : (k : Tables) → Right k → Plain k
unfolding catalogue_rule
kept k right = plain_kept k (and_left (plain_rule k) (titles_text_rule k.tracks k.text) (passed k right))

utf8 : (k : Tables) → Right k → titles_text_rule k.tracks k.text ≡ true
unfolding catalogue_rule
utf8 k right = and_right (plain_rule k) (titles_text_rule k.tracks k.text) (passed k right)

module _ (k : Tables) (right : Right k) where
  abbrev sizes_kept : sizes_rule (length k.groups) (length k.tracks) (length k.segments) (length k.text) ≡ true
  sizes_kept = (kept k right).sizes

  pub few_groups : group_count k.groups ≤ most_groups
  few_groups = rule.few_groups _ _ _ _ sizes_kept

  pub few_tracks : track_count k.tracks ≤ most_tracks
  few_tracks = rule.few_tracks _ _ _ _ sizes_kept

  pub few_segments : length k.segments ≤ most_segments
  few_segments = rule.few_segments _ _ _ _ sizes_kept

  pub few_text : length k.text ≤ most_text
  few_text = rule.few_text _ _ _ _ sizes_kept

  -- no table ends inside a record
  pub whole_groups : group_count k.groups * group_words ≡ length k.groups
  whole_groups = omega (arith, rule.whole_groups _ _ _ _ sizes_kept)

  pub whole_tracks : track_count k.tracks * track_words ≡ length k.tracks
  whole_tracks = omega (arith, rule.whole_tracks _ _ _ _ sizes_kept)

  -- group 0 is its own parent, every other parent is a smaller group
  pub root_parent : 0 < group_count k.groups → parent_of k.groups 0 ≡ 0
  root_parent = rule.root k.groups (kept k right).parents

  pub smaller_parent : (g : ℕ) → 0 < g → g < group_count k.groups → parent_of k.groups g < g
  smaller_parent = rule.smaller k.groups (kept k right).parents

  pub parent_exists : (g : ℕ) → g < group_count k.groups → parent_of k.groups g < group_count k.groups
  parent_exists zero h = omega (arith, root_parent h)
  parent_exists (suc g) h = omega (arith, smaller_parent (suc g) (omega arith) h)

  -- a group's run lies within the tracks, so a track of it exists; the runs of two groups are apart
  pub track_run_inside : (g : ℕ) → g < group_count k.groups → first_track_of k.groups g + tracks_in k.groups g ≤ track_count k.tracks
  unfolding track_runs_rule
  track_run_inside g h =
      inside (first_track_of k.groups) (tracks_in k.groups) (group_count k.groups) (track_count k.tracks) (kept k right).track_runs g h

  pub track_exists : (g t : ℕ) → g < group_count k.groups → t < first_track_of k.groups g + tracks_in k.groups g → t < track_count k.tracks
  track_exists g t h l = omega (arith, track_run_inside g h)

  pub runs_apart : (g h : ℕ) → g < h → h < group_count k.groups → first_track_of k.groups g + tracks_in k.groups g ≤ first_track_of k.groups h
  unfolding track_runs_rule
  runs_apart g h l m =
      apart (first_track_of k.groups) (tracks_in k.groups) (group_count k.groups) (track_count k.tracks) (kept k right).track_runs g h l m

  module _ (t : ℕ) (exists : t < track_count k.tracks) where
    -- a track's run lies within the segments, so it has as many starts as it counts
    pub segment_run_inside : first_segment_of k.tracks t + segments_in k.tracks t ≤ length k.segments
    segment_run_inside = rule.runs_inside k.tracks (length k.segments) (kept k right).segment_runs t exists

    pub starts_length : length (starts_of k.tracks k.segments t) ≡ segments_in k.tracks t
    unfolding starts_of
    starts_length = simp (length-take, length-drop) (omega (arith, segment_run_inside))

    -- a track ends by the greatest duration, a running recording at it
    pub end_bounded : end_of k.tracks t ≤ most_duration
    unfolding end_of durations_rule
    end_bounded = by_word (duration_of k.tracks t) (all_at _ (track_count k.tracks) (kept k right).durations t exists)
      where
        only : (a : Bool) → (a || false) ≡ true → a ≡ true
        only true h = refl
        only false h = h

        by_word : (d : ℕ) → (leb d most_duration || is_unknown d) ≡ true → end_by d ≤ most_duration
        by_word d h = ⊎_elim
            (λ e. rw e (omega arith))
            (λ e. rw e (leb-true d most_duration (only (leb d most_duration) (rw e at h))))
            (true_or (is_unknown d))

    -- starts begin at 0, rise strictly and lie below the track's end
    pub starts_begin : get_or (starts_of k.tracks k.segments t) 0 0 ≡ 0
    starts_begin = rule.begins k.tracks k.segments (kept k right).starts t exists

    pub starts_below : (i : ℕ) → i < length (starts_of k.tracks k.segments t) → get_or (starts_of k.tracks k.segments t) i 0 < end_of k.tracks t
    starts_below = rule.below k.tracks k.segments (kept k right).starts t exists

    pub starts_rise : (j i : ℕ) → i < j → j < length (starts_of k.tracks k.segments t)
        → get_or (starts_of k.tracks k.segments t) i 0 < get_or (starts_of k.tracks k.segments t) j 0
    starts_rise zero i h l = absurd (not-suc-le-zero h)
    starts_rise (suc j) i h l =
        let next = rw (add-one j) at (rule.rises k.tracks k.segments (kept k right).starts t exists j (omega arith)) in
        let q : i ≤ j = omega arith in
        ⊎_elim
        (λ e. rw e next)
        (λ m. omega (arith, starts_rise j i m (omega arith), next))
        (eq-or-lt_of_le q)

    -- a title's part lies in the text, is short, and is UTF-8
    pub title_inside : title_offset_of k.tracks t + title_length_of k.tracks t ≤ length k.text
    title_inside = rule.titles_inside k.tracks (length k.text) (kept k right).placed t exists

    pub title_length : length (title_of k.tracks k.text t) ≡ title_length_of k.tracks t
    unfolding title_of
    title_length = simp (length-take, length-drop) (omega (arith, title_inside))

    pub title_short : length (title_of k.tracks k.text t) ≤ most_title
    title_short = omega (arith, title_length, rule.titles_short k.tracks (length k.text) (kept k right).placed t exists)

    pub title_fine : text_of (title_of k.tracks k.text t) ≡ Ok tt
    unfolding titles_text_rule
    title_fine = only_fine _ (all_at _ (track_count k.tracks) (utf8 k right) t exists)

    pub title_valid : Text (title_of k.tracks k.text t)
    title_valid = (fine_is_text (title_of k.tracks k.text t)).0 title_fine
