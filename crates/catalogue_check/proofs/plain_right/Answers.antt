-- `catalogue_check::plain_right`: at each return the tests that led there say what the rule is.
use mathlib.Core.Path.{◌≡◌, refl, sym, ◌∙◌}
use mathlib.Core.Bool.{Bool, true, false, ◌&&◌}
use native.Mathlib.Omega.{arith}
use lib.ListN.{length}
use Rattle.ground.proofs.Cases.{and_left, and_right}
use Rattle.catalogue_tables.specs.Tables.{Tables, tables}
use Rattle.catalogue_rules.specs.Rules.{track_runs_rule, segment_runs_rule, durations_rule, starts_rule, titles_placed_rule}
use Rattle.catalogue_check.specs.Catalogue.{plain_rule}
use Rattle.catalogue_rules.proofs.Checked.{few_groups, few_tracks, runs_inside}
use Rattle.catalogue_check.proofs.plain_right.Goals as goal

-- the three rules that one pass over the tracks tells
abbrev runs_known : Tables → Bool
runs_known k = segment_runs_rule k.tracks (length k.segments) && durations_rule k.tracks

abbrev tracks_kept : Tables → Bool
tracks_kept k = runs_known k && titles_placed_rule k.tracks (length k.text)

-- each of the three
module _ (k : Tables) (kept : tracks_kept k ≡ true) where
  two_kept : runs_known k ≡ true
  two_kept = and_left (runs_known k) _ kept

  segment_runs_kept : segment_runs_rule k.tracks (length k.segments) ≡ true
  segment_runs_kept = and_left (segment_runs_rule k.tracks (length k.segments)) _ two_kept

  durations_kept : durations_rule k.tracks ≡ true
  durations_kept = and_right (segment_runs_rule k.tracks (length k.segments)) _ two_kept

  placed_kept : titles_placed_rule k.tracks (length k.text) ≡ true
  placed_kept = and_right (runs_known k) _ kept

-- a test between two that are not both true
between : (a b c : Bool) → (a && c) ≡ false → (a && b && c) ≡ false
between true true c h = h
between true false c h = refl
between false b c h = refl

pub returns-then-not-sizes_right : goal.returns-then-not-sizes_right
unfolding plain_rule
returns-then-not-sizes_right c =
    simp (sym c.sizes_right.ensures ∙ c.if-not-sizes_right.true)

pub returns-then-not-parents_right : goal.returns-then-not-parents_right
unfolding plain_rule
returns-then-not-parents_right c =
    simp (sym c.sizes_right.ensures ∙ c.if-not-sizes_right.false, sym c.parents_right.ensures ∙ c.if-not-parents_right.true)

pub runs_right-requires-clause-n_bound : goal.runs_right-requires-clause-n_bound
runs_right-requires-clause-n_bound c =
    omega (arith, few_groups _ _ _ _ (sym c.sizes_right.ensures ∙ c.if-not-sizes_right.false))

pub returns-then-not-runs_right : goal.returns-then-not-runs_right
unfolding plain_rule track_runs_rule
returns-then-not-runs_right c =
    simp (
      sym c.sizes_right.ensures ∙ c.if-not-sizes_right.false,
      sym c.parents_right.ensures ∙ c.if-not-parents_right.false,
      sym c.runs_right.ensures ∙ c.if-not-runs_right.true,
    )

pub tracks_right-requires : goal.tracks_right-requires
tracks_right-requires c =
    few_tracks _ _ _ _ (sym c.sizes_right.ensures ∙ c.if-not-sizes_right.false)

pub returns-then-not-tracks_right : goal.returns-then-not-tracks_right
unfolding plain_rule track_runs_rule
returns-then-not-tracks_right c =
    let a = c.args in
    let k = tables a.groups.now a.tracks.now a.segments.now a.text.now in
    simp (
      sym c.sizes_right.ensures ∙ c.if-not-sizes_right.false,
      sym c.parents_right.ensures ∙ c.if-not-parents_right.false,
      sym c.runs_right.ensures ∙ c.if-not-runs_right.false,
    ) (sym (between (runs_known k) (starts_rule k.tracks k.segments) _ (sym c.tracks_right.ensures ∙ c.if-not-tracks_right.true)))

pub starts_right-requires : goal.starts_right-requires
starts_right-requires c =
    let a = c.args in
    let k = tables a.groups.now a.tracks.now a.segments.now a.text.now in
    runs_inside _ _ (segment_runs_kept k (sym c.tracks_right.ensures ∙ c.if-not-tracks_right.false))

pub returns-then-not-starts_right : goal.returns-then-not-starts_right
unfolding plain_rule track_runs_rule
returns-then-not-starts_right c =
    let a = c.args in
    let k = tables a.groups.now a.tracks.now a.segments.now a.text.now in
    let kept = sym c.tracks_right.ensures ∙ c.if-not-tracks_right.false in
    simp (
      sym c.sizes_right.ensures ∙ c.if-not-sizes_right.false,
      sym c.parents_right.ensures ∙ c.if-not-parents_right.false,
      sym c.runs_right.ensures ∙ c.if-not-runs_right.false,
      segment_runs_kept k kept,
      durations_kept k kept,
      sym c.starts_right.ensures ∙ c.if-not-starts_right.true,
    )

pub returns : goal.returns
unfolding plain_rule track_runs_rule
returns c =
    let a = c.args in
    let k = tables a.groups.now a.tracks.now a.segments.now a.text.now in
    let kept = sym c.tracks_right.ensures ∙ c.if-not-tracks_right.false in
    simp (
      sym c.sizes_right.ensures ∙ c.if-not-sizes_right.false,
      sym c.parents_right.ensures ∙ c.if-not-parents_right.false,
      sym c.runs_right.ensures ∙ c.if-not-runs_right.false,
      segment_runs_kept k kept,
      durations_kept k kept,
      sym c.starts_right.ensures ∙ c.if-not-starts_right.false,
      placed_kept k kept,
    )
