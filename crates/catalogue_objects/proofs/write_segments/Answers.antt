-- `catalogue_objects::write_segments`: 200 is the check's; behind it the track is there and has segments or not, and the room decides.
use mathlib.Core.Path.{◌≡◌, refl, sym, ap, ◌∙◌}
use mathlib.Core.Bool.{◌&&◌}
use mathlib.Core.List.{List}
use Prim.Native.Nat.{ℕ, ◌≤◌}
use native.Mathlib.Omega.{arith}
use lib.Dec.{ltb}
use lib.ListN.{length, length-take, length-drop}
use Rattle.ground.specs.Refusals.{count_said}
use Rattle.ground.specs.Lists.{table_after}
use Rattle.catalogue_tables.specs.Tables.{starts_of, track_count, segments_in}
use Rattle.catalogue_check.proofs.Laws.{few_segments}
use Rattle.catalogue_objects.specs.Entries.{labels_of}
use Rattle.catalogue_objects.specs.Objects.{segments_octets}
use Rattle.ground.proofs.Passed.{passed_on}
use Rattle.catalogue_objects.proofs.Answers.{room_said, says_catalogue, says_absent, says_room}
use Rattle.catalogue_objects.proofs.Left.{labels_octets}
use Rattle.catalogue_objects.proofs.write_segments.Goals as goal

part_of : (tracks segments : List ℕ) (t : ℕ) → length (starts_of tracks segments t) ≤ length segments
unfolding starts_of
part_of tracks segments t = simp (length-take, length-drop) (omega arith)

-- what the code asks
asked : (tracks : List ℕ) (t : ℕ) {wide count own : ℕ} → wide ≡ t → count ≡ track_count tracks → own ≡ segments_in tracks t
    → (ltb t (track_count tracks) && ltb 0 (segments_in tracks t)) ≡ (ltb wide count && ltb 0 own)
asked tracks t w n s = λ i. ltb (sym w i) (sym n i) && ltb 0 (sym s i)

pub returns-then-not-there-cut-clause-result_value : goal.returns-then-not-there-cut-clause-result_value
returns-then-not-there-cut-clause-result_value c =
    says_absent _ _ _ _ (sym c.in_ok-check.ensures) (asked _ _ c.wide_word.ensures.0 c.track_count.ensures c.segments_in-cut.ensures ∙ c.if-not-there-cut.true) _ c.from.ensures

pub fill_segments-requires : goal.fill_segments-requires
fill_segments-requires c =
    let a = c.args in
    omega (arith, ap length c.starts-starts.ensures, part_of a.tracks.now a.segments.now a.t.0, few_segments _ (sym c.in_ok-check.ensures))

pub returns-in_err-check-clause-result_value : goal.returns-in_err-check-clause-result_value
returns-in_err-check-clause-result_value c =
    passed_on _ _ _ c.from_residual.ensures.1 (says_catalogue _ _ _ _ _ c.in_err-check.ensures refl)

pub returns-clause-result_value : goal.returns-clause-result_value
unfolding labels_of segments_octets
returns-clause-result_value c =
    let said = c.fill_segments.ensures.result_value ∙ (λ i. room_said (labels_octets (c.starts-starts.ensures i)) (length c.args.out.now)) in
    says_room _ _ _ _ (sym c.in_ok-check.ensures) (asked _ _ c.wide_word.ensures.0 c.track_count.ensures c.segments_in-cut.ensures ∙ c.if-not-there-cut.false) _ said

pub returns-clause-out_after : goal.returns-clause-out_after
unfolding labels_of segments_octets
returns-clause-out_after c =
    c.fill_segments.ensures.out_after ∙ (λ i. table_after (count_said c.fill_segments.result) (labels_octets (c.starts-starts.ensures i)) c.args.out.now)
