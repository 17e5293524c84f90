-- `catalogue_objects::fill_group`: the room decides; the records of the tracks are laid directly behind those of the children.
use mathlib.Core.Path.{◌≡◌, sym, ap, ◌∙◌}
use mathlib.Core.List.{List, ◌++◌, map}
use Prim.Native.Nat.{ℕ, ◌+◌, ◌*◌, ◌<◌, ◌≤◌}
use native.Mathlib.Omega.{arith}
use lib.ListN.{length, length-append}
use Rattle.ground.specs.Lists.{filled, laid, span}
use Rattle.ground.proofs.Laying.{laid_front, turn}
use Rattle.catalogue_tables.specs.Tables.{first_track_of, tracks_in}
use Rattle.catalogue_objects.specs.Entries.{group_member, track_member, children_of, tracks_of, members_of, member_octets}
use Rattle.catalogue_objects.specs.Objects.{group_octets}
use Rattle.catalogue_objects.proofs.Answers.{no_room, has_room}
use Rattle.catalogue_objects.proofs.Left.{members_octets}
use Rattle.catalogue_objects.proofs.Octets.{all_append, members_long}
use Rattle.catalogue_objects.proofs.Spans.{span_long}
use Rattle.catalogue_objects.proofs.fill_group.Goals as goal

-- the octets of the children's records, and those of the tracks'
module _ (groups : List ℕ) (g : ℕ) where
  abbrev of_children : List ℕ
  of_children = members_octets group_member (children_of groups g)

  abbrev of_tracks : List ℕ
  of_tracks = members_octets track_member (span (first_track_of groups g) (tracks_in groups g))

  both : group_octets groups g ≡ of_children ++ of_tracks
  unfolding group_octets members_of tracks_of
  both = all_append member_octets (map group_member (children_of groups g)) (map track_member (span (first_track_of groups g) (tracks_in groups g)))

  children_long : length of_children ≡ length (children_of groups g) * 7
  children_long = members_long group_member (children_of groups g)

  tracks_long : length of_tracks ≡ tracks_in groups g * 7
  tracks_long =
      let tracks = span (first_track_of groups g) (tracks_in groups g) in
      omega (arith, members_long track_member tracks, span_long (first_track_of groups g) (tracks_in groups g))

  all_long : length (group_octets groups g) ≡ length (children_of groups g) * 7 + tracks_in groups g * 7
  all_long = omega (arith, ap length both, length-append of_children of_tracks, children_long, tracks_long)

pub returns-then-out-n-clause-result_value : goal.returns-then-out-n-clause-result_value
returns-then-out-n-clause-result_value c =
    let all = group_octets c.args.groups.now c.args.g.0 in
    let short : length c.args.out.now < length all =
    omega (arith, all_long c.args.groups.now c.args.g.0, c.count_children-children.ensures.0, c.tracks_in-count.ensures, c.wide_word.ensures.0, c.if-out-n.true) in
    no_room all _ short _ c.from.ensures

pub returns-clause-result_value : goal.returns-clause-result_value
returns-clause-result_value c =
    let all = group_octets c.args.groups.now c.args.g.0 in
    let long : c.count_children-children.result * 7 + c.wide_word.result * 7 ≡ length all =
    omega (arith, all_long c.args.groups.now c.args.g.0, c.count_children-children.ensures.0, c.tracks_in-count.ensures, c.wide_word.ensures.0) in
    let fits : length all ≤ length c.args.out.now = omega (arith, long, c.if-out-n.false) in
    has_room all _ _ long fits

pub returns-clause-out_after : goal.returns-clause-out_after
returns-clause-out_after c =
    let groups = c.args.groups.now in
    let g = c.args.g.0 in
    let old = c.args.out.now in
    let at = c.count_children-children.result * 7 in
    let children : at ≡ 0 + length (of_children groups g) = omega (arith, children_long groups g, c.count_children-children.ensures.0) in
    let room : at + length (of_tracks groups g) ≤ length old =
    omega (arith, tracks_long groups g, c.tracks_in-count.ensures, c.wide_word.ensures.0, c.if-out-n.false) in
    let tracks = c.put_tracks.ensures ∙ (λ i. laid c.put_children.new.out at (members_octets track_member (span (c.first_track-first.ensures i) (c.tracks_in-count.ensures i)))) in
    turn old 0 (of_children groups g) (of_tracks groups g) c.put_children.new.out c.put_tracks.new.out at (c.put_children.ensures ∙ sym (laid_front old (of_children groups g))) tracks children room
    ∙ laid_front old _
    ∙ ap (λ (s : List ℕ). filled s old) (sym (both groups g))
