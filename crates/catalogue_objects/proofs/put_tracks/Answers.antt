-- `catalogue_objects::put_tracks`: the records of the first i tracks are laid, and the others are left.
use mathlib.Core.Path.{◌≡◌, ap, ◌∙◌}
use Prim.Native.Nat.{ℕ, ◌+◌, ◌*◌}
use native.Mathlib.Omega.{arith}
use Rattle.ground.specs.Lists.{span, laid}
use Rattle.catalogue_objects.specs.Entries.{track_member, member_octets}
use Rattle.catalogue_objects.proofs.Octets.{member_long, members_long}
use Rattle.catalogue_objects.proofs.Left.{tracks_left, tracks_all, tracks_next, tracks_none}
use Rattle.catalogue_objects.proofs.Pieces.{pieces_start, pieces_end, pieces_go}
use Rattle.catalogue_objects.proofs.Spans.{span_long}
use Rattle.catalogue_objects.proofs.put_tracks.Goals as goal

pub loop-i-init : goal.loop-i-init
loop-i-init c =
    let a = c.args in
    pieces_start a.out.now a.at (tracks_all a.first a.count)
    (omega (arith, members_long track_member (span a.first a.count), span_long a.first a.count, c.requires.count_in_bounds))

pub loop-i-preserved : goal.loop-i-preserved
loop-i-preserved c =
    let a = c.args in
    let i = c.loop-i.i in
    let place : a.at + c.wide_word.result * 7 ≡ a.at + i * 7 = omega (arith, c.wide_word.ensures.0) in
    let e : c.put_member.new.out ≡ laid c.loop-i.out (a.at + c.wide_word.result * 7) (member_octets (track_member (a.first + i))) =
    c.put_member.ensures ∙ ap (λ (x : ℕ). laid c.loop-i.out (a.at + c.wide_word.result * 7) (member_octets (record { kind = 0; object = x }))) c.track_object-object.ensures.0 in
    pieces_go c.loop-i.invariant (member_octets (track_member (a.first + i))) (tracks_left a.first a.count (i + 1)) (tracks_next a.first a.count i c.loop-i-test.true) c.put_member.new.out _ ((i + 1) * 7)
    place (omega (arith, member_long (track_member (a.first + i)))) e

pub returns : goal.returns
returns c =
    pieces_end c.loop-i.invariant (tracks_none c.args.first c.args.count c.loop-i.i c.loop-i-test.false)
