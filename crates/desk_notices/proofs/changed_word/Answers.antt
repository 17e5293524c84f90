-- `desk_notices::changed_word`: each bit is put for the characteristic whose value differs, from the last to the first.
use mathlib.Core.Path.{sym, ◌∙◌}
use Rattle.player_values.specs.Values.{source}
use Rattle.player_values.proofs.Laws.{values}
use Rattle.desk_notices.specs.Changes.{changed}
use Rattle.desk_notices.proofs.Differing.{changed_not, by_values, gathered, gathers_none, gathers_bit, gathers_past}
use borrow.Author.Rules.{rules}
use Rattle.desk_notices.proofs.changed_word.Goals as goal

pub returns : goal.returns
returns c =
    let a = c.args in
    let from = source a.groups.now a.tracks.now a.text.now a.renames.now a.office.now in
    let f = changed from a.p a.q in
    let x = values from a.p in
    let y = values from a.q in
    let g22 = gathers_bit f 22 (gathers_none f) (c.octets_differ-ccid.ensures ∙ by_values from a.p a.q 22 x.ccid y.ccid) c.with_if-w22.ensures in
    let g19 = gathers_bit f 19 g22 (c.words_differ-opcodes.ensures ∙ by_values from a.p a.q 19 x.opcodes y.opcodes) c.with_if-w19.ensures in
    let g17 = gathers_bit f 17 g19 (c.octets_differ-media.ensures ∙ by_values from a.p a.q 17 x.media y.media) c.with_if-w17.ensures in
    let g16 = gathers_past f 16 g17 ((changed_not from a.p a.q 16).1 (x.orders ∙ sym y.orders)) in
    let g15 = gathers_bit f 15 g16 (c.octets_differ-order.ensures ∙ by_values from a.p a.q 15 x.order y.order) c.with_if-w15.ensures in
    let g14 = gathers_bit f 14 g15 (c.group_changed-group.ensures ∙ by_values from a.p a.q 14 x.group_object_lem y.group_object_lem) c.with_if-w14.ensures in
    let g13 = gathers_bit f 13 g14 (c.parent_changed-parent.ensures ∙ by_values from a.p a.q 13 x.parent_object y.parent_object) c.with_if-w13.ensures in
    let g12 = gathers_bit f 12 g13 (c.next_changed-next.ensures ∙ by_values from a.p a.q 12 x.next_object y.next_object) c.with_if-w12.ensures in
    let g11 = gathers_bit f 11 g12 (c.current_changed-current.ensures ∙ by_values from a.p a.q 11 x.track_object_lem y.track_object_lem) c.with_if-w11.ensures in
    let g10 = gathers_bit f 10 g11 (c.segments_changed-segments.ensures ∙ by_values from a.p a.q 10 x.segments_object_lem y.segments_object_lem) c.with_if-w10.ensures in
    let g9 = gathers_bit f 9 g10 (c.octets_differ-seeking.ensures ∙ by_values from a.p a.q 9 x.seeking y.seeking) c.with_if-w9.ensures in
    let g8 = gathers_bit f 8 g9 (c.octets_differ-speed.ensures ∙ by_values from a.p a.q 8 x.speed y.speed) c.with_if-w8.ensures in
    let g7 = gathers_bit f 7 g8 (c.position_changed-position.ensures ∙ by_values from a.p a.q 7 x.position y.position) c.with_if-w7.ensures in
    let g6 = gathers_bit f 6 g7 (c.duration_changed-duration.ensures ∙ by_values from a.p a.q 6 x.duration y.duration) c.with_if-w6.ensures in
    let g5 = gathers_bit f 5 g6 (c.title_changed-title.ensures ∙ by_values from a.p a.q 5 x.title y.title) c.with_if-w5.ensures in
    gathered from a.p a.q _ (search rules) (gathers_bit f 1 g5 (c.name_changed-name.ensures ∙ by_values from a.p a.q 1 x.name y.name) c.with_if.ensures)
