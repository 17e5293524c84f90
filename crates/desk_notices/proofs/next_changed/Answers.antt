-- `desk_notices::next_changed`: what tells the next track is the same, or the objects are compared.
use mathlib.Core.Path.{sym, ap, ◌∙◌}
use mathlib.Core.Bool.{not}
use Rattle.player_values.specs.Values.{object_octets}
use Rattle.desk_notices.specs.Changes.{same_octets}
use Rattle.desk_notices.proofs.Differing.{same_is_equal, next_same}
use Rattle.desk_notices.proofs.next_changed.Goals as goal

pub returns-then-same_next : goal.returns-then-same_next
returns-then-same_next c =
    let a = c.args in
    let same = next_same a.groups.now a.tracks.now a.p a.q (c.same_next.ensures c.if-same_next.true) in
    sym (ap not ((same_is_equal _ _).1 (ap object_octets same)))

pub returns : goal.returns
returns c =
    c.objects_differ.ensures ∙ (λ k. not (same_octets (object_octets (c.next_now-a.ensures.0 k)) (object_octets (c.next_now-b.ensures.0 k))))
