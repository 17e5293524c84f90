-- `desk_notices::segments_changed`: the objects are compared, each as its octets.
use mathlib.Core.Path.{◌∙◌}
use mathlib.Core.Bool.{not}
use Rattle.player_values.specs.Values.{object_octets}
use Rattle.desk_notices.specs.Changes.{same_octets}
use Rattle.desk_notices.proofs.segments_changed.Goals as goal

pub returns : goal.returns
returns c =
    c.objects_differ.ensures ∙ (λ k. not (same_octets (object_octets (c.segments_now-a.ensures.0 k)) (object_octets (c.segments_now-b.ensures.0 k))))
