-- `catalogue_rules::tracks_right`: after i turns, the three rules of the first i tracks.
use mathlib.Core.Path.{◌≡◌}
use mathlib.Core.Bool.{◌||◌}
use lib.Dec.{leb}
use Rattle.ground.specs.Limits.{most_duration}
use Rattle.ground.specs.Lists.{all_below}
use Rattle.catalogue_tables.specs.Tables.{duration_of, is_running, first_segment_of, segments_in, title_offset_of, title_length_of}
use Rattle.catalogue_rules.specs.Rules.{title_placed}
use Rattle.catalogue_rules.proofs.Runs.{Following}
use Rattle.catalogue_rules.proofs.tracks_right.Given as goal

abbrev pub invariant-loop-i : goal.invariant-loop-i
invariant-loop-i l =
    Following (first_segment_of l.tracks) (segments_in l.tracks) l.n l.following l.sum l.i
    × ((l.known ≡ all_below l.i (λ t. leb (duration_of l.tracks t) most_duration || is_running l.tracks t))
    × (l.placed ≡ all_below l.i (λ t. title_placed (title_offset_of l.tracks t) (title_length_of l.tracks t) l.text)))
