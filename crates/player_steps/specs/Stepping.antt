-- The five moves along a group's tracks, along groups and along a track's segments, each made from where the last step led (SCOPE 15.1); and the outcomes of
-- the functions as plain numbers.
-- Assumes nothing.
use Rattle.std.specs.Prelude.{false, List, ℕ, Option}
use Rattle.catalogue_tables.specs.declared.TrackNo.{TrackNo}
use Rattle.catalogue_tables.specs.declared.GroupNo.{GroupNo}
use Rattle.catalogue_tables.specs.declared.Position.{Position}
use Rattle.player_walk.specs.Steps.{move_in}
use Rattle.player_walk.specs.declared.Step.{Step}
use Rattle.player_manual.specs.declared.Made.{Made}
use Rattle.player_manual.specs.Made.{numbered}
use Rattle.player_orders.specs.Order.{repeats, tracks_in_order}
use Rattle.player_groups.specs.Family.{siblings}
use Rattle.player_segments.specs.Segments.{segment_move}

-- From a track t of a group's run. In orders 1 and 2 the list is t alone (SCOPE 11.1).
abbrev pub along_tracks : ℕ → List ℕ → ℕ → ℕ → Step → ℕ → Option ℕ
along_tracks order tracks first count step t = move_in step (repeats order) (tracks_in_order order tracks first count t) t

-- from a group, over the groups that a move from it runs over (SCOPE 12.1)
abbrev pub along_groups : List ℕ → Step → ℕ → Option ℕ
along_groups groups step g = move_in step false (siblings groups g) g

-- from a position of a track (SCOPE 10)
abbrev pub along_segments : List ℕ → Option ℕ → Step → ℕ → Option ℕ
along_segments starts past step position = segment_move step starts past position

-- outcomes, as plain numbers
abbrev pub tracks_made : Made TrackNo → Made ℕ
tracks_made = numbered (λ t. t.0)

abbrev pub groups_made : Made GroupNo → Made ℕ
groups_made = numbered (λ g. g.0)

abbrev pub segments_made : Made Position → Made ℕ
segments_made = numbered (λ x. x.0)
