-- Where moves lead: along the segments (SCOPE 10), along the tracks in their order (SCOPE 11), along the groups (SCOPE 12), and to a named track (SCOPE 14.5).
-- Assumes nothing.
use Rattle.std.specs.Prelude.{Bool, false, List, ℕ, zero, suc, ◌+◌, ◌<◌, ◌≤◌, length, Option, Some, None}
use Rattle.ground.specs.Cases.{pick}
use Rattle.ground.specs.Limits.{most_groups, most_tracks}
use Rattle.catalogue_tables.specs.Tables.{group_count, track_count, first_track_of, tracks_in, is_running, end_of, starts_of}
use Rattle.player_walk.specs.Steps.{first_of, move_in}
use Rattle.player_walk.specs.declared.Step.{Step}
use Rattle.player_walk.specs.declared.Step.TheVariants.{Next}
use Rattle.player_orders.specs.Order.{tracks_in_order, repeats, Run, InRun}
use Rattle.player_groups.specs.Family.{siblings}
use Rattle.player_segments.specs.Segments.{segment_move, Rising, Below}
use Rattle.player_state.specs.declared.Player.{Player}

-- D of the current track (SCOPE 4.9)
abbrev pub end_now : List ℕ → Player → ℕ
end_now tracks p = end_of tracks p.place.track.0

-- the current track is a recording that is still running (SCOPE 4.8)
abbrev pub running_now : List ℕ → Player → Bool
running_now tracks p = is_running tracks p.place.track.0

-- What Next Segment leads to past the last start: D. SCOPE 10.4: "While the recording is still running, Next Segment with no later start gives result 4", so
-- that it leads nowhere then.
abbrev pub past_last : List ℕ → ℕ → Option ℕ
past_last tracks t = pick (is_running tracks t) None (Some (end_of tracks t))

-- where a segment move leads (SCOPE 10)
unfoldable pub segment_after : List ℕ → List ℕ → Step → Player → Option ℕ
segment_after tracks segments step p =
    segment_move step (starts_of tracks segments p.place.track.0) (past_last tracks p.place.track.0) p.place.position.0

-- a group's tracks in an order, where t is the current one (SCOPE 11.1)
abbrev pub in_order : List ℕ → List ℕ → ℕ → ℕ → ℕ → List ℕ
in_order groups tracks order g t = tracks_in_order order tracks (first_track_of groups g) (tracks_in groups g) t

-- where a track move leads by the order alone (SCOPE 11.5, 11.6)
unfoldable pub track_after : List ℕ → List ℕ → Step → Player → Option ℕ
track_after groups tracks step p =
    move_in step (repeats p.mode.order) (in_order groups tracks p.mode.order p.place.group.0 p.place.track.0) p.place.track.0

-- where a group move leads. SCOPE 12.2: "No group move repeats".
unfoldable pub group_after : List ℕ → Step → Player → Option ℕ
group_after groups step p = move_in step false (siblings groups p.place.group.0) p.place.group.0

-- SCOPE 14.5: "Next Track and the end of a track go to the named track once: whatever the order". Where no track is named, they go by the order.
abbrev pub named : ℕ → Option ℕ
named zero = None
named (suc t) = Some t

abbrev pub or_in_order : Option ℕ → Option ℕ → Option ℕ
or_in_order (Some t) next = Some t
or_in_order None next = next

unfoldable pub next_track : List ℕ → List ℕ → Player → Option ℕ
next_track groups tracks p = or_in_order (named p.upcoming) (track_after groups tracks Next p)

-- SCOPE 11.4: "A group's first track, when the group is activated or moved to, is the first in the order. In orders 1 and 2 it is the group's lowest track."
unfoldable pub entry_of : List ℕ → List ℕ → ℕ → ℕ → Option ℕ
entry_of groups tracks order g = first_of (in_order groups tracks order g (first_track_of groups g))

-- what the player needs of a right catalogue (SCOPE 4)
pub record Shaped (groups tracks segments : List ℕ) : Type 0 where
  pub few_groups : group_count groups ≤ most_groups
  pub few_tracks : track_count tracks ≤ most_tracks
  pub runs : (g : ℕ) → g < group_count groups → first_track_of groups g + tracks_in groups g ≤ track_count tracks
  pub rising : (t : ℕ) → t < track_count tracks → Rising (starts_of tracks segments t)
  pub below : (t : ℕ) → t < track_count tracks → Below (starts_of tracks segments t) (end_of tracks t)

-- the current track lies in the run of the current group, and that run lies in the tracks
abbrev pub Seated : List ℕ → List ℕ → Player → Type 0
Seated groups tracks p =
    InRun (length tracks) (first_track_of groups p.place.group.0) (tracks_in groups p.place.group.0) p.place.track.0

-- so it does where there is a current track
abbrev pub Sits : List ℕ → List ℕ → Player → Type 0
Sits groups tracks p = 0 < p.mode.media → Seated groups tracks p

-- the run of a group lies in the tracks
abbrev pub RunOf : List ℕ → List ℕ → ℕ → Type 0
RunOf groups tracks g = Run (length tracks) (first_track_of groups g) (tracks_in groups g)
