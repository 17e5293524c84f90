-- What the moves ask for follows from a shaped catalogue and a state that stands in it; and a right catalogue is shaped (`Shaped` of `specs/Moves.antt`).
-- Assumes nothing.
use mathlib.Core.Path.{◌≡◌}
use mathlib.Core.Bool.{true}
use mathlib.Core.List.{List}
use Prim.Native.Nat.{ℕ, ◌<◌}
use native.Mathlib.Omega.{arith}
use Rattle.catalogue_tables.specs.Tables.{Tables, group_count, track_count, end_of, starts_of}
use Rattle.catalogue_check.specs.Catalogue.{Right}
use Rattle.catalogue_check.proofs.Laws.{few_groups, few_tracks, track_run_inside, starts_begin, starts_rise, starts_below}
use Rattle.player_groups.specs.Family.{Current}
use Rattle.player_segments.specs.Segments.{Rising, Below}
use Rattle.player_state.specs.declared.Player.{Player}
use Rattle.player_check.specs.Standing.{player_rule}
use Rattle.player_check.proofs.Laws as stands
use Rattle.player_moves.specs.Moves.{Shaped, Seated, RunOf}

pub shaped : (k : Tables) → Right k → Shaped k.groups k.tracks k.segments
shaped k right =
    record {
      few_groups = few_groups k right;
      few_tracks = few_tracks k right;
      runs = track_run_inside k right;
      rising = λ t h. record { begin = starts_begin k right t h; rise = starts_rise k right t h };
      below = starts_below k right;
    }

module _ (groups tracks segments : List ℕ) (s : Shaped groups tracks segments) where
  pub run_of : (g : ℕ) → g < group_count groups → RunOf groups tracks g
  run_of g h = record { small = omega (arith, s.runs g h, s.few_tracks); inside = omega (arith, s.runs g h) }

  pub current_run : (g : ℕ) → Current groups g → RunOf groups tracks g
  current_run g c = run_of g c.there

  module _ (p : Player) (right : player_rule groups tracks p ≡ true) (active : 0 < p.mode.media) where
    there : p.place.group.0 < group_count groups
    there = stands.group_exists groups tracks p right active

    pub seated : Seated groups tracks p
    seated =
        record {
          small = (run_of p.place.group.0 there).small;
          inside = (run_of p.place.group.0 there).inside;
          low = stands.track_from groups tracks p right active;
          high = stands.track_to groups tracks p right active;
        }

    pub current : Current groups p.place.group.0
    current =
        record {
          few = s.few_groups;
          there = there;
          used = omega (arith, stands.track_from groups tracks p right active, stands.track_to groups tracks p right active);
        }

    pub track_there : p.place.track.0 < track_count tracks
    track_there = omega (arith, stands.track_to groups tracks p right active, s.runs p.place.group.0 there)

    pub rising_now : Rising (starts_of tracks segments p.place.track.0)
    rising_now = s.rising p.place.track.0 track_there

    pub below_now : Below (starts_of tracks segments p.place.track.0) (end_of tracks p.place.track.0)
    below_now = s.below p.place.track.0 track_there
