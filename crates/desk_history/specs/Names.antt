-- The track that is named to come next. SCOPE 14.5: "Next Track and the end of a track go to the named track once". SCOPE 14.6: "A call that ends on another
-- track or group than it began on drops the name". SCOPE 14.7: "The name stays through everything else"
-- Assumes nothing.
use Rattle.std.specs.Prelude.{◌≡◌, Bool, true, false, not, ◌&&◌, ◌||◌, ℕ, eqb}
use Rattle.catalogue_titles.specs.Lent.{Lent}
use Rattle.player_opcodes.specs.Opcodes.{action_of}
use Rattle.player_state.specs.declared.Player.{Player}
use Rattle.player_state.specs.Player.{playing, place_at, is_on}
use Rattle.player_moves.specs.Moves.{running_now}
use Rattle.player_moves.specs.Control.{is_next_track}
use Rattle.player_moves.specs.Clock.{stays_below}
use Rattle.desk_exchange.specs.Write.{first_octet, number_of}
use Rattle.desk_history.specs.Calls.{Call, set_name, activate, deactivate, advance, connect, disconnect, subscribe, unsubscribe, read, write, take}

-- a step of time reaches the end of a track in Playing; a running recording has none
abbrev pub ends_track : Lent → ℕ → Player → Bool
ends_track k step p = eqb p.mode.media playing && not (stays_below k.tracks step p) && not (running_now k.tracks p)

-- a call to the service of this player that may set, use or drop the name and yet end on the track on which it began: Deactivate, a write of 12, Next Track,
-- the end of a track
abbrev pub may_touch_name : Lent → Call → Player → Bool
may_touch_name k (set_name v name) p = false
may_touch_name k (activate v g) p = false
may_touch_name k (deactivate v) p = true
may_touch_name k (advance v step) p = ends_track k step p
may_touch_name k (connect who mtu encrypted) p = false
may_touch_name k (disconnect who) p = false
may_touch_name k (subscribe who v c) p = false
may_touch_name k (unsubscribe who v c) p = false
may_touch_name k (read who v c offset room) p = false
may_touch_name k (write who v c value) p = eqb c 12 || (eqb c 18 && is_next_track (action_of (first_octet value) (number_of value)))
may_touch_name k (take room) p = false

-- a call that finds the player p and leaves q ends on the track of the group on which it began
abbrev pub ends_here : Player → Player → Bool
ends_here p q = is_on q.place.group.0 q.place.track.0 p

-- it uses the name of the track t: it ends at the beginning of t in the same group, and no track is named any more
pub record UsesName (t : ℕ) (p q : Player) : Type 0 where
  pub place : q.place ≡ place_at p.place.group.0 t 0
  pub upcoming : q.upcoming ≡ 0
