-- What a call changes (SCOPE 18.1): the value before the call and the value after it differ.
-- Assumes nothing.
use Rattle.std.specs.Prelude.{◌≡◌, Bool, not, List, ℕ, ◌+◌, eqb, bytes_eq}
use Rattle.ground.specs.Cases.{pick}
use Rattle.player_state.specs.declared.Player.{Player}
use Rattle.player_state.specs.Player.{is_active}
use Rattle.player_values.specs.Values.{Source, value_of}

-- two values, octet by octet
unfoldable pub same_octets : List ℕ → List ℕ → Bool
same_octets a b = bytes_eq a b

-- what tells the next track is the same of two players
pub record SameNext (p q : Player) : Type 0 where
  pub active : is_active p ≡ is_active q
  pub order : p.mode.order ≡ q.mode.order
  pub group : p.place.group.0 ≡ q.place.group.0
  pub track : p.place.track.0 ≡ q.place.track.0
  pub upcoming : p.upcoming ≡ q.upcoming

-- the value of a characteristic differs between the players p and q. SCOPE 18.8: "An equal title on another track is no change of 5."
unfoldable pub changed : Source → Player → Player → ℕ → Bool
changed from p q c = not (same_octets (value_of from p c) (value_of from q c))

-- 0 where no track is current, else its number and one
unfoldable pub track_number : Player → ℕ
track_number p = pick (is_active p) (p.place.track.0 + 1) 0

-- SCOPE 18.2: "the track number changes, to none and from none too"
unfoldable pub track_changed : Player → Player → Bool
track_changed p q = not (eqb (track_number p) (track_number q))
