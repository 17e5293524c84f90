-- A part of a state that is written back: what it needs of the octets, and what it leaves. Assumes nothing.
use Rattle.std.specs.Prelude.{◌≡◌, List, ◌++◌, ℕ, ◌<◌, get_or, drop, set}
use Rattle.desk_client.specs.declared.Link.{Link}
use Rattle.desk_state.specs.declared.Desk.{Desk}
use Rattle.mcs_state.specs.Codec.{desk_of, desk_octets}

-- each is an octet
abbrev pub Octets : List ℕ → Type 0
Octets s = (i : ℕ) → get_or s i 0 < 256

-- the octets are those that their state is written as
abbrev pub Plain : List ℕ → Type 0
Plain s = desk_octets (desk_of s) ++ drop 649 s ≡ s

-- the octets of a state before what was behind them, and the state that they are
pub record Stored (d : Desk) (old new : List ℕ) : Type 0 where
  pub octets : new ≡ desk_octets d ++ drop 649 old
  pub state : desk_of new ≡ d

-- one client's link is another; another client was served last
abbrev pub with_link : ℕ → Link → Desk → Desk
with_link who l d = record { services = d.services; links = set d.links who l; turn = d.turn }

abbrev pub with_turn : ℕ → Desk → Desk
with_turn who d = record { services = d.services; links = d.links; turn = who }
