-- Where the parts of a state lie among its octets (SCOPE 17.17), numbers little endian (SCOPE 2.1).
-- Assumes nothing.
use Rattle.std.specs.Prelude.{◌≡◌, Bool, not, ◌&&◌, List, [], ◌∷◌, ◌++◌, ℕ, zero, suc, ◌+◌, ◌*◌, ◌/◌, ◌%◌, eqb, leb, length, get_or}
use mir.Val.{bool_byte}
use Rattle.ground.specs.Cases.{pick}
use Rattle.ground.specs.Lists.{part}
use Rattle.ground.specs.Words.{word_at}
use Rattle.player_state.specs.declared.Player.{Player}
use Rattle.desk_slots.specs.Slots.{service_count, client_count}
use Rattle.desk_client.specs.declared.Entry.{Entry}
use Rattle.desk_client.specs.declared.Link.{Link}
use Rattle.desk_client.specs.declared.Account.{Account}
use Rattle.desk_client.specs.Client.{blank_entry}
use Rattle.desk_state.specs.declared.Service.{Service}
use Rattle.desk_state.specs.declared.Desk.{Desk}

-- an octet that says yes or no is 1 or 0 (SCOPE 20.5)
abbrev pub bit_of : Bool → ℕ
bit_of b = bool_byte b

abbrev pub is_bit : ℕ → Bool
is_bit x = leb x 1

abbrev pub flag : ℕ → Bool
flag x = not (eqb x 0)

-- the octets of a number of four, and of eight, before the octets r
abbrev pub word_then : ℕ → List ℕ → List ℕ
word_then x r = x % 256 ∷ x / 256 % 256 ∷ x / 65536 % 256 ∷ x / 16777216 ∷ r

abbrev pub wide_then : ℕ → List ℕ → List ℕ
wide_then x r = x % 256 ∷ x / 256 % 256 ∷ x / 65536 % 256 ∷ x / 16777216 % 256 ∷ x / 4294967296 % 256 ∷ x / 1099511627776 % 256 ∷ x / 281474976710656 % 256 ∷ x / 72057594037927936 ∷ r

abbrev pub wide_at : List ℕ → ℕ → ℕ
wide_at s at = word_at s at + word_at s (at + 4) * 4294967296

-- n parts of one kind, each so many octets, the first at the place at; their octets, one behind the other
abbrev pub each_from : {A : Type 0} → (List ℕ → A) → ℕ → List ℕ → ℕ → ℕ → List A
each_from read size s at zero = []
each_from read size s at (suc n) = read (part s at (at + size)) ∷ each_from read size s (at + size) n

abbrev pub each_octets : {A : Type 0} → (A → List ℕ) → List A → List ℕ
each_octets write [] = []
each_octets write (x ∷ xs) = write x ++ each_octets write xs

-- what is written of a part is so many octets, and the part is read out of them again
pub record Kept {A : Type 0} (read : List ℕ → A) (write : A → List ℕ) (size : ℕ) (x : A) : Type 0 where
  pub long : length (write x) ≡ size
  pub back : read (write x) ≡ x

-- SCOPE 17.17: "The first octet names the layout, 0x80 + 4." A state of layout 1 began with its player's name, and no UTF-8 text begins with an octet from 0x80
-- to 0xBF.
abbrev pub layout : ℕ
layout = 132

-- the turn of a state of another layout: there is no such client, so that 201 refuses the state and it is not misread
abbrev pub no_turn : ℕ
no_turn = client_count

-- 0 the layout, 1 the turn
unfoldable pub turn_from : List ℕ → ℕ
turn_from s = pick (eqb (get_or s 0 0) layout) (word_at s 1) no_turn

unfoldable pub turn_octets : ℕ → List ℕ
turn_octets turn = layout ∷ word_then turn []

-- the ATT_MTU of a link; where a yes-or-no octet of it is neither 0 nor 1 it is 0, which no link may have, so that 201 refuses the state
unfoldable pub mtu_from : List ℕ → ℕ
mtu_from s = pick (is_bit (get_or s 0 0) && is_bit (get_or s 1 0)) (word_at s 2) 0

-- a link, of 10 octets: 0 connected, 1 encrypted, 2 ATT_MTU, 6 round mark
unfoldable pub link_from : List ℕ → Link
link_from s = record { connected = flag (get_or s 0 0); encrypted = flag (get_or s 1 0); mtu = mtu_from s; mark = word_at s 6 }

unfoldable pub link_octets : Link → List ℕ
link_octets l = bit_of l.connected ∷ bit_of l.encrypted ∷ word_then l.mtu (word_then l.mark [])

-- n results, the first at the place at; the octets of the results i, i + 1, .., n of them
abbrev pub entries_at : List ℕ → ℕ → ℕ → List Entry
entries_at s at zero = []
entries_at s at (suc n) = record { opcode = get_or s at 0; code = get_or s (at + 1) 0 } ∷ entries_at s (at + 2) n

abbrev pub entry_octets : List Entry → ℕ → ℕ → List ℕ
entry_octets rs i zero = []
entry_octets rs i (suc n) = (get_or rs i blank_entry).opcode ∷ (get_or rs i blank_entry).code ∷ entry_octets rs (suc i) n

-- an account, of 36 octets: 0 subscribed, 4 owed, 8 changed marks, 12 number of results, 20 results
unfoldable pub account_from : List ℕ → Account
account_from s =
    record { subscribed = word_at s 0; owed = word_at s 4; fresh = word_at s 8; waiting = wide_at s 12; results = entries_at s 20 8 }

unfoldable pub account_octets : Account → List ℕ
account_octets a =
    word_then a.subscribed (word_then a.owed (word_then a.fresh (wide_then a.waiting (entry_octets a.results 0 8))))

-- a player, of its name's octets and the 30 behind them: 0 the name's length, 1 Content Control ID, 2 state, 3 order, 4 playback speed, 5 seeking speed,
-- 6 the mask, 10 group, 14 track, 18 position, 22 the named next track, 26 the rest of the clock; and those 30
unfoldable pub player_from : List ℕ → List ℕ → Player
player_from name s =
    record {
      name = record { octets = name; len = get_or s 0 0 };
      offer = record { mask = word_at s 6; ccid = get_or s 1 0 };
      mode = record { media = get_or s 2 0; order = get_or s 3 0; speed = get_or s 4 0; seeking = get_or s 5 0 };
      place = record { group = record { 0 = word_at s 10 }; track = record { 0 = word_at s 14 }; position = record { 0 = word_at s 18 }; rest = word_at s 26 };
      upcoming = word_at s 22;
    }

unfoldable pub player_octets : Player → List ℕ
player_octets p =
    p.name.len
    ∷ p.offer.ccid
    ∷ p.mode.media
    ∷ p.mode.order
    ∷ p.mode.speed
    ∷ p.mode.seeking
    ∷ word_then p.offer.mask (word_then p.place.group.0 (word_then p.place.track.0 (word_then p.place.position.0 (word_then p.upcoming (word_then p.place.rest [])))))

-- a service, of 302 octets: 0 the name's octets, 128 the player's other parts, 158 the accounts of the clients
unfoldable pub service_from : List ℕ → Service
service_from s = record { player = player_from (part s 0 128) (part s 128 158); accounts = each_from account_from 36 s 158 client_count }

unfoldable pub service_octets : Service → List ℕ
service_octets v = v.player.name.octets ++ player_octets v.player ++ each_octets account_octets v.accounts

-- the state, of 649 octets or more: 0 the layout and the turn, 5 the links, 45 the services
unfoldable pub desk_of : List ℕ → Desk
desk_of s =
    record {
      services = each_from service_from 302 s 45 service_count;
      links = each_from link_from 10 s 5 client_count;
      turn = turn_from (part s 0 5);
    }

unfoldable pub desk_octets : Desk → List ℕ
desk_octets d = turn_octets d.turn ++ each_octets link_octets d.links ++ each_octets service_octets d.services
