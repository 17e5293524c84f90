-- What is written is what is read again. Assumes nothing.
use mathlib.Core.Path.{◌≡◌, refl, ap, sym, ◌∙◌}
use mathlib.Core.List.{List, [], ◌∷◌, ◌++◌, append_assoc, append-nil}
use mathlib.Core.Bool.{Bool, true, false, ◌&&◌}
use Prim.Native.Nat.{ℕ, ◌+◌, ◌*◌, ◌/◌, ◌%◌}
use native.Mathlib.Omega.{arith}
use lib.ListN.{length, take, drop, length-append}
use lib.Seq.{take_at, drop_at}
use Rattle.ground.specs.Cases.{pick}
use Rattle.ground.specs.Lists.{part}
use Rattle.ground.specs.Words.{word_at}
use Rattle.ground.proofs.Sweep.{spelled}
use Rattle.player_state.specs.declared.Player.{Player}
use Rattle.desk_client.specs.declared.Link.{Link}
use Rattle.desk_client.specs.declared.Account.{Account}
use Rattle.desk_client.specs.Client.{blank_entry}
use Rattle.desk_state.specs.declared.Service.{Service}
use Rattle.desk_state.specs.declared.Desk.{Desk}
use Rattle.mcs_state.specs.Codec.{flag, bit_of, is_bit, each_from, each_octets, Kept, turn_from, turn_octets, mtu_from, link_from, link_octets, account_from, account_octets, player_from, player_octets, service_from, service_octets, desk_of, desk_octets}
use Rattle.mcs_state.proofs.Each.{AllKept, none, more, each_long, each_again}

flag_bit : (b : Bool) → flag (bit_of b) ≡ b
flag_bit true = refl
flag_bit false = refl

-- a number is the sum of its octets
word : (x : ℕ) → x % 256 + x / 256 % 256 * 256 + x / 65536 % 256 * 65536 + x / 16777216 * 16777216 ≡ x
word x = omega arith

low : (x : ℕ) → x % 256 + x / 256 % 256 * 256 + x / 65536 % 256 * 65536 + x / 16777216 % 256 * 16777216 ≡ x % 4294967296
low x = sym (λ i. a i + b i * 256 + c i * 65536 + d i * 16777216) ∙ word (x % 4294967296)
  where
    a : x % 4294967296 % 256 ≡ x % 256
    a = omega arith

    b : x % 4294967296 / 256 % 256 ≡ x / 256 % 256
    b = omega arith

    c : x % 4294967296 / 65536 % 256 ≡ x / 65536 % 256
    c = omega arith

    d : x % 4294967296 / 16777216 ≡ x / 16777216 % 256
    d = omega arith

high : (x : ℕ) → x / 4294967296 % 256 + x / 1099511627776 % 256 * 256 + x / 281474976710656 % 256 * 65536 + x / 72057594037927936 * 16777216 ≡ x / 4294967296
high x = sym (λ i. x / 4294967296 % 256 + b i % 256 * 256 + c i % 256 * 65536 + d i * 16777216) ∙ word (x / 4294967296)
  where
    b : x / 4294967296 / 256 ≡ x / 1099511627776
    b = omega arith

    c : x / 4294967296 / 65536 ≡ x / 281474976710656
    c = omega arith

    d : x / 4294967296 / 16777216 ≡ x / 72057594037927936
    d = omega arith

wide : (x : ℕ)
    → x % 256 + x / 256 % 256 * 256 + x / 65536 % 256 * 65536 + x / 16777216 % 256 * 16777216
    + (x / 4294967296 % 256 + x / 1099511627776 % 256 * 256 + x / 281474976710656 % 256 * 65536 + x / 72057594037927936 * 16777216) * 4294967296
    ≡ x
wide x = (λ i. low x i + high x i * 4294967296) ∙ whole
  where
    whole : x % 4294967296 + x / 4294967296 * 4294967296 ≡ x
    whole = omega arith

bit_bit : (b : Bool) → is_bit (bit_of b) ≡ true
bit_bit true = refl
bit_bit false = refl

mtu_again : (l : Link) → mtu_from (link_octets l) ≡ l.mtu
unfolding mtu_from link_octets word_at
mtu_again l =
    let x = l.mtu in
    (λ i. pick (bit_bit l.connected i && bit_bit l.encrypted i) (x % 256 + x / 256 % 256 * 256 + x / 65536 % 256 * 65536 + x / 16777216 * 16777216) 0) ∙ word x

pub link_kept : (l : Link) → Kept link_from link_octets 10 l
unfolding link_from link_octets word_at
link_kept l =
    record {
      long = refl;
      back = λ i. record { connected = flag_bit l.connected i; encrypted = flag_bit l.encrypted i; mtu = mtu_again l i; mark = word l.mark i };
    }

pub links_kept : (links : List Link) → AllKept link_from link_octets 10 links
links_kept [] = none
links_kept (l ∷ links) = more (link_kept l) (links_kept links)

pub account_kept : (a : Account) → length a.results ≡ 8 → Kept account_from account_octets 36 a
unfolding account_from account_octets word_at
account_kept a h =
    record {
      long = refl;
      back =
          λ i.
          record {
            subscribed = word a.subscribed i;
            owed = word a.owed i;
            fresh = word a.fresh i;
            waiting = wide a.waiting i;
            results = spelled blank_entry a.results 0 8 h i;
          };
    }

player_again : (p : Player) → player_from p.name.octets (player_octets p) ≡ p
unfolding player_from player_octets word_at
player_again p =
    λ i.
    record {
      name = p.name;
      offer = record { mask = word p.offer.mask i; ccid = p.offer.ccid };
      mode = p.mode;
      place =
          record {
            group = record { 0 = word p.place.group.0 i };
            track = record { 0 = word p.place.track.0 i };
            position = record { 0 = word p.place.position.0 i };
            rest = word p.place.rest i;
          };
      upcoming = word p.upcoming i;
    }

pub player_long : (p : Player) → length (player_octets p) ≡ 30
unfolding player_octets
player_long p = refl

-- a service: its arrays are as long as they are, and each account is read again
pub service_kept : (v : Service) → length v.player.name.octets ≡ 128 → length v.accounts ≡ 4 → AllKept account_from account_octets 36 v.accounts
    → Kept service_from service_octets 302 v
unfolding service_from service_octets
service_kept v name four kept =
    let n = v.player.name.octets in
    let h = player_octets v.player in
    let e = each_octets account_octets v.accounts in
    let grouped = append_assoc n h e in
    let tail : length e ≡ 144 = each_long account_from account_octets 36 kept ∙ ap (λ (k : ℕ). k * 36) four in
    let front : length (n ++ h) ≡ 158 = length-append n h ∙ (λ i. name i + player_long v.player i) in
    let named : part (n ++ h ++ e) 0 128 ≡ n = ap (take 128) grouped ∙ take_at n (h ++ e) 128 name in
    let rest : part (n ++ h ++ e) 128 158 ≡ h =
    ap (λ (l : List ℕ). take 30 (drop 128 l)) grouped ∙ ap (take 30) (drop_at n (h ++ e) 128 name) ∙ take_at h e 30 (player_long v.player) in
    let accounts : each_from account_from 36 (n ++ h ++ e) 158 4 ≡ v.accounts =
    (λ i. each_from account_from 36 (n ++ h ++ sym (append-nil e) i) 158 (sym four i)) ∙ each_again account_from account_octets 36 kept (n ++ h) [] 158 front in
    record {
      long = length-append (n ++ h) e ∙ (λ i. front i + tail i);
      back = λ i. record { player = ((λ j. player_from (named j) (rest j)) ∙ player_again v.player) i; accounts = accounts i };
    }

pub turn_long : (turn : ℕ) → length (turn_octets turn) ≡ 5
unfolding turn_octets
turn_long turn = refl

-- the state that is read out of what was written is the state
pub again : (d : Desk) (t : List ℕ) → length d.links ≡ 4 → length d.services ≡ 2 → AllKept service_from service_octets 302 d.services
    → desk_of (desk_octets d ++ t) ≡ d
unfolding desk_of desk_octets turn_from turn_octets word_at
again d t four two kept =
    let h = turn_octets d.turn in
    let l = each_octets link_octets d.links in
    let e = each_octets service_octets d.services in
    let behind = append_assoc (h ++ l) e t in
    let front : length (h ++ l) ≡ 45 =
    length-append h l ∙ ap (λ (k : ℕ). 5 + k) (each_long link_from link_octets 10 (links_kept d.links) ∙ ap (λ (k : ℕ). k * 10) four) in
    let links : each_from link_from 10 (h ++ l ++ e ++ t) 5 4 ≡ d.links =
    (λ i. each_from link_from 10 ((behind ∙ append_assoc h l (e ++ t)) i) 5 (sym four i)) ∙ each_again link_from link_octets 10 (links_kept d.links) h (e ++ t) 5 refl in
    let services : each_from service_from 302 (h ++ l ++ e ++ t) 45 2 ≡ d.services =
    (λ i. each_from service_from 302 (behind i) 45 (sym two i)) ∙ each_again service_from service_octets 302 kept (h ++ l) t 45 front in
    λ i. record { services = services i; links = links i; turn = word d.turn i }
