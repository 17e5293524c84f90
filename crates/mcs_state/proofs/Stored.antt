-- A part of a state, written back over octets that are the encoding of what they mean, leaves the octets of the state with that part. Assumes nothing.
use mathlib.Core.Path.{◌≡◌, refl, ap, sym, ◌∙◌}
use mathlib.Core.Bool.{true}
use mathlib.Core.List.{List, ◌++◌}
use Prim.Native.Nat.{ℕ, zero, suc, ◌+◌, ◌*◌, ◌≤◌, ◌<◌}
use native.Mathlib.Nat.{add_assoc, add-zero}
use native.Mathlib.Omega.{arith}
use lib.ListN.{length, drop, length-append, length-set}
use lib.Seq.{paste, drop_at}
use Rattle.ground.specs.Lists.{part}
use Rattle.ground.proofs.Laying.{part_length}
use Rattle.desk_client.specs.declared.Link.{Link}
use Rattle.desk_client.specs.declared.Account.{Account}
use Rattle.desk_client.specs.Client.{no_account}
use Rattle.desk_state.specs.declared.Service.{Service}
use Rattle.desk_state.specs.declared.Desk.{Desk}
use Rattle.desk_state.specs.Desk.{no_link, no_service, service_at, desk_rule, with_account, with_service}
use Rattle.mcs_state.specs.Codec.{each_octets, Kept, turn_octets, link_from, link_octets, account_from, account_octets, player_from, player_octets, service_from, service_octets, desk_of, desk_octets}
use Rattle.mcs_state.specs.Stored.{Octets, Plain, Stored, with_link, with_turn}
use Rattle.mcs_state.proofs.Each.{AllKept, each_long}
use Rattle.mcs_state.proofs.Round.{turn_long, link_kept, links_kept, account_kept, player_long, service_kept, again}
use Rattle.mcs_state.proofs.Pasted.{paste_left, paste_right, paste_whole, each_kept, kept_set, each_pasted, each_replaced}
use Rattle.mcs_state.proofs.Plain.{plain}

-- a service whose arrays are as long as they are, and whose accounts are read again
record Whole (v : Service) : Type 0 where
  name : length v.player.name.octets ≡ 128
  four : length v.accounts ≡ 4
  kept : AllKept account_from account_octets 36 v.accounts

whole_kept : (v : Service) → Whole v → Kept service_from service_octets 302 v
whole_kept v w = service_kept v w.name w.four w.kept

-- a state of which the same is true
record Sized (d : Desk) : Type 0 where
  four : length d.links ≡ 4
  two : length d.services ≡ 2
  kept : AllKept service_from service_octets 302 d.services

-- what is read out of octets is so
account_from_lem : (o : List ℕ) → length o ≡ 36 → Kept account_from account_octets 36 (account_from o)
unfolding account_from
account_from_lem o h = account_kept (account_from o) refl

whole_from : (o : List ℕ) → length o ≡ 302 → Whole (service_from o)
unfolding service_from player_from
whole_from o h =
    record {
      name = part_length o 0 128 (omega arith);
      four = refl;
      kept = each_kept account_from account_octets 36 account_from_lem o 158 4 (omega arith);
    }

module _ (s : List ℕ) (long : 649 ≤ length s) where
  whole_at : (i : ℕ) → i < 2 → Whole (service_at (desk_of s) i)
  unfolding desk_of
  whole_at zero h = whole_from (part s 45 347) (part_length s 45 302 (omega arith))
  whole_at (suc zero) h = whole_from (part s 347 649) (part_length s 347 302 (omega arith))
  whole_at (suc (suc i)) h = absurd (let z : ⊥ = omega arith in z)

  sized_of : Sized (desk_of s)
  unfolding desk_of
  sized_of =
      record {
        four = refl;
        two = refl;
        kept = each_kept service_from service_octets 302 (λ o h. whole_kept (service_from o) (whole_from o h)) s 45 2 long;
      }

-- a part pasted over a state's octets, before t
module _ (d : Desk) (z : Sized d) (t : List ℕ) where
  links_long : length (each_octets link_octets d.links) ≡ 40
  links_long = each_long link_from link_octets 10 (links_kept d.links) ∙ ap (λ (k : ℕ). k * 10) z.four

  front_long : length (turn_octets d.turn ++ each_octets link_octets d.links) ≡ 45
  front_long = length-append (turn_octets d.turn) (each_octets link_octets d.links) ∙ (λ i. turn_long d.turn i + links_long i)

  desk_long : length (desk_octets d) ≡ 649
  unfolding desk_octets
  desk_long =
      length-append (turn_octets d.turn ++ each_octets link_octets d.links) (each_octets service_octets d.services)
      ∙ (λ i. front_long i + (each_long service_from service_octets 302 z.kept ∙ ap (λ (k : ℕ). k * 302) z.two) i)

  turn_pasted : (turn : ℕ) → paste (desk_octets d ++ t) 0 (turn_octets turn) 5 ≡ desk_octets (with_turn turn d) ++ t
  unfolding desk_octets
  turn_pasted turn =
      let h = turn_octets d.turn in
      let l = each_octets link_octets d.links in
      let e = each_octets service_octets d.services in
      let v = turn_octets turn in
      paste_left v 5 (h ++ l ++ e) t 0 (omega (arith, desk_long))
      ∙ ap (λ (x : List ℕ). x ++ t) (paste_left v 5 (h ++ l) e 0 (omega (arith, front_long)))
      ∙ ap (λ (x : List ℕ). x ++ e ++ t) (paste_left v 5 h l 0 (omega (arith, turn_long d.turn)))
      ∙ ap (λ (x : List ℕ). x ++ l ++ e ++ t) (paste_whole v 5 h (turn_long d.turn) (turn_long turn))

  link_pasted : (who : ℕ) (y : Link) → who < 4 → paste (desk_octets d ++ t) (5 + who * 10) (link_octets y) 10 ≡ desk_octets (with_link who y d) ++ t
  unfolding desk_octets
  link_pasted who y w =
      let h = turn_octets d.turn in
      let l = each_octets link_octets d.links in
      let e = each_octets service_octets d.services in
      let v = link_octets y in
      paste_left v 10 (h ++ l ++ e) t (5 + who * 10) (omega (arith, desk_long))
      ∙ ap (λ (x : List ℕ). x ++ t) (paste_left v 10 (h ++ l) e (5 + who * 10) (omega (arith, front_long)))
      ∙ ap (λ (x : List ℕ). x ++ e ++ t) (paste_right v 10 h l 5 (who * 10) (turn_long d.turn))
      ∙ ap (λ (x : List ℕ). h ++ x ++ e ++ t)
      (each_replaced link_from link_octets 10 (links_kept d.links) who no_link y (omega (arith, z.four)) (link_kept y).long)

  service_pasted : (i : ℕ) (y : Service) (at k : ℕ) (v : List ℕ) → i < 2 → at + k ≤ 302 → paste (service_octets (service_at d i)) at v k ≡ service_octets y
      → paste (desk_octets d ++ t) (45 + i * 302 + at) v k ≡ desk_octets (with_service i y d) ++ t
  unfolding desk_octets with_service
  service_pasted i y at k v w fits p =
      let f = turn_octets d.turn ++ each_octets link_octets d.links in
      let e = each_octets service_octets d.services in
      paste_left v k (f ++ e) t (45 + i * 302 + at) (omega (arith, desk_long))
      ∙ ap (λ (m : ℕ). paste (f ++ e) m v k ++ t) (add_assoc 45 (i * 302) at)
      ∙ ap (λ (x : List ℕ). x ++ t) (paste_right v k f e 45 (i * 302 + at) front_long)
      ∙ ap (λ (x : List ℕ). f ++ x ++ t) (each_pasted service_from service_octets 302 z.kept i no_service y at k v (omega (arith, z.two)) fits p)

account_pasted : (v : Service) → Whole v → (who : ℕ) (a : Account) → who < 4 → Kept account_from account_octets 36 a
    → paste (service_octets v) (158 + who * 36) (account_octets a) 36 ≡ service_octets (with_account who a v)
unfolding service_octets with_account
account_pasted v w who a h k =
    let n = v.player.name.octets in
    let p = player_octets v.player in
    let front : length (n ++ p) ≡ 158 = length-append n p ∙ (λ i. w.name i + player_long v.player i) in
    paste_right (account_octets a) 36 (n ++ p) (each_octets account_octets v.accounts) 158 (who * 36) front
    ∙ ap (λ (x : List ℕ). n ++ p ++ x) (each_replaced account_from account_octets 36 w.kept who no_account a (omega (arith, w.four)) k.long)

account_whole : (v : Service) → Whole v → (who : ℕ) (a : Account) → Kept account_from account_octets 36 a → Whole (with_account who a v)
unfolding with_account
account_whole v w who a k =
    record { name = w.name; four = length-set v.accounts who a ∙ w.four; kept = kept_set account_from account_octets 36 w.kept who k }

-- "an accepted state's octets are the encoding of the state that they are"
pub stands_plain : (groups tracks s : List ℕ) → 649 ≤ length s → Octets s → desk_rule groups tracks (desk_of s) ≡ true → Plain s
stands_plain groups tracks s long octets stands = plain groups tracks s long octets stands

-- what is stored is plain again; and what is stored over what was stored is stored over what was there first
module _ {d : Desk} {old new : List ℕ} (one : Stored d old new) (long : 649 ≤ length new) where
  behind : drop 649 new ≡ drop 649 old
  behind =
      let e = one.state in
      ap (drop 649) (one.octets ∙ ap (λ (x : Desk). desk_octets x ++ drop 649 old) (sym e))
      ∙ drop_at (desk_octets (desk_of new)) (drop 649 old) 649 (desk_long (desk_of new) (sized_of new long) (drop 649 old))

  pub stored_plain : Plain new
  stored_plain = (λ i. desk_octets (one.state i) ++ behind i) ∙ sym one.octets

  -- f is what the second does to the state that it finds
  pub stored_then : (f : Desk → Desk) {newer : List ℕ} → Stored (f (desk_of new)) new newer → Stored (f d) old newer
  stored_then f two =
      record {
        octets = two.octets ∙ (λ i. desk_octets (f (one.state i)) ++ behind i);
        state = two.state ∙ ap f one.state;
      }

  pub stored_over : {e : Desk} {newer : List ℕ} → Stored e new newer → Stored e old newer
  stored_over {e} two = stored_then (λ x. e) two

-- what a part pasted over plain octets leaves
module _ (s new : List ℕ) (long : 649 ≤ length s) (plain : Plain s) where
  stored : (d : Desk) → Sized d → new ≡ desk_octets d ++ drop 649 s → Stored d s new
  stored d z e = record { octets = e; state = ap desk_of e ∙ again d (drop 649 s) z.four z.two z.kept }

  abbrev here : Sized (desk_of s)
  here = sized_of s long

  over : (at k : ℕ) (v : List ℕ) → new ≡ paste s at v k → new ≡ paste (desk_octets (desk_of s) ++ drop 649 s) at v k
  over at k v e = e ∙ ap (λ (x : List ℕ). paste x at v k) (sym plain)

  pub turn_stored : (turn : ℕ) → new ≡ paste s 0 (turn_octets turn) 5 → Stored (with_turn turn (desk_of s)) s new
  turn_stored turn e =
      stored (with_turn turn (desk_of s)) (record { four = here.four; two = here.two; kept = here.kept })
      (over 0 5 (turn_octets turn) e ∙ turn_pasted (desk_of s) here (drop 649 s) turn)

  pub link_stored : (who : ℕ) (l : Link) → who < 4 → new ≡ paste s (5 + who * 10) (link_octets l) 10 → Stored (with_link who l (desk_of s)) s new
  link_stored who l h e =
      stored (with_link who l (desk_of s)) (record { four = length-set (desk_of s).links who l ∙ here.four; two = here.two; kept = here.kept })
      (over (5 + who * 10) 10 (link_octets l) e ∙ link_pasted (desk_of s) here (drop 649 s) who l h)

  changed : (i : ℕ) (y : Service) (at k : ℕ) (v : List ℕ) → i < 2 → Kept service_from service_octets 302 y → at + k ≤ 302
      → paste (service_octets (service_at (desk_of s) i)) at v k ≡ service_octets y → new ≡ paste s (45 + i * 302 + at) v k → Stored (with_service i y (desk_of s)) s new
  unfolding with_service
  changed i y at k v h q fits p e =
      stored (with_service i y (desk_of s))
      (record { four = here.four; two = length-set (desk_of s).services i y ∙ here.two; kept = kept_set service_from service_octets 302 here.kept i q })
      (over (45 + i * 302 + at) k v e ∙ service_pasted (desk_of s) here (drop 649 s) i y at k v h fits p)

  pub service_stored : (i : ℕ) (y : Service) → i < 2 → Kept service_from service_octets 302 y → new ≡ paste s (45 + i * 302) (service_octets y) 302
      → Stored (with_service i y (desk_of s)) s new
  service_stored i y h q e =
      changed i y 0 302 (service_octets y) h q (omega arith)
      (paste_whole (service_octets y) 302 (service_octets (service_at (desk_of s) i)) (whole_kept (service_at (desk_of s) i) (whole_at s long i h)).long q.long)
      (e ∙ ap (λ (m : ℕ). paste s m (service_octets y) 302) (sym (add-zero (45 + i * 302))))

  pub account_stored : (i who : ℕ) (a : Account) → i < 2 → who < 4 → Kept account_from account_octets 36 a
      → new ≡ paste s (45 + i * 302 + (158 + who * 36)) (account_octets a) 36 → Stored (with_service i (with_account who a (service_at (desk_of s) i)) (desk_of s)) s new
  account_stored i who a h w q e =
      let v = service_at (desk_of s) i in
      let there = whole_at s long i h in
      changed i (with_account who a v) (158 + who * 36) 36 (account_octets a) h (whole_kept (with_account who a v) (account_whole v there who a q)) (omega arith)
      (account_pasted v there who a w q) e
