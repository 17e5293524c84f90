-- The octets of a state that 201 does not refuse are the encoding of what they mean. Assumes nothing.
use mathlib.Core.Path.{◌≡◌, refl, sym, ap, ◌∙◌}
use mathlib.Core.Bool.{Bool, true, false, ◌&&◌}
use mathlib.Core.List.{List, [], ◌∷◌, ◌++◌}
use Prim.Native.Nat.{ℕ, zero, suc, ◌+◌, ◌*◌, ◌/◌, ◌%◌, ◌≤◌, ◌<◌}
use native.Mathlib.Omega.{arith}
use borrow.Author.Tests.{leb-true, eqb-true}
use lib.Dec.{eqb}
use lib.ListN.{length, get_or, take, drop, length-take, length-drop, take-append-drop}
use lib.Seq.{take-add, take_all, get_or-take}
use Rattle.ground.specs.Cases.{pick}
use Rattle.ground.specs.Words.{word_at}
use Rattle.ground.proofs.Cases.{and_left, and_right}
use Rattle.ground.proofs.Sweep.{spelled}
use Rattle.desk_client.specs.Client.{link_rule}
use Rattle.desk_client.proofs.Rule.{mtu_least}
use Rattle.desk_state.specs.Desk.{link_at, desk_rule}
use Rattle.desk_state.proofs.Laws.{link_stands, turn_there}
use Rattle.mcs_state.specs.Codec.{bit_of, is_bit, flag, layout, no_turn, word_then, wide_then, wide_at, each_from, each_octets, turn_from, turn_octets, mtu_from, link_from, link_octets, account_from, account_octets, player_from, player_octets, service_from, service_octets, desk_of, desk_octets}
use Rattle.mcs_state.specs.Stored.{Octets}
use Rattle.mcs_state.proofs.Each.{over, onward, each_plain}

bit_back : (x : ℕ) → is_bit x ≡ true → bit_of (flag x) ≡ x
bit_back zero e = refl
bit_back (suc zero) e = refl
bit_back (suc (suc x)) e = absurd (let z : suc (suc x) ≤ 1 = leb-true (suc (suc x)) 1 e in omega arith)

-- the octets of a number, out of the number again
module _ (a b c d : ℕ) (ha : a < 256) (hb : b < 256) (hc : c < 256) (hd : d < 256) where
  abbrev sum : ℕ
  sum = a + b * 256 + c * 65536 + d * 16777216

  first : sum % 256 ≡ a
  first = omega arith

  second : sum / 256 % 256 ≡ b
  second = omega arith

  third : sum / 65536 % 256 ≡ c
  third = omega arith

  fourth : sum / 16777216 ≡ d
  fourth = omega arith

module _ (s : List ℕ) (octets : Octets s) where
  word_then_lem : (at : ℕ) (r : List ℕ) → word_then (word_at s at) r ≡ get_or s at 0 ∷ get_or s (at + 1) 0 ∷ get_or s (at + 2) 0 ∷ get_or s (at + 3) 0 ∷ r
  unfolding word_at
  word_then_lem at r =
      let a = octets at in
      let b = octets (at + 1) in
      let c = octets (at + 2) in
      let d = octets (at + 3) in
      λ i. first _ _ _ _ a b c d i ∷ second _ _ _ _ a b c d i ∷ third _ _ _ _ a b c d i ∷ fourth _ _ _ _ a b c d i ∷ r

  small : (at : ℕ) → word_at s at < 4294967296
  unfolding word_at
  small at = omega (arith, octets at, octets (at + 1), octets (at + 2), octets (at + 3))

  -- the octets of a number of eight are those of its two halves
  halves : (low high : ℕ) (r : List ℕ) → low < 4294967296 → wide_then (low + high * 4294967296) r ≡ word_then low (word_then high r)
  halves low high r h = λ i. a i ∷ b i ∷ c i ∷ d i ∷ e i ∷ f i ∷ g i ∷ k i ∷ r
    where
      x : ℕ
      x = low + high * 4294967296

      a : (low + high * 4294967296) % 256 ≡ low % 256
      a = omega arith

      b : (low + high * 4294967296) / 256 % 256 ≡ low / 256 % 256
      b = omega arith

      c : (low + high * 4294967296) / 65536 % 256 ≡ low / 65536 % 256
      c = omega arith

      d : (low + high * 4294967296) / 16777216 % 256 ≡ low / 16777216
      d = omega arith

      e : (low + high * 4294967296) / 4294967296 % 256 ≡ high % 256
      e = omega arith

      f : (low + high * 4294967296) / 1099511627776 % 256 ≡ high / 256 % 256
      f = omega arith

      g : (low + high * 4294967296) / 281474976710656 % 256 ≡ high / 65536 % 256
      g = omega arith

      k : (low + high * 4294967296) / 72057594037927936 ≡ high / 16777216
      k = omega arith

  wide_then_lem : (at : ℕ) (r : List ℕ)
      → wide_then (wide_at s at) r ≡ get_or s at 0 ∷ get_or s (at + 1) 0 ∷ get_or s (at + 2) 0 ∷ get_or s (at + 3) 0
      ∷ get_or s (at + 4) 0 ∷ get_or s (at + 4 + 1) 0 ∷ get_or s (at + 4 + 2) 0 ∷ get_or s (at + 4 + 3) 0 ∷ r
  wide_then_lem at r = halves (word_at s at) (word_at s (at + 4)) r (small at) ∙ word_then_lem at _ ∙ ap (λ (t : List ℕ). get_or s at 0 ∷ get_or s (at + 1) 0 ∷ get_or s (at + 2) 0 ∷ get_or s (at + 3) 0 ∷ t) (word_then_lem (at + 4) r)

  -- what stands at four places, before the rest
  abbrev four : ℕ → List ℕ → List ℕ
  four at r = get_or s at 0 ∷ get_or s (at + 1) 0 ∷ get_or s (at + 2) 0 ∷ get_or s (at + 3) 0 ∷ r

  -- a part of each kind; of a link where its yes-or-no octets are 0 or 1, of the turn where the layout is this one
  turn_plain : length s ≡ 5 → get_or s 0 0 ≡ layout → turn_octets (turn_from s) ≡ s
  unfolding turn_octets turn_from
  turn_plain l e =
      (λ i. sym e i ∷ word_then (pick (eqb (e i) layout) (word_at s 1) no_turn) []) ∙ ap (λ (t : List ℕ). get_or s 0 0 ∷ t) (word_then_lem 1 []) ∙ spelled 0 s 0 5 l

  link_plain : length s ≡ 10 → is_bit (get_or s 0 0) ≡ true → is_bit (get_or s 1 0) ≡ true → link_octets (link_from s) ≡ s
  unfolding link_octets link_from mtu_from
  link_plain l p q =
      (λ i. bit_back (get_or s 0 0) p i ∷ bit_back (get_or s 1 0) q i ∷ word_then (pick (p i && q i) (word_at s 2) 0) (word_then (word_at s 6) []))
      ∙ ap (λ (t : List ℕ). get_or s 0 0 ∷ get_or s 1 0 ∷ t) (word_then_lem 2 _ ∙ ap (four 2) (word_then_lem 6 []))
      ∙ spelled 0 s 0 10 l

  account_plain : length s ≡ 36 → account_octets (account_from s) ≡ s
  unfolding account_octets account_from
  account_plain l = word_then_lem 0 _ ∙ ap (four 0) (word_then_lem 4 _ ∙ ap (four 4) (word_then_lem 8 _ ∙ ap (four 8) (wide_then_lem 12 _))) ∙ spelled 0 s 0 36 l

  player_plain : (name : List ℕ) → length s ≡ 30 → player_octets (player_from name s) ≡ s
  unfolding player_octets player_from
  player_plain name l =
      ap (λ (t : List ℕ). get_or s 0 0 ∷ get_or s 1 0 ∷ get_or s 2 0 ∷ get_or s 3 0 ∷ get_or s 4 0 ∷ get_or s 5 0 ∷ t)
      (word_then_lem 6 _ ∙ ap (four 6) (word_then_lem 10 _ ∙ ap (four 10) (word_then_lem 14 _ ∙ ap (four 14) (word_then_lem 18 _ ∙ ap (four 18) (word_then_lem 22 _ ∙ ap (four 22) (word_then_lem 26 []))))))
      ∙ spelled 0 s 0 30 l

octets_drop : (a : ℕ) (s : List ℕ) → Octets s → Octets (drop a s)
octets_drop zero s h = h
octets_drop (suc a) [] h = h
octets_drop (suc a) (x ∷ s) h = octets_drop a s (λ i. h (suc i))

octets_take_lem : (n : ℕ) (s : List ℕ) → Octets s → Octets (take n s)
octets_take_lem zero s h = λ i. omega arith
octets_take_lem (suc n) [] h = h
octets_take_lem (suc n) (x ∷ s) h = at (octets_take_lem n s (λ j. h (suc j)))
  where
    at : Octets (take n s) → (i : ℕ) → get_or (x ∷ take n s) i 0 < 256
    at k zero = h 0
    at k (suc i) = k i

-- a part of octets
module _ (s : List ℕ) (octets : Octets s) where
  piece : (a n : ℕ) → a + n ≤ length s → length (take n (drop a s)) ≡ n
  piece a n h = simp (length-take, length-drop) (omega arith)

  cut : (a n : ℕ) → Octets (take n (drop a s))
  cut a n = octets_take_lem n (drop a s) (octets_drop a s octets)

  account_at : (a : ℕ) → a + 36 ≤ length s → account_octets (account_from (take 36 (drop a s))) ≡ take 36 (drop a s)
  account_at a h = account_plain (take 36 (drop a s)) (cut a 36) (piece a 36 h)

  service_plain : length s ≡ 302 → service_octets (service_from s) ≡ s
  unfolding service_octets service_from player_from
  service_plain l =
      let accounts : each_octets account_octets (each_from account_from 36 s 158 4) ≡ take 144 (drop 158 s) =
      each_plain account_from account_octets 36 s 158 4
      (onward (account_at 158 (omega arith)) (onward (account_at 194 (omega arith)) (onward (account_at 230 (omega arith)) (onward (account_at 266 (omega arith)) over)))) in
      (λ i. take 128 s ++ player_plain (take 30 (drop 128 s)) (cut 128 30) (take 128 s) (piece 128 30 (omega arith)) i ++ accounts i)
      ∙ (λ i. sym (take-add 128 30 s) i ++ take 144 (drop 158 s))
      ∙ sym (take-add 158 144 s)
      ∙ take_all 302 s (omega arith)

-- a link that keeps 201 has yes-or-no octets that are 0 or 1
bits : (s : List ℕ) → link_rule (link_from s) ≡ true → (is_bit (get_or s 0 0) && is_bit (get_or s 1 0)) ≡ true
unfolding link_from mtu_from
bits s rule = go (is_bit (get_or s 0 0) && is_bit (get_or s 1 0)) (mtu_least (link_from s) rule)
  where
    go : (t : Bool) → 23 ≤ pick t (word_at s 2) 0 → t ≡ true
    go true h = refl
    go false h = absurd (let z : ⊥ = omega arith in z)

-- a turn that keeps 201 stands behind the octet of this layout
laid_out : (s : List ℕ) → turn_from s < 4 → get_or s 0 0 ≡ layout
unfolding turn_from
laid_out s h = eqb-true (get_or s 0 0) layout (go (eqb (get_or s 0 0) layout) h)
  where
    go : (t : Bool) → pick t (word_at s 1) no_turn < 4 → t ≡ true
    go true h = refl
    go false h = absurd (let z : ⊥ = omega arith in z)

-- "a state of another layout is refused and not misread"
pub layout_named : (groups tracks s : List ℕ) → desk_rule groups tracks (desk_of s) ≡ true → get_or s 0 0 ≡ layout
unfolding desk_of
layout_named groups tracks s stands = sym (get_or-take 5 s 0 0 (omega arith)) ∙ laid_out (take 5 s) (turn_there groups tracks (desk_of s) stands)

-- "201 .. a client record is wrong": an accepted state's octets are the encoding of the state that they are
module _ (groups tracks s : List ℕ) (long : 649 ≤ length s) (octets : Octets s) (stands : desk_rule groups tracks (desk_of s) ≡ true) where
  link_at_lem : (a : ℕ) → a + 10 ≤ 649 → link_rule (link_from (take 10 (drop a s))) ≡ true → link_octets (link_from (take 10 (drop a s))) ≡ take 10 (drop a s)
  link_at_lem a h rule =
      let r = take 10 (drop a s) in
      let both = bits r rule in
      link_plain r (cut s octets a 10) (piece s octets a 10 (omega arith)) (and_left (is_bit (get_or r 0 0)) (is_bit (get_or r 1 0)) both) (and_right (is_bit (get_or r 0 0)) (is_bit (get_or r 1 0)) both)

  service_at_lem : (a : ℕ) → a + 302 ≤ 649 → service_octets (service_from (take 302 (drop a s))) ≡ take 302 (drop a s)
  service_at_lem a h = service_plain (take 302 (drop a s)) (cut s octets a 302) (piece s octets a 302 (omega arith))

  rule_of : (who : ℕ) → who < 4 → link_rule (link_at (desk_of s).links who) ≡ true
  rule_of who h = link_stands groups tracks (desk_of s) stands who h

  pub plain : desk_octets (desk_of s) ++ drop 649 s ≡ s
  unfolding desk_octets desk_of
  plain =
      let turn : turn_octets (turn_from (take 5 s)) ≡ take 5 s =
      turn_plain (take 5 s) (cut s octets 0 5) (piece s octets 0 5 (omega arith)) (laid_out (take 5 s) (turn_there groups tracks (desk_of s) stands)) in
      let links : each_octets link_octets (each_from link_from 10 s 5 4) ≡ take 40 (drop 5 s) =
      each_plain link_from link_octets 10 s 5 4
      (onward (link_at_lem 5 (omega arith) (rule_of 0 (omega arith)))
      (onward (link_at_lem 15 (omega arith) (rule_of 1 (omega arith)))
      (onward (link_at_lem 25 (omega arith) (rule_of 2 (omega arith)))
      (onward (link_at_lem 35 (omega arith) (rule_of 3 (omega arith))) over)))) in
      let services : each_octets service_octets (each_from service_from 302 s 45 2) ≡ take 604 (drop 45 s) =
      each_plain service_from service_octets 302 s 45 2 (onward (service_at_lem 45 (omega arith)) (onward (service_at_lem 347 (omega arith)) over)) in
      (λ i. turn i ++ links i ++ services i ++ drop 649 s)
      ∙ (λ i. sym (take-add 5 40 s) i ++ take 604 (drop 45 s) ++ drop 649 s)
      ∙ (λ i. sym (take-add 45 604 s) i ++ drop 649 s)
      ∙ take-append-drop 649 s
