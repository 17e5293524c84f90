-- What a record that keeps the clients' part of 201 has, part by part, and the way back. Assumes nothing.
use mathlib.Core.Path.{◌≡◌, refl, sym, ap, ◌∙◌, subst}
use mathlib.Core.Bool.{Bool, true, false, not, ◌&&◌, ◌||◌}
use mathlib.Core.Logic.{⊎_elim}
use Prim.Native.Nat.{ℕ, ◌-◌, ◌≤◌, ◌<◌, ◌^◌}
use native.Mathlib.Omega.{arith}
use borrow.Author.Tests.{leb-true, le-leb, ltb-true, lt-ltb, eqb-true, eq-eqb}
use lib.Dec.{eqb, ltb, leb, lit≤}
use Rattle.ground.specs.Cases.{pick, has}
use Rattle.ground.specs.Lists.{all_below}
use Rattle.ground.proofs.Bounded.{all_at, all_intro}
use Rattle.ground.proofs.Cases.{past, here, and_left, and_right, and_both, true_or, clash}
use Rattle.desk_slots.specs.Slots.{slot_count, service_count, place_count, only_slots, inter}
use Rattle.desk_slots.proofs.SlotLaws.{has_inter, inter_lt, only_lt, lt_only}
use Rattle.desk_slots.proofs.Bits.{has_zero, ext}
use Rattle.desk_client.specs.declared.Link.{Link}
use Rattle.desk_client.specs.declared.Account.{Account}
use Rattle.desk_client.specs.declared.Client.{Client}
use Rattle.desk_client.specs.Client.{mtu_right, control_slot, most_results, only_readable, codes_right, alike, blank_rule, account_rule, link_rule, account_fits, account_with, client_rule}

-- the account of a connected record, part by part
pub record Sound (a : Account) : Type 0 where
  pub subscribed_slots : a.subscribed < 2 ^ slot_count
  pub owed_slots : a.owed < 2 ^ slot_count
  pub readable : only_readable a.fresh ≡ true
  pub covered : (s : ℕ) → has a.owed s ≡ true → has a.subscribed s ≡ true
  pub waits : has a.owed control_slot ≡ ltb 0 a.waiting
  pub few : a.waiting ≤ most_results
  pub codes : codes_right a.waiting a.results ≡ true

-- the link of a connected record, part by part
pub record Linked (l : Link) : Type 0 where
  pub mtu_from : 23 ≤ l.mtu
  pub mtu_to : l.mtu ≤ 517
  pub marked : l.mark < place_count

-- the account's rule, its parts from the left
module _ (a : Account) where
  abbrev r2 : Bool
  r2 = only_slots a.subscribed && only_slots a.owed

  abbrev r3 : Bool
  r3 = r2 && only_readable a.fresh

  abbrev r4 : Bool
  r4 = r3 && eqb (inter a.owed a.subscribed) a.owed

  abbrev r5 : Bool
  r5 = r4 && alike (has a.owed control_slot) (ltb 0 a.waiting)

  abbrev r6 : Bool
  r6 = r5 && leb a.waiting most_results

same : (a b : Bool) → alike a b ≡ true → a ≡ b
same true true e = refl
same true false e = clash e
same false true e = clash e
same false false e = refl

back : (a b : Bool) → a ≡ b → alike a b ≡ true
back true true e = refl
back true false e = sym e
back false true e = e
back false false e = refl

-- what is owed is subscribed, slot by slot and as sets
both : (a b : Bool) → (a && b) ≡ a → a ≡ true → b ≡ true
both true b e q = e
both false b e q = clash q

only : (a b : Bool) → (a ≡ true → b ≡ true) → (a && b) ≡ a
only true b f = f refl
only false b f = refl

-- what a choice comes to, once its test is known
here_true : (t x y : Bool) → t ≡ true → pick t x y ≡ true → x ≡ true
here_true t x y q e = subst (λ (b : Bool). pick b x y ≡ true) q e

past_true : (t x y : Bool) → t ≡ false → pick t x y ≡ true → y ≡ true
past_true t x y q e = subst (λ (b : Bool). pick b x y ≡ true) q e

sound : (a : Account) → account_rule a ≡ true → Sound a
unfolding account_rule
sound a e =
    let e6 = and_left (r6 a) (codes_right a.waiting a.results) e in
    let e5 = and_left (r5 a) (leb a.waiting most_results) e6 in
    let e4 = and_left (r4 a) (alike (has a.owed control_slot) (ltb 0 a.waiting)) e5 in
    let e3 = and_left (r3 a) (eqb (inter a.owed a.subscribed) a.owed) e4 in
    let e2 = and_left (r2 a) (only_readable a.fresh) e3 in
    let covers = eqb-true (inter a.owed a.subscribed) a.owed (and_right (r3 a) (eqb (inter a.owed a.subscribed) a.owed) e4) in
    record {
      subscribed_slots = only_lt a.subscribed (and_left (only_slots a.subscribed) (only_slots a.owed) e2);
      owed_slots = only_lt a.owed (and_right (only_slots a.subscribed) (only_slots a.owed) e2);
      readable = and_right (r2 a) (only_readable a.fresh) e3;
      covered = λ s q. both (has a.owed s) (has a.subscribed s) (sym (has_inter a.owed a.subscribed s) ∙ ap (λ (w : ℕ). has w s) covers) q;
      waits = same (has a.owed control_slot) (ltb 0 a.waiting) (and_right (r4 a) (alike (has a.owed control_slot) (ltb 0 a.waiting)) e5);
      few = leb-true a.waiting most_results (and_right (r5 a) (leb a.waiting most_results) e6);
      codes = and_right (r6 a) (codes_right a.waiting a.results) e;
    }

from_sound : (a : Account) → Sound a → account_rule a ≡ true
unfolding account_rule inter
from_sound a s =
    and_both
    (and_both
    (and_both
    (and_both
    (and_both
    (and_both
    (lt_only a.subscribed s.subscribed_slots)
    (lt_only a.owed s.owed_slots))
    s.readable)
    (eq-eqb (inter a.owed a.subscribed) a.owed covers))
    (back (has a.owed control_slot) (ltb 0 a.waiting) s.waits))
    (le-leb a.waiting most_results s.few))
    s.codes
  where
    covers : inter a.owed a.subscribed ≡ a.owed
    covers =
        ext slot_count (inter a.owed a.subscribed) a.owed (inter_lt slot_count a.owed a.subscribed s.owed_slots) s.owed_slots
        (λ t h. has_inter a.owed a.subscribed t ∙ only (has a.owed t) (has a.subscribed t) (s.covered t))

-- a connected link keeps the rule where it is linked
pub connected_linked : (l : Link) → link_rule l ≡ true → l.connected ≡ true → Linked l
unfolding link_rule
connected_linked l e q =
    let r : (mtu_right l.mtu && ltb l.mark place_count) ≡ true = here_true _ _ _ q e in
    let m = and_left (mtu_right l.mtu) (ltb l.mark place_count) r in
    record {
      mtu_from = leb-true 23 l.mtu (and_left (leb 23 l.mtu) (leb l.mtu 517) m);
      mtu_to = leb-true l.mtu 517 (and_right (leb 23 l.mtu) (leb l.mtu 517) m);
      marked = ltb-true l.mark place_count (and_right (mtu_right l.mtu) (ltb l.mark place_count) r);
    }

pub linked_connected : (l : Link) → l.connected ≡ true → Linked l → link_rule l ≡ true
unfolding link_rule
linked_connected l q k =
    sym (here _ q (sym (and_both (and_both (le-leb 23 l.mtu k.mtu_from) (le-leb l.mtu 517 k.mtu_to)) (lt-ltb l.mark place_count k.marked))))

-- the account of a connected client is sound, and asks for nothing where the link is not encrypted; and the way back
pub record Fit (l : Link) (a : Account) : Type 0 where
  pub account : Sound a
  pub safe : (l.encrypted || eqb a.subscribed 0) ≡ true

pub connected_fit : (l : Link) (a : Account) → account_fits l a ≡ true → l.connected ≡ true → Fit l a
unfolding account_fits
connected_fit l a e q =
    let r : (account_rule a && (l.encrypted || eqb a.subscribed 0)) ≡ true = here_true _ _ _ q e in
    record {
      account = sound a (and_left (account_rule a) (l.encrypted || eqb a.subscribed 0) r);
      safe = and_right (account_rule a) (l.encrypted || eqb a.subscribed 0) r;
    }

pub fit_connected : (l : Link) (a : Account) → l.connected ≡ true → Fit l a → account_fits l a ≡ true
unfolding account_fits
fit_connected l a q f = sym (here _ q (sym (and_both (from_sound a f.account) f.safe)))

-- start's account, but for its dead entries
pub record Blank (a : Account) : Type 0 where
  pub subscribed : a.subscribed ≡ 0
  pub owed : a.owed ≡ 0
  pub fresh : a.fresh ≡ 0
  pub waiting : a.waiting ≡ 0

blank : (a : Account) → blank_rule a ≡ true → Blank a
unfolding blank_rule
blank a e =
    let e3 = and_left (eqb a.subscribed 0 && eqb a.owed 0 && eqb a.fresh 0) (eqb a.waiting 0) e in
    let e2 = and_left (eqb a.subscribed 0 && eqb a.owed 0) (eqb a.fresh 0) e3 in
    record {
      subscribed = eqb-true a.subscribed 0 (and_left (eqb a.subscribed 0) (eqb a.owed 0) e2);
      owed = eqb-true a.owed 0 (and_right (eqb a.subscribed 0) (eqb a.owed 0) e2);
      fresh = eqb-true a.fresh 0 (and_right (eqb a.subscribed 0 && eqb a.owed 0) (eqb a.fresh 0) e3);
      waiting = eqb-true a.waiting 0 (and_right (eqb a.subscribed 0 && eqb a.owed 0 && eqb a.fresh 0) (eqb a.waiting 0) e);
    }

pub unconnected_blank : (l : Link) (a : Account) → account_fits l a ≡ true → l.connected ≡ false → Blank a
unfolding account_fits
unconnected_blank l a e q = blank a (past_true _ _ _ q e)

pub blank_unconnected : (l : Link) (a : Account) → l.connected ≡ false → Blank a → account_fits l a ≡ true
unfolding account_fits blank_rule
blank_unconnected l a q b =
    sym (past _ q (sym (and_both (and_both (and_both
    (eq-eqb a.subscribed 0 b.subscribed) (eq-eqb a.owed 0 b.owed)) (eq-eqb a.fresh 0 b.fresh)) (eq-eqb a.waiting 0 b.waiting))))

-- what every link that keeps the rule has
module _ (l : Link) (e : link_rule l ≡ true) where
  unconnected : l.connected ≡ false → (l.mtu ≡ 23) × (l.mark ≡ place_count - 1)
  unfolding link_rule
  unconnected q =
      let r = past_true _ _ _ q e in
      let r2 = and_left (not l.encrypted && eqb l.mtu 23) (eqb l.mark (place_count - 1)) r in (
        eqb-true l.mtu 23 (and_right (not l.encrypted) (eqb l.mtu 23) r2),
        eqb-true l.mark (place_count - 1) (and_right (not l.encrypted && eqb l.mtu 23) (eqb l.mark (place_count - 1)) r),
      )

  pub mtu_least : 23 ≤ l.mtu
  mtu_least = ⊎_elim (λ q. (connected_linked l e q).mtu_from) (λ q. omega (arith, (unconnected q).0)) (true_or l.connected)

  pub mark_within : l.mark < place_count
  mark_within = ⊎_elim (λ q. (connected_linked l e q).marked) (λ q. omega (arith, (unconnected q).1)) (true_or l.connected)

-- and every account that fits its link
module _ (l : Link) (a : Account) (e : account_fits l a ≡ true) where
  by_link : {A : Type 0} → (Fit l a → A) → (Blank a → A) → A
  by_link f g = ⊎_elim (λ q. f (connected_fit l a e q)) (λ q. g (unconnected_blank l a e q)) (true_or l.connected)

  pub owed_within : a.owed < 2 ^ slot_count
  owed_within = by_link (λ f. f.account.owed_slots) (λ b. rw b.owed (lit≤ tt))

  pub waits_when_owed : has a.owed control_slot ≡ ltb 0 a.waiting
  waits_when_owed =
      by_link (λ f. f.account.waits) (λ b. ap (λ (w : ℕ). has w control_slot) b.owed ∙ has_zero control_slot ∙ sym (ap (ltb 0) b.waiting))

  pub few_results : a.waiting ≤ most_results
  few_results = by_link (λ f. f.account.few) (λ b. omega (arith, b.waiting))

  -- what is owed anything is connected
  pub owed_connected : (s : ℕ) → has a.owed s ≡ true → l.connected ≡ true
  owed_connected s h =
      ⊎_elim (λ q. q) (λ q. clash (sym (ap (λ (w : ℕ). has w s) (unconnected_blank l a e q).owed ∙ has_zero s) ∙ h)) (true_or l.connected)

-- a whole record: its link, and its account with each service
module _ (c : Client) where
  pub client_link : client_rule c ≡ true → link_rule c.link ≡ true
  unfolding client_rule
  client_link e = and_left (link_rule c.link) (all_below service_count (λ v. account_fits c.link (account_with c v))) e

  pub client_account : client_rule c ≡ true → (v : ℕ) → v < service_count → account_fits c.link (account_with c v) ≡ true
  unfolding client_rule
  client_account e v h = all_at _ service_count (and_right (link_rule c.link) (all_below service_count (λ v. account_fits c.link (account_with c v))) e) v h

  pub client_stands : link_rule c.link ≡ true → ((v : ℕ) → v < service_count → account_fits c.link (account_with c v) ≡ true) → client_rule c ≡ true
  unfolding client_rule
  client_stands e f = and_both e (all_intro _ service_count f)
