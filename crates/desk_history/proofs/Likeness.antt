-- A client's link and its account as they are stored, and what the ledger says of them: alike before, alike after whatever becomes of them. Assumes nothing.
use mathlib.Core.Path.{◌≡◌, refl, sym, ap, ◌∙◌, subst}
use mathlib.Core.Bool.{Bool, true, false, not, ◌&&◌, ◌||◌, and-true, or-false}
use mathlib.Core.List.{List, [], ◌∷◌, ◌++◌}
use Prim.Native.Nat.{ℕ, ◌+◌, ◌-◌, ◌≤◌, ◌<◌}
use native.Mathlib.Decide.{ℕ_discrete}
use native.Mathlib.Omega.{arith}
use borrow.Author.Tests.{ne_eqb}
use lib.Dec.{eqb, ltb}
use lib.ListN.{length, drop, set, length-set, length-drop, length-append}
use Rattle.ground.specs.Cases.{pick, has}
use Rattle.desk_slots.specs.Slots.{slot_count, insert, remove, characteristic_of}
use Rattle.desk_slots.proofs.Bits.{has_zero}
use Rattle.desk_slots.proofs.SetLaws.{set_has}
use Rattle.desk_slots.proofs.SlotLaws.{has_insert, has_remove, remove_other}
use Rattle.catalogue_titles.specs.Lent.{Lent}
use Rattle.player_state.specs.declared.Player.{Player}
use Rattle.desk_notices.specs.Changes.{changed, track_changed}
use Rattle.desk_notices.specs.declared.Cause.{Cause}
use Rattle.desk_notices.specs.Owed.{falls_due, spared, due_to, altered_of}
use Rattle.desk_client.specs.declared.Entry.{Entry}
use Rattle.desk_client.specs.declared.Link.{Link}
use Rattle.desk_client.specs.declared.Account.{Account}
use Rattle.desk_client.specs.Client.{control_slot, most_results, blank_entry, blank_account, start_link, connected_link}
use Rattle.desk_client.specs.Setters.{with_slots, with_mark}
use Rattle.desk_client.specs.Queue.{without_oldest}
use Rattle.desk_client.specs.Duties.{joined, dropped, noted, was_read, resulted, served}
use Rattle.desk_client.proofs.SlotBySlot.{dropped_queue, noted_owed, noted_fresh, resulted_none, resulted_is, resulted_queue, served_value, served_result, served_queue}
use Rattle.player_values.specs.Values.{source_of}
use Rattle.desk_exchange.specs.Read.{after_read}
use Rattle.desk_history.specs.Ledger.{Line, Claims, no_claims, line_of, no_line, noticing, joining, leaving, reading, resulting, behind, serving, passing}
use Rattle.desk_history.specs.Stored.{LikeLink, LikeAccount}

pub like_blank : LikeAccount no_claims blank_account
unfolding blank_account
like_blank = record { wants = λ s h. has_zero s; due = λ s h n. has_zero s; waiting = refl; mind = λ c h. has_zero c; long = refl }

pub like_start : LikeLink no_line start_link
unfolding start_link
like_start = record { on = refl; safe = refl; mtu = refl; last = refl }

pub like_connected : (mtu : ℕ) (encrypted : Bool) → LikeLink (line_of true encrypted mtu) (connected_link mtu encrypted)
unfolding connected_link
like_connected mtu encrypted = record { on = refl; safe = refl; mtu = refl; last = refl }

-- the client's round goes on behind a place that was served
pub like_passed : (x : Line) (l : Link) → LikeLink x l → (place : ℕ) → LikeLink (passing place x) (with_mark place l)
like_passed x l like place = record { on = like.on; safe = like.safe; mtu = like.mtu; last = refl }

-- results without the oldest are as many places
shifted_long : (l : List Entry) → length l ≡ most_results → length (without_oldest l) ≡ most_results
shifted_long l e = rw (length-append (drop 1 l) (blank_entry ∷ []), length-drop 1 l) (omega arith)

module _ (x : Claims) (a : Account) (like : LikeAccount x a) where
  pub like_joined : (s : ℕ) → LikeAccount (joining s x) (joined s a)
  unfolding joined
  like_joined s =
      record {
        wants = λ t h. has_insert a.subscribed s t ∙ ap (λ (b : Bool). b || eqb s t) (like.wants t h);
        due = like.due;
        waiting = like.waiting;
        mind = like.mind;
        long = like.long;
      }

  pub like_dropped : (s : ℕ) → LikeAccount (leaving s x) (dropped s a)
  unfolding dropped
  like_dropped s =
      record {
        wants = λ t h. has_remove a.subscribed s t ∙ ap (λ (b : Bool). b && not (eqb s t)) (like.wants t h);
        due = λ t h n. has_remove a.owed s t ∙ ap (λ (b : Bool). b && not (eqb s t)) (like.due t h n);
        waiting = dropped_queue a s ∙ ap (λ (l : List Entry). pick (eqb s control_slot) [] l) like.waiting;
        mind = like.mind;
        long = like.long;
      }

  -- what falls due by the players p and q
  pub like_noted : (k : Lent) (p q : Player) (cause : Cause) (who : ℕ)
      → LikeAccount (noticing k p q cause who x) (noted (due_to (source_of k) p q cause who) (altered_of (source_of k) p q) a)
  unfolding noted due_to altered_of
  like_noted k p q cause who =
      record {
        wants = like.wants;
        due = λ t h n.
            noted_owed a (due_to (source_of k) p q cause who) (altered_of (source_of k) p q) t
            ∙ (λ i. like.due t h n i || (like.wants t h i && set_has (falls k p q cause who) slot_count t h i));
        waiting = like.waiting;
        mind = λ c h.
            noted_fresh a (due_to (source_of k) p q cause who) (altered_of (source_of k) p q) c
            ∙ (λ i. like.mind c h i && not (set_has (changed (source_of k) p q) 32 c h i));
        long = like.long;
      }
    where
      falls : Lent → Player → Player → Cause → ℕ → ℕ → Bool
      falls k p q cause who s =
          falls_due (changed (source_of k) p q (characteristic_of s)) (track_changed p q) (characteristic_of s) && not (spared cause who (characteristic_of s))

  pub like_read : (y offset : ℕ) → LikeAccount (reading y offset x) (after_read y offset a)
  unfolding was_read
  like_read y offset = at (eqb offset 0)
    where
      at : (t : Bool)
          → LikeAccount (record { wants = x.wants; due = x.due; waiting = x.waiting; mind = λ c. x.mind c || (t && eqb y c) }) (pick t (was_read y a) a)
      at true =
          record {
            wants = like.wants;
            due = like.due;
            waiting = like.waiting;
            mind = λ c h. has_insert a.fresh y c ∙ ap (λ (b : Bool). b || eqb y c) (like.mind c h);
            long = like.long;
          }
      at false =
          record {
            wants = like.wants;
            due = like.due;
            waiting = like.waiting;
            mind = λ c h. like.mind c h ∙ sym (or-false (x.mind c));
            long = like.long;
          }

  -- a result for a client with room for it
  pub like_resulted : (opcode code : ℕ) → a.waiting < most_results → LikeAccount (resulting (record { opcode = opcode; code = code }) x) (resulted opcode code a)
  like_resulted opcode code room = at (has a.subscribed control_slot) refl
    where
      e : Entry
      e = record { opcode = opcode; code = code }

      wanted : has a.subscribed control_slot ≡ x.wants control_slot
      wanted = like.wants control_slot (omega arith)

      at : (t : Bool) → has a.subscribed control_slot ≡ t → LikeAccount (resulting e x) (resulted opcode code a)
      at false q =
          subst (LikeAccount (resulting e x)) (sym (resulted_none a opcode code q))
          (record {
            wants = like.wants;
            due = like.due;
            waiting = like.waiting ∙ ap (λ (b : Bool). pick b (x.waiting ++ (e ∷ [])) x.waiting) (sym (sym wanted ∙ q));
            mind = like.mind;
            long = like.long;
          })
      at true q =
          record {
            wants = λ s h. ap (λ (r : Account). has r.subscribed s) is ∙ like.wants s h;
            due = λ s h n.
                ap (λ (r : Account). has r.owed s) is ∙ has_insert a.owed control_slot s
                ∙ (λ i. like.due s h n i || ne_eqb control_slot s (λ f. n (sym f)) i) ∙ or-false (x.due s);
            waiting =
                resulted_queue a opcode code q room like.long
                ∙ (λ i. like.waiting i ++ (e ∷ []))
                ∙ ap (λ (b : Bool). pick b (x.waiting ++ (e ∷ [])) x.waiting) (sym (sym wanted ∙ q));
            mind = λ c h. ap (λ (r : Account). has r.fresh c) is ∙ like.mind c h;
            long = ap (λ (r : Account). length r.results) is ∙ length-set a.results a.waiting e ∙ like.long;
          }
        where
          is : resulted opcode code a ≡ with_slots a.subscribed (insert a.owed control_slot) (a.waiting + 1) (set a.results a.waiting e) a
          is = resulted_is a opcode code q room

  -- a slot was served: of 18 there was a result
  pub like_served : (s : ℕ) → a.waiting ≤ most_results → (s ≡ control_slot → 0 < a.waiting) → LikeAccount (serving s x) (served s a)
  like_served s few some = at (ℕ_discrete s control_slot)
    where
      cleared : (t : ℕ) → t < slot_count → (t ≡ control_slot → ⊥) → has (remove a.owed s) t ≡ (x.due t && not (eqb s t))
      cleared t h n = has_remove a.owed s t ∙ ap (λ (b : Bool). b && not (eqb s t)) (like.due t h n)

      at : Dec (s ≡ control_slot) → LikeAccount (serving s x) (served s a)
      at (no n) =
          subst (LikeAccount (serving s x)) (sym (served_value a s n))
          (record {
            wants = like.wants;
            due = cleared;
            waiting = like.waiting ∙ ap (λ (b : Bool). pick b (behind x.waiting) x.waiting) (sym (ne_eqb s control_slot n));
            mind = like.mind;
            long = like.long;
          })
      at (yes e) = subst (λ (t : ℕ). LikeAccount (serving t x) (served t a)) (sym e) result
        where
          is : served control_slot a
              ≡ with_slots a.subscribed (pick (ltb 1 a.waiting) a.owed (remove a.owed control_slot)) (a.waiting - 1) (without_oldest a.results) a
          is = served_result a (some e)

          -- of the other slots nothing changes
          left : (t : ℕ) → (t ≡ control_slot → ⊥) → (b : Bool) → has (pick b a.owed (remove a.owed control_slot)) t ≡ has a.owed t
          left t n true = refl
          left t n false = remove_other a.owed control_slot t (λ f. n (sym f))

          others : (t : ℕ) → (t ≡ control_slot → ⊥) → x.due t ≡ (x.due t && not (eqb control_slot t))
          others t n = sym (ap (λ (b : Bool). x.due t && not b) (ne_eqb control_slot t (λ f. n (sym f))) ∙ and-true (x.due t))

          dropped_one : (l : List Entry) → drop 1 l ≡ behind l
          dropped_one [] = refl
          dropped_one (e ∷ l) = refl

          result : LikeAccount (serving control_slot x) (served control_slot a)
          result =
              record {
                wants = λ t h. ap (λ (r : Account). has r.subscribed t) is ∙ like.wants t h;
                due = λ t h n. ap (λ (r : Account). has r.owed t) is ∙ left t n (ltb 1 a.waiting) ∙ like.due t h n ∙ others t n;
                waiting = served_queue a (some e) like.long few ∙ ap (drop 1) like.waiting ∙ dropped_one x.waiting;
                mind = λ c h. ap (λ (r : Account). has r.fresh c) is ∙ like.mind c h;
                long = ap (λ (r : Account). length r.results) is ∙ shifted_long a.results like.long;
              }
