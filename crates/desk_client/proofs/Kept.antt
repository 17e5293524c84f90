-- What becomes of an account keeps the clients' part of 201. Assumes nothing.
use mathlib.Core.Path.{◌≡◌, refl, sym, ap, ◌∙◌, subst}
use mathlib.Core.Bool.{Bool, true, false, not, ◌&&◌, ◌||◌, or-false, and-false}
use mathlib.Core.Logic.{◌⊎◌, inl, inr, ⊎_elim}
use mathlib.Core.List.{[], ◌∷◌}
use Prim.Native.Nat.{ℕ, ◌+◌, ◌-◌, ◌≤◌, ◌<◌, ◌^◌}
use native.Mathlib.Decide.{ℕ_discrete}
use native.Mathlib.Omega.{arith}
use borrow.Author.Tests.{eq-eqb, ne_eqb, eqb-true, lt-ltb, le-ltb, ltb-true, ltb-false}
use lib.Bits.{bit_and, and_le_l, and_le_r}
use lib.Dec.{eqb, ltb}
use lib.ListN.{length, get_or, set, drop, length-drop, get_or-append}
use lib.Seq.{get_or-set_same, get_or-set_other, get_or-drop}
use Rattle.ground.specs.Cases.{pick, within, has}
use Rattle.ground.specs.Lists.{all_below}
use Rattle.ground.proofs.Bounded.{all_at, all_intro}
use Rattle.ground.proofs.Cases.{true_or, clash}
use Rattle.desk_slots.specs.Slots.{slot_count, insert, remove, union, inter, minus}
use Rattle.desk_slots.specs.Characteristics.{readables, is_in, set_of}
use Rattle.desk_slots.proofs.Bits.{has_and, ext}
use Rattle.desk_slots.proofs.SetLaws.{below, set_lt, set_has, in_below}
use Rattle.desk_slots.proofs.SlotLaws.{has_insert, has_remove, has_minus, insert_lt, remove_lt, union_lt, inter_lt, minus_lt, insert_same, remove_same, remove_other}
use Rattle.desk_client.specs.declared.Entry.{Entry}
use Rattle.desk_client.specs.declared.Account.{Account}
use Rattle.desk_client.specs.Client.{control_slot, most_results, only_readable, blank_entry, codes_right}
use Rattle.desk_client.specs.Setters.{with_slots}
use Rattle.desk_client.specs.Queue.{without_oldest}
use Rattle.desk_client.specs.Duties.{joined, dropped, noted, was_read, resulted, served}
use Rattle.desk_client.proofs.Rule.{Sound, Blank}
use Rattle.desk_client.proofs.SlotBySlot.{noted_owed, resulted_none, resulted_is, served_value, served_result}

-- a set with a slot put in, and a set that lost one, hold what they should
or_left : (a b : Bool) → a ≡ true → (a || b) ≡ true
or_left true b e = refl
or_left false b e = clash e

cut : (a t : Bool) → (a && not t) ≡ true → (a ≡ true) × (t ≡ false)
cut true true e = clash e
cut true false e = (refl, refl)
cut false t e = clash e

keep : (a t : Bool) → a ≡ true → t ≡ false → (a && not t) ≡ true
keep true t e q = ap not q
keep false t e q = clash e

-- what is owed after a note was owed, or is wanted
noted_covered : (o w d : Bool) → (o ≡ true → w ≡ true) → (o || (w && d)) ≡ true → w ≡ true
noted_covered true w d f e = f refl
noted_covered false true d f e = refl
noted_covered false false d f e = clash e

-- the changed marks: only of characteristics that may be read, bit by bit
abbrev readable_set : ℕ
readable_set = set_of 32 (is_in readables)

marks_lt : (w : ℕ) → only_readable w ≡ true → w < 2 ^ 32
marks_lt w e = omega (arith, eqb-true (bit_and w readable_set) w e, and_le_r w readable_set, set_lt (is_in readables) 32)

marks_in : (w : ℕ) → only_readable w ≡ true → (x : ℕ) → has w x ≡ true → has readable_set x ≡ true
marks_in w e x h =
    right (has w x) (has readable_set x) (sym (has_and w readable_set x) ∙ ap (λ (v : ℕ). has v x) (eqb-true (bit_and w readable_set) w e)) h
  where
    right : (a b : Bool) → (a && b) ≡ a → a ≡ true → b ≡ true
    right true b q k = q
    right false b q k = clash k

in_marks : (w : ℕ) → w < 2 ^ 32 → ((x : ℕ) → has w x ≡ true → has readable_set x ≡ true) → only_readable w ≡ true
in_marks w h f =
    eq-eqb (bit_and w readable_set) w (ext 32 (bit_and w readable_set) w (omega (arith, and_le_l w readable_set)) h (λ x l. has_and w readable_set x ∙ only (has w x) (has readable_set x) (f x)))
  where
    only : (a b : Bool) → (a ≡ true → b ≡ true) → (a && b) ≡ a
    only true b k = k refl
    only false b k = refl

readable_less : (w altered : ℕ) → only_readable w ≡ true → only_readable (minus w altered) ≡ true
readable_less w altered e =
    in_marks (minus w altered) (minus_lt 32 w altered (marks_lt w e))
    (λ x h. marks_in w e x (cut (has w x) (has altered x) (sym (has_minus w altered x) ∙ h)).0)

readable_more : (w x : ℕ) → only_readable w ≡ true → is_in readables x ≡ true → only_readable (insert w x) ≡ true
readable_more w x e h =
    let l = in_below 32 readables below_32 x h in
    in_marks (insert w x) (insert_lt 32 w x (marks_lt w e) l)
    (λ y q. ⊎_elim
    (λ (a : has w y ≡ true). marks_in w e y a)
    (λ (a : eqb x y ≡ true). ap (has readable_set) (sym (eqb-true x y a)) ∙ set_has (is_in readables) 32 x l ∙ h)
    (either (has w y) (eqb x y) (sym (has_insert w x y) ∙ q)))
  where
    below_32 : below 32 readables ≡ true
    below_32 = refl

    either : (a b : Bool) → (a || b) ≡ true → (a ≡ true) ⊎ (b ≡ true)
    either true b k = inl refl
    either false b k = inr k

module _ (a : Account) (sound : Sound a) where
  pub kept_joined : (s : ℕ) → s < slot_count → Sound (joined s a)
  unfolding joined
  kept_joined s h =
      record {
        subscribed_slots = insert_lt slot_count a.subscribed s sound.subscribed_slots h;
        owed_slots = sound.owed_slots;
        readable = sound.readable;
        covered = λ t e. has_insert a.subscribed s t ∙ or_left (has a.subscribed t) (eqb s t) (sound.covered t e);
        waits = sound.waits;
        few = sound.few;
        codes = sound.codes;
      }

  -- unsubscribing from 18 leaves no result, from another slot as many as there were
  pub kept_dropped : (s : ℕ) → Sound (dropped s a)
  unfolding dropped codes_right all_below
  kept_dropped s =
      record {
        subscribed_slots = remove_lt slot_count a.subscribed s sound.subscribed_slots;
        owed_slots = remove_lt slot_count a.owed s sound.owed_slots;
        readable = sound.readable;
        covered = λ t e.
            let k = cut (has a.owed t) (eqb s t) (sym (has_remove a.owed s t) ∙ e) in
            has_remove a.subscribed s t ∙ keep (has a.subscribed t) (eqb s t) (sound.covered t k.0) k.1;
        waits = waits (ℕ_discrete s control_slot);
        few = few (eqb s control_slot);
        codes = codes (eqb s control_slot);
      }
    where
      waits : Dec (s ≡ control_slot) → has (remove a.owed s) control_slot ≡ ltb 0 (pick (eqb s control_slot) 0 a.waiting)
      waits (yes e) = ap (λ (x : ℕ). has (remove a.owed x) control_slot) e ∙ remove_same a.owed control_slot ∙ sym (ap (λ (b : Bool). ltb 0 (pick b 0 a.waiting)) (eq-eqb s control_slot e))
      waits (no n) = remove_other a.owed s control_slot n ∙ sound.waits ∙ sym (ap (λ (b : Bool). ltb 0 (pick b 0 a.waiting)) (ne_eqb s control_slot n))

      few : (t : Bool) → pick t 0 a.waiting ≤ most_results
      few true = omega arith
      few false = sound.few

      codes : (t : Bool) → codes_right (pick t 0 a.waiting) a.results ≡ true
      codes true = refl
      codes false = sound.codes

  -- what fell due has nothing of 18
  pub kept_noted : (due altered : ℕ) → has due control_slot ≡ false → Sound (noted due altered a)
  unfolding noted
  kept_noted due altered none =
      record {
        subscribed_slots = sound.subscribed_slots;
        owed_slots = union_lt slot_count a.owed (inter a.subscribed due) sound.owed_slots (inter_lt slot_count a.subscribed due sound.subscribed_slots);
        readable = fewer sound.readable;
        covered = λ t e. noted_covered (has a.owed t) (has a.subscribed t) (has due t) (sound.covered t) (sym (noted_owed a due altered t) ∙ e);
        waits = noted_owed a due altered control_slot ∙ ap (λ (b : Bool). has a.owed control_slot || (has a.subscribed control_slot && b)) none ∙ same ∙ sound.waits;
        few = sound.few;
        codes = sound.codes;
      }
    where
      same : (has a.owed control_slot || (has a.subscribed control_slot && false)) ≡ has a.owed control_slot
      same = ap (λ (b : Bool). has a.owed control_slot || b) (and-false (has a.subscribed control_slot)) ∙ or-false (has a.owed control_slot)

      fewer : only_readable a.fresh ≡ true → only_readable (minus a.fresh altered) ≡ true
      fewer = readable_less a.fresh altered

  pub kept_read : (x : ℕ) → is_in readables x ≡ true → Sound (was_read x a)
  unfolding was_read
  kept_read x h =
      record {
        subscribed_slots = sound.subscribed_slots;
        owed_slots = sound.owed_slots;
        readable = readable_more a.fresh x sound.readable h;
        covered = sound.covered;
        waits = sound.waits;
        few = sound.few;
        codes = sound.codes;
      }

  -- a result of 1 to 4 behind those that wait
  pub kept_resulted : (opcode code : ℕ) → length a.results ≡ most_results → a.waiting < most_results → within 1 4 code ≡ true → Sound (resulted opcode code a)
  kept_resulted opcode code long room right =
      ⊎_elim
      (λ e. subst Sound (sym (resulted_is a opcode code e room)) (with_one e))
      (λ e. subst Sound (sym (resulted_none a opcode code e)) sound)
      (true_or (has a.subscribed control_slot))
    where
      entry : Entry
      entry = record { opcode = opcode; code = code }

      each : (i : ℕ) → i < a.waiting + 1 → within 1 4 (get_or (set a.results a.waiting entry) i blank_entry).code ≡ true
      each i h =
          elim (ℕ_discrete i a.waiting) [
            | yes e ↦
                ap (λ (n : ℕ). within 1 4 (get_or (set a.results a.waiting entry) n blank_entry).code) e
                ∙ ap (λ (x : Entry). within 1 4 x.code) (get_or-set_same a.results a.waiting entry blank_entry (omega arith)) ∙ right
            | no n ↦
                ap (λ (x : Entry). within 1 4 x.code) (get_or-set_other a.results a.waiting i entry blank_entry n)
                ∙ all_at (λ (j : ℕ). within 1 4 (get_or a.results j blank_entry).code) a.waiting sound.codes i (omega arith)
          ]

      with_one : has a.subscribed control_slot ≡ true
          → Sound (with_slots a.subscribed (insert a.owed control_slot) (a.waiting + 1) (set a.results a.waiting entry) a)
      with_one wants =
          record {
            subscribed_slots = sound.subscribed_slots;
            owed_slots = insert_lt slot_count a.owed control_slot sound.owed_slots (omega arith);
            readable = sound.readable;
            covered = λ t e. ⊎_elim
                (λ (q : has a.owed t ≡ true). sound.covered t q)
                (λ (q : has a.owed t ≡ false). ap (has a.subscribed) (sym (eqb-true control_slot t (sym (ap (λ (b : Bool). b || eqb control_slot t) q) ∙ sym (has_insert a.owed control_slot t) ∙ e))) ∙ wants)
                (true_or (has a.owed t));
            waits = insert_same a.owed control_slot ∙ sym (lt-ltb 0 (a.waiting + 1) (omega arith));
            few = omega arith;
            codes = all_intro (λ (j : ℕ). within 1 4 (get_or (set a.results a.waiting entry) j blank_entry).code) (a.waiting + 1) each;
          }

  -- a slot that is owed was served
  pub kept_served : (s : ℕ) → length a.results ≡ most_results → has a.owed s ≡ true → Sound (served s a)
  kept_served s long owes = at (ℕ_discrete s control_slot)
    where
      value : (s ≡ control_slot → ⊥) → Sound (with_slots a.subscribed (remove a.owed s) a.waiting a.results a)
      value n =
          record {
            subscribed_slots = sound.subscribed_slots;
            owed_slots = remove_lt slot_count a.owed s sound.owed_slots;
            readable = sound.readable;
            covered = λ t e. sound.covered t (cut (has a.owed t) (eqb s t) (sym (has_remove a.owed s t) ∙ e)).0;
            waits = remove_other a.owed s control_slot n ∙ sound.waits;
            few = sound.few;
            codes = sound.codes;
          }

      some : has a.owed control_slot ≡ true → 0 < a.waiting
      some e = ltb-true 0 a.waiting (sym sound.waits ∙ e)

      behind : (i : ℕ) → i < a.waiting - 1 → within 1 4 (get_or (without_oldest a.results) i blank_entry).code ≡ true
      behind i l =
          ap (λ (x : Entry). within 1 4 x.code) (get_or-append (drop 1 a.results) (blank_entry ∷ []) blank_entry i (shorter l) ∙ get_or-drop 1 a.results i blank_entry)
          ∙ all_at (λ (j : ℕ). within 1 4 (get_or a.results j blank_entry).code) a.waiting sound.codes (1 + i) (omega arith)
        where
          shorter : i < a.waiting - 1 → i < length (drop 1 a.results)
          shorter q = simp length-drop (omega (arith, sound.few))

      left : (t : Bool) → ltb 1 a.waiting ≡ t → has a.owed control_slot ≡ true
          → (pick t a.owed (remove a.owed control_slot) < 2 ^ slot_count)
          × ((u : ℕ) → has (pick t a.owed (remove a.owed control_slot)) u ≡ true → has a.subscribed u ≡ true)
          × (has (pick t a.owed (remove a.owed control_slot)) control_slot ≡ ltb 0 (a.waiting - 1))
      left true e o = (sound.owed_slots, sound.covered, o ∙ sym (lt-ltb 0 (a.waiting - 1) (omega (arith, ltb-true 1 a.waiting e))))
      left false e o = (
        remove_lt slot_count a.owed control_slot sound.owed_slots,
        (λ u q. sound.covered u (cut (has a.owed u) (eqb control_slot u) (sym (has_remove a.owed control_slot u) ∙ q)).0),
        remove_same a.owed control_slot ∙ sym (le-ltb 0 (a.waiting - 1) (omega (arith, ltb-false 1 a.waiting e))),
      )

      result : has a.owed control_slot ≡ true
          → Sound (with_slots a.subscribed (pick (ltb 1 a.waiting) a.owed (remove a.owed control_slot)) (a.waiting - 1) (without_oldest a.results) a)
      result o =
          let l = left (ltb 1 a.waiting) refl o in
          record {
            subscribed_slots = sound.subscribed_slots;
            owed_slots = l.0;
            readable = sound.readable;
            covered = l.1;
            waits = l.2;
            few = omega (arith, sound.few);
            codes = all_intro (λ (j : ℕ). within 1 4 (get_or (without_oldest a.results) j blank_entry).code) (a.waiting - 1) behind;
          }

      at : Dec (s ≡ control_slot) → Sound (served s a)
      at (no n) = subst Sound (sym (served_value a s n)) (value n)
      at (yes e) =
          let o = ap (has a.owed) (sym e) ∙ owes in
          subst (λ (t : ℕ). Sound (served t a)) (sym e) (subst Sound (sym (served_result a (some o))) (result o))

-- an account of a client that is not connected is told nothing
pub kept_blank : (a : Account) (due altered : ℕ) → Blank a → Blank (noted due altered a)
unfolding noted union inter minus
kept_blank a due altered b =
    record {
      subscribed = b.subscribed;
      owed = rw (b.owed, b.subscribed);
      fresh = rw b.fresh;
      waiting = b.waiting;
    }
