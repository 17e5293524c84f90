-- That the comparison tells equal values, what a change is by it, and how the word of changes is gathered bit by bit. Assumes nothing.
use mathlib.Core.Path.{◌≡◌, refl, sym, ap, ◌∙◌}
use mathlib.Core.Bool.{Bool, true, false, not, ◌&&◌, ◌||◌, and-false, or-false, false≢true}
use mathlib.Core.List.{List, [], ◌∷◌}
use mathlib.Core.Logic.{◌↔◌, ⊎_elim}
use Prim.Native.Nat.{ℕ, min, ◌-◌, ◌^◌, ◌≤◌, ◌<◌}
use native.Mathlib.Decide.{ℕ_discrete}
use native.Mathlib.Omega.{arith}
use borrow.Author.Tests.{eq-eqb, ne_eqb, eqb-true, not-false}
use lib.Dec.{eqb}
use lib.ListN.{length, take}
use lib.Seq.{take_all}
use Rattle.std.proofs.lemmas.Slice.Eq.{bytes_eq-Decides}
use Rattle.ground.specs.Cases.{pick, has}
use Rattle.ground.specs.Words.{six_octets}
use Rattle.ground.proofs.Words.{six_same}
use Rattle.ground.proofs.Cases.{le_or, true_or}
use Rattle.player_walk.specs.Steps.{move_in}
use Rattle.player_walk.specs.declared.Step.TheVariants.{Next}
use Rattle.player_orders.specs.Order.{repeats}
use Rattle.player_state.specs.declared.Player.{Player}
use Rattle.player_moves.specs.Moves.{in_order, track_after, named, or_in_order, next_track}
use Rattle.player_values.specs.Values.{Source, word_octets, track_found, next_now, object_octets, value_of}
use Rattle.player_values.proofs.Laws.{word_apart, value_none}
use Rattle.desk_slots.specs.Slots.{insert}
use Rattle.desk_slots.proofs.Bits.{has_zero}
use Rattle.desk_slots.proofs.SlotLaws.{has_insert}
use Rattle.desk_slots.specs.Characteristics.{readables, is_in, set_of}
use Rattle.desk_slots.proofs.SetLaws.{set_is}
use Rattle.desk_notices.specs.Changes.{same_octets, SameNext, changed, track_number, track_changed}

pub same_is_equal : (s t : List ℕ) → (same_octets s t ≡ true) ↔ (s ≡ t)
unfolding same_octets
same_is_equal = bytes_eq-Decides

pub ne_same : (s t : List ℕ) → (s ≡ t → ⊥) → same_octets s t ≡ false
ne_same s t h = ⊎_elim (λ e. absurd (h ((same_is_equal s t).0 e))) (λ e. e) (true_or (same_octets s t))

-- where octets tell a number, they are the same where the numbers are
same_by : (octets : ℕ → List ℕ) (a b : ℕ) → (octets a ≡ octets b → a ≡ b) → same_octets (octets a) (octets b) ≡ eqb a b
same_by octets a b tell = at (ℕ_discrete a b)
  where
    at : Dec (a ≡ b) → same_octets (octets a) (octets b) ≡ eqb a b
    at (yes e) = (same_is_equal (octets a) (octets b)).1 (ap octets e) ∙ sym (eq-eqb a b e)
    at (no n) = ne_same (octets a) (octets b) (λ e. n (tell e)) ∙ sym (ne_eqb a b n)

-- the octets of two words
pub same_word : (a b : ℕ) → a < 2 ^ 32 → b < 2 ^ 32 → same_octets (word_octets a) (word_octets b) ≡ eqb a b
same_word a b h k = same_by word_octets a b (word_apart a b h k)

-- those of two objects, of which none has no octets
object_apart : (a b : ℕ) → a < 281474976710656 → b < 281474976710656 → object_octets a ≡ object_octets b → a ≡ b
unfolding object_octets six_octets
object_apart a b h k e = at (eqb a 0) (eqb b 0) refl refl e
  where
    at : (s t : Bool) → eqb a 0 ≡ s → eqb b 0 ≡ t → pick s [] (six_octets a) ≡ pick t [] (six_octets b) → a ≡ b
    at true true x y same = eqb-true a 0 x ∙ sym (eqb-true b 0 y)
    at true false x y same = absurd (let z : ⊥ = omega (arith, ap (λ (l : List ℕ). length l) same) in z)
    at false true x y same = absurd (let z : ⊥ = omega (arith, ap (λ (l : List ℕ). length l) same) in z)
    at false false x y same = six_same a b h k same

pub same_object : (a b : ℕ) → a < 281474976710656 → b < 281474976710656 → same_octets (object_octets a) (object_octets b) ≡ eqb a b
same_object a b h k = same_by object_octets a b (object_apart a b h k)

-- a length held to 128, of 128 octets
pub take_held : (s : List ℕ) (n m : ℕ) → length s ≡ 128 → m ≡ min n 128 → take (m - 0) s ≡ take n s
take_held s n m l e =
    ⊎_elim
    (λ h. let f : m - 0 ≡ n = omega arith in ap (λ (x : ℕ). take x s) f)
    (λ h. let f : length s ≤ m - 0 = omega arith in let g : length s ≤ n = omega arith in take_all (m - 0) s f ∙ sym (take_all n s g))
    (le_or n 128)

module _ (from : Source) (p q : Player) (c : ℕ) where
  -- nothing is changed exactly where the two values are equal
  pub changed_not : (changed from p q c ≡ false) ↔ (value_of from p c ≡ value_of from q c)
  unfolding changed
  changed_not = (
    (λ e. (same_is_equal (value_of from p c) (value_of from q c)).0 (not-false (same_octets (value_of from p c) (value_of from q c)) e)),
    (λ e. ap not ((same_is_equal (value_of from p c) (value_of from q c)).1 e)),
  )

-- a change is told by what the two values are
pub by_values : (from : Source) (p q : Player) (c : ℕ) {x y : List ℕ} → value_of from p c ≡ x → value_of from q c ≡ y → not (same_octets x y) ≡ changed from p q c
unfolding changed
by_values from p q c e f = λ i. not (same_octets (sym e i) (sym f i))

-- of a state with itself
pub unchanged_self : (from : Source) (p : Player) (c : ℕ) → (changed from p p c ≡ false) × (track_changed p p ≡ false)
unfolding changed track_changed
unchanged_self from p c = (ap not ((same_is_equal (value_of from p c) _).1 refl), ap not (eq-eqb (track_number p) (track_number p) refl))

-- what is in a list is none that is not
out : (s : List ℕ) (c : ℕ) → is_in s c ≡ false → (k : ℕ) → is_in s k ≡ true → c ≡ k → ⊥
out s c e k h q = false≢true (sym e ∙ ap (is_in s) q ∙ h)

-- what is not readable never changes, so that the word of changes tells every change
module _ (from : Source) (p q : Player) (c : ℕ) where
  pub changed_unread : is_in readables c ≡ false → changed from p q c ≡ false
  unfolding is_in
  changed_unread e = (changed_not from p q c).1 (none p ∙ sym (none q))
    where
      no : (k : ℕ) → is_in readables k ≡ true → c ≡ k → ⊥
      no = out readables c e

      none : (r : Player) → value_of from r c ≡ []
      none r =
          value_none from.groups from.tracks from.text from.renames from.office r c (no 1 refl) (no 5 refl) (no 6 refl) (no 7 refl) (no 8 refl) (no 9 refl) (no 10 refl)
          (no 11 refl) (no 12 refl) (no 13 refl) (no 14 refl) (no 15 refl) (no 16 refl) (no 17 refl) (no 19 refl) (no 22 refl)

  pub changed_readable : (is_in readables c && changed from p q c) ≡ changed from p q c
  changed_readable =
      ⊎_elim
      (λ e. ap (λ (b : Bool). b && changed from p q c) e)
      (λ e. ap (λ (b : Bool). b && changed from p q c) e ∙ sym (changed_unread e))
      (true_or (is_in readables c))

-- a word that has the bits of those numbers of s of which f holds
pub record Gathers (f : ℕ → Bool) (s : List ℕ) (w : ℕ) : Type 0 where
  pub bits : (c : ℕ) → has w c ≡ (is_in s c && f c)

both_bits : (m x : Bool) → ((m && x) || (x && true)) ≡ x
both_bits true true = refl
both_bits true false = refl
both_bits false true = refl
both_bits false false = refl

-- what is in a set that a number is put in where a test says so
has_put : (on : Bool) (w k c : ℕ) → has (pick on (insert w k) w) c ≡ (has w c || (on && eqb k c))
has_put true w k c = has_insert w k c
has_put false w k c = sym (or-false (has w c))

module _ (f : ℕ → Bool) where
  pub gathers_none : Gathers f [] 0
  unfolding is_in
  gathers_none = record { bits = has_zero }

  -- the bit k, put where f holds of k
  pub gathers_bit : {s : List ℕ} {w v : ℕ} (k : ℕ) {on : Bool} → Gathers f s w → on ≡ f k → v ≡ pick on (insert w k) w → Gathers f (k ∷ s) v
  unfolding is_in
  gathers_bit {s} {w} {v} k {on} g e h = record { bits = λ c. at c (ℕ_discrete k c) }
    where
      at : (c : ℕ) → Dec (k ≡ c) → has v c ≡ ((eqb k c || is_in s c) && f c)
      at c (yes q) = rw (h, has_put on w k c, g.bits c, eq-eqb k c q, e, ap f q) (both_bits (is_in s c) (f c))
      at c (no q) = rw (h, has_put on w k c, g.bits c, ne_eqb k c q, and-false on) (or-false (is_in s c && f c))

  -- a number of which f does not hold
  pub gathers_past : {s : List ℕ} {w : ℕ} (k : ℕ) → Gathers f s w → f k ≡ false → Gathers f (k ∷ s) w
  unfolding is_in
  gathers_past {s} {w} k g e = record { bits = λ c. at c (ℕ_discrete k c) }
    where
      at : (c : ℕ) → Dec (k ≡ c) → has w c ≡ ((eqb k c || is_in s c) && f c)
      at c (yes q) = rw (g.bits c, eq-eqb k c q, sym (ap f q) ∙ e) (and-false (is_in s c))
      at c (no q) = rw (g.bits c, ne_eqb k c q)

-- the word that gathers the readable characteristics that changed is the set of all that did
pub gathered : (from : Source) (p q : Player) (w : ℕ) → w < 2 ^ 32 → Gathers (changed from p q) readables w → w ≡ set_of 32 (changed from p q)
gathered from p q w h g = set_is (changed from p q) 32 w h (λ c l. g.bits c ∙ changed_readable from p q c)

-- the next track is told by what `SameNext` names
pub next_same : (groups tracks : List ℕ) (p q : Player) → SameNext p q → next_now groups tracks p ≡ next_now groups tracks q
unfolding next_now next_track track_after
next_same groups tracks p q s =
    λ i.
    pick (s.active i)
    (track_found
    (or_in_order (named (s.upcoming i))
    (move_in Next (repeats (s.order i)) (in_order groups tracks (s.order i) (s.group i) (s.track i)) (s.track i))))
    0
