-- The set of the numbers of which something holds: what is in it, its bound, and that its bits settle it. Assumes nothing.
use mathlib.Core.Path.{◌≡◌, refl, sym, ap, ◌∙◌}
use mathlib.Core.Bool.{Bool, true, false, not, ◌&&◌, ◌||◌}
use mathlib.Core.List.{List, [], ◌∷◌}
use mathlib.Core.Logic.{⊎_elim}
use Prim.Native.Nat.{ℕ, zero, suc, ◌+◌, ◌^◌, ◌<◌, ◌≤◌}
use native.Mathlib.Decide.{ℕ_discrete}
use native.Mathlib.Nat.{lt_of_lt_of_le, le_antisymm}
use native.Mathlib.Numerals.{add-one}
use native.Mathlib.Omega.{arith}
use borrow.Author.Tests.{lt-ltb, le-ltb, eqb-true, ltb-true}
use lib.Dec.{eqb, ltb, lit≤}
use lib.Pow.{pow_mono}
use Rattle.ground.specs.Cases.{pick, has}
use Rattle.ground.proofs.Cases.{le_or, true_or, clash, and_left, and_right}
use Rattle.desk_slots.specs.Slots.{insert, minus}
use Rattle.desk_slots.specs.Characteristics.{readables, is_in, set_of}
use Rattle.desk_slots.proofs.Bits.{has_above, ext}
use Rattle.desk_slots.proofs.SlotLaws.{has_minus, insert_same, insert_other, insert_lt, minus_lt}

module _ (p : ℕ → Bool) where
  pub set_lt : (n : ℕ) → set_of n p < 2 ^ n
  unfolding set_of
  set_lt zero = lit≤ tt
  set_lt (suc n) = at (p n) (lt_of_lt_of_le (set_lt n) (pow_mono (omega arith)))
    where
      at : (t : Bool) → set_of n p < 2 ^ suc n → pick t (insert (set_of n p) n) (set_of n p) < 2 ^ suc n
      at true wide = insert_lt (suc n) (set_of n p) n wide (omega arith)
      at false wide = wide

  pub set_has : (n s : ℕ) → s < n → has (set_of n p) s ≡ p s
  unfolding set_of
  set_has zero s h = absurd (let z : ⊥ = omega arith in z)
  set_has (suc n) s h = at (ℕ_discrete s n) (p n) refl (set_has n s)
    where
      at : Dec (s ≡ n) → (t : Bool) → p n ≡ t → (s < n → has (set_of n p) s ≡ p s) → has (pick t (insert (set_of n p) n) (set_of n p)) s ≡ p s
      at (yes e) true q ih = ap (has (insert (set_of n p) n)) e ∙ insert_same (set_of n p) n ∙ sym (ap p e ∙ q)
      at (yes e) false q ih = ap (has (set_of n p)) e ∙ has_above n (set_of n p) n (set_lt n) (omega arith) ∙ sym (ap p e ∙ q)
      at (no e) true q ih = insert_other (set_of n p) n s (λ f. e (sym f)) ∙ ih (omega arith)
      at (no e) false q ih = ih (omega arith)

  pub set_above : (n s : ℕ) → n ≤ s → has (set_of n p) s ≡ false
  set_above n s h = has_above n (set_of n p) s (set_lt n) h

  -- a word is the set where its bits say so
  pub set_is : (n w : ℕ) → w < 2 ^ n → ((s : ℕ) → s < n → has w s ≡ p s) → w ≡ set_of n p
  set_is n w h f = ext n w (set_of n p) h (set_lt n) (λ s l. f s l ∙ sym (set_has n s l))

  -- a loop's turn: the next number, put in where p holds of it
  pub set_turn : (i w v : ℕ) (t : Bool) → w ≡ set_of i p → t ≡ p i → v ≡ pick t (insert w i) w → v ≡ set_of (i + 1) p
  unfolding set_of
  set_turn i w v t e q h = rw add-one (h ∙ λ k. pick (q k) (insert (e k) i) (e k))

  -- the loop's end
  pub set_end : {n i w : ℕ} → i ≤ n → n ≤ i → w ≡ set_of i p → w ≡ set_of n p
  set_end {n} {i} {w} h k e = e ∙ ap (λ (m : ℕ). set_of m p) (le_antisymm h k)

-- what holds of the same numbers makes the same set
pub set_same : (n : ℕ) (p q : ℕ → Bool) → ((s : ℕ) → s < n → p s ≡ q s) → set_of n p ≡ set_of n q
set_same n p q f = set_is q n (set_of n p) (set_lt p n) (λ s h. set_has p n s h ∙ f s h)

pub minus_set : (n : ℕ) (p q : ℕ → Bool) → minus (set_of n p) (set_of n q) ≡ set_of n (λ s. p s && not (q s))
minus_set n p q =
    set_is (λ s. p s && not (q s)) n (minus (set_of n p) (set_of n q)) (minus_lt n (set_of n p) (set_of n q) (set_lt p n))
    (λ s h. has_minus (set_of n p) (set_of n q) s ∙ λ k. set_has p n s h k && not (set_has q n s h k))

-- each number of a list lies below n
abbrev pub below : ℕ → List ℕ → Bool
below n [] = true
below n (k ∷ s) = ltb k n && below n s

pub in_below : (n : ℕ) (s : List ℕ) → below n s ≡ true → (c : ℕ) → is_in s c ≡ true → c < n
unfolding is_in
in_below n [] b c e = clash e
in_below n (k ∷ s) b c e = at (eqb k c) refl e (in_below n s (and_right (ltb k n) (below n s) b) c)
  where
    at : (t : Bool) → eqb k c ≡ t → (t || is_in s c) ≡ true → (is_in s c ≡ true → c < n) → c < n
    at true q h ih = omega (arith, eqb-true k c q, ltb-true k n (and_left (ltb k n) (below n s) b))
    at false q h ih = ih h

-- a number is in a list exactly where its bit is in the list's word
pub listed : (n : ℕ) (s : List ℕ) → below n s ≡ true → (c : ℕ) → (ltb c n && has (set_of n (is_in s)) c) ≡ is_in s c
listed n s b c =
    ⊎_elim
    (λ h. ap (λ (t : Bool). t && has (set_of n (is_in s)) c) (le-ltb c n h) ∙ sym (outside h))
    (λ h. ap (λ (t : Bool). t && has (set_of n (is_in s)) c) (lt-ltb c n h) ∙ set_has (is_in s) n c h)
    (le_or n c)
  where
    outside : n ≤ c → is_in s c ≡ false
    outside h = ⊎_elim (λ e. absurd (let z : ⊥ = omega (arith, in_below n s b c e) in z)) (λ e. e) (true_or (is_in s c))

-- the word of those that may be read
pub readable_word : set_of 32 (is_in readables) ≡ 0x004BFFE2
unfolding set_of is_in insert
readable_word = refl
