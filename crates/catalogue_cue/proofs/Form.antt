-- The form `INDEX 01 mm:ss:ff`, test by test; and that a line of fewer than eight octets has no two digits behind `INDEX `. Assumes nothing.
use mathlib.Core.Path.{◌≡◌, refl, sym, ap}
use mathlib.Core.Bool.{Bool, true, false, ◌&&◌}
use mathlib.Core.List.{List, [], ◌∷◌}
use Prim.Native.Nat.{ℕ, zero, suc, ◌+◌, ◌<◌, ◌≤◌}
use native.Mathlib.Omega.{arith}
use borrow.Author.Tests.{eqb-true, leb-true, eq-eqb, le-leb}
use lib.Dec.{eqb, leb}
use lib.ListN.{length, get_or}
use Rattle.std.proofs.lemmas.List.{get_or_past}
use Rattle.ground.proofs.Cases.{and_left, and_right, and_both, and_fails, clash}
use Rattle.ground.specs.Lists.{all_below}
use Rattle.ground.proofs.Bounded.{all_at, all_intro}
use Rattle.catalogue_cue.specs.Sheet.{octets, begins, is_digit, digits_at, number_at, colon_at, is_start, is_other_index}

-- the five tests of the time's form
abbrev pub time_form : List ℕ → Bool
time_form line = digits_at line 9 && colon_at line 11 && digits_at line 12 && colon_at line 14 && digits_at line 15

-- length and word come first, and the two limits last
pub start_by : (line : List ℕ) → length line ≡ 17 → begins (octets "INDEX 01 ") line ≡ true → is_start line ≡ (time_form line && leb (number_at line 12) 59 && leb (number_at line 15) 74)
unfolding is_start
start_by line e b = rw (eq-eqb _ _ e, b)

module _ (line : List ℕ) (e : time_form line ≡ true) where
  pub digits_15 : digits_at line 15 ≡ true
  digits_15 = and_right (digits_at line 9 && colon_at line 11 && digits_at line 12 && colon_at line 14) _ e

  four : (digits_at line 9 && colon_at line 11 && digits_at line 12 && colon_at line 14) ≡ true
  four = and_left _ (digits_at line 15) e

  three : (digits_at line 9 && colon_at line 11 && digits_at line 12) ≡ true
  three = and_left _ (colon_at line 14) four

  pub digits_12 : digits_at line 12 ≡ true
  digits_12 = and_right (digits_at line 9 && colon_at line 11) _ three

  pub digits_9 : digits_at line 9 ≡ true
  digits_9 = and_left _ (colon_at line 11) (and_left _ (digits_at line 12) three)

  pub colon_14 : colon_at line 14 ≡ true
  colon_14 = and_right (digits_at line 9 && colon_at line 11 && digits_at line 12) _ four

  pub colon_11 : colon_at line 11 ≡ true
  colon_11 = and_right (digits_at line 9) _ (and_left _ (digits_at line 12) three)

-- a line of this form
pub record StartForm (line : List ℕ) : Type 0 where
  pub long : length line ≡ 17
  pub word : begins (octets "INDEX 01 ") line ≡ true
  pub time : time_form line ≡ true
  pub seconds : number_at line 12 ≤ 59
  pub frames : number_at line 15 ≤ 74

pub start_form : (line : List ℕ) → is_start line ≡ true → StartForm line
unfolding is_start
start_form line e =
    let a = eqb (length line) 17 in
    let b = begins (octets "INDEX 01 ") line in
    let s = leb (number_at line 12) 59 in
    let f = leb (number_at line 15) 74 in
    let d9 = digits_at line 9 in
    let c11 = colon_at line 11 in
    let d12 = digits_at line 12 in
    let c14 = colon_at line 14 in
    let d15 = digits_at line 15 in
    let e8 = and_left (a && b && d9 && c11 && d12 && c14 && d15 && s) f e in
    let e7 = and_left (a && b && d9 && c11 && d12 && c14 && d15) s e8 in
    let e6 = and_left (a && b && d9 && c11 && d12 && c14) d15 e7 in
    let e5 = and_left (a && b && d9 && c11 && d12) c14 e6 in
    let e4 = and_left (a && b && d9 && c11) d12 e5 in
    let e3 = and_left (a && b && d9) c11 e4 in
    let e2 = and_left (a && b) d9 e3 in
    record {
      long = eqb-true (length line) 17 (and_left a b e2);
      word = and_right a b e2;
      time =
          and_both
          (and_both (and_both (and_both (and_right (a && b) d9 e3) (and_right (a && b && d9) c11 e4)) (and_right (a && b && d9 && c11) d12 e5)) (and_right (a && b && d9 && c11 && d12) c14 e6))
          (and_right (a && b && d9 && c11 && d12 && c14) d15 e7);
      seconds = leb-true _ _ (and_right (a && b && d9 && c11 && d12 && c14 && d15) s e8);
      frames = leb-true _ _ (and_right (a && b && d9 && c11 && d12 && c14 && d15 && s) f e);
    }

pub short_index : (line : List ℕ) → length line < 8 → is_other_index line ≡ false
unfolding is_other_index digits_at
short_index line h =
    let digits : (is_digit (get_or line 6 0) && is_digit (get_or line 7 0)) ≡ false = and_fails (is_digit (get_or line 6 0)) (ap is_digit (get_or_past line 7 0 (omega arith))) in
    rw (and_fails (begins (octets "INDEX ") line) digits)

-- what a word at the front tells of each of its places
pub begins_at : (word line : List ℕ) → begins word line ≡ true → (j : ℕ) → j < length word → get_or line j 0 ≡ get_or word j 0
unfolding begins
begins_at [] line e j h = absurd (omega arith)
begins_at (w ∷ word) [] e j h = clash e
begins_at (w ∷ word) (x ∷ line) e zero h = eqb-true x w (and_left (eqb x w) (begins word line) e)
begins_at (w ∷ word) (x ∷ line) e (suc j) h = begins_at word line (and_right (eqb x w) (begins word line) e) j (omega arith)

begins_all : (word line : List ℕ) → length word ≤ length line → ((j : ℕ) → j < length word → get_or line j 0 ≡ get_or word j 0) → begins word line ≡ true
unfolding begins
begins_all [] line h g = refl
begins_all (w ∷ word) [] h g = absurd (omega arith)
begins_all (w ∷ word) (x ∷ line) h g = and_both (eq-eqb x w (g 0 (omega arith))) (begins_all word line (omega arith) (λ j k. g (suc j) (omega arith)))

-- a word at the front, place by place
pub begins_by_places : (word line : List ℕ) → length word ≤ length line → all_below (length word) (λ j. eqb (get_or line j 0) (get_or word j 0)) ≡ begins word line
begins_by_places word line h =
    same _ _
    (λ a. begins_all word line h (λ j k. eqb-true _ _ (all_at (λ i. eqb (get_or line i 0) (get_or word i 0)) (length word) a j k)))
    (λ b. all_intro _ (length word) (λ j k. eq-eqb _ _ (begins_at word line b j k)))
  where
    same : (a b : Bool) → (a ≡ true → b ≡ true) → (b ≡ true → a ≡ true) → a ≡ b
    same true b f g = sym (f refl)
    same false true f g = g refl
    same false false f g = refl

-- no octet of such a line lies below the space, so none is an LF or a CR
module _ (line : List ℕ) (f : StartForm line) where
  letter : (j : ℕ) → j < 9 → leb 32 (get_or line j 0) ≡ true
  unfolding all_below
  letter j h = rw (begins_at (octets "INDEX 01 ") line f.word j h) (all_at (λ k. leb 32 (get_or (octets "INDEX 01 ") k 0)) 9 refl j h)

  figure : (at : ℕ) → digits_at line at ≡ true → (leb 32 (get_or line at 0) ≡ true) × (leb 32 (get_or line (at + 1) 0) ≡ true)
  unfolding digits_at
  figure at e = (visible (get_or line at 0) (and_left (is_digit (get_or line at 0)) (is_digit (get_or line (at + 1) 0)) e), visible (get_or line (at + 1) 0) (and_right (is_digit (get_or line at 0)) (is_digit (get_or line (at + 1) 0)) e))
    where
      visible : (x : ℕ) → is_digit x ≡ true → leb 32 x ≡ true
      visible x d = le-leb 32 x (omega (arith, leb-true 48 x (and_left (leb 48 x) (leb x 57) d)))

  colon : (at : ℕ) → colon_at line at ≡ true → leb 32 (get_or line at 0) ≡ true
  colon at e = le-leb 32 (get_or line at 0) (omega (arith, eqb-true (get_or line at 0) 0x3A e))

  pub start_octets : (j : ℕ) → j < 17 → 32 ≤ get_or line j 0
  unfolding all_below
  start_octets j h = leb-true 32 _ (all_at (λ k. leb 32 (get_or line k 0)) 17 every j h)
    where
      a : (leb 32 (get_or line 9 0) ≡ true) × (leb 32 (get_or line 10 0) ≡ true)
      a = figure 9 (digits_9 line f.time)

      b : (leb 32 (get_or line 12 0) ≡ true) × (leb 32 (get_or line 13 0) ≡ true)
      b = figure 12 (digits_12 line f.time)

      c : (leb 32 (get_or line 15 0) ≡ true) × (leb 32 (get_or line 16 0) ≡ true)
      c = figure 15 (digits_15 line f.time)

      nine : all_below 9 (λ k. leb 32 (get_or line k 0)) ≡ true
      nine = all_intro _ 9 letter

      every : all_below 17 (λ k. leb 32 (get_or line k 0)) ≡ true
      every =
          and_both (and_both (and_both (and_both (and_both (and_both (and_both (and_both nine a.0) a.1) (colon 11 (colon_11 line f.time))) b.0) b.1) (colon 14 (colon_14 line f.time))) c.0) c.1
