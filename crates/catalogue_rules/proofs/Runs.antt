-- Runs that follow each other: the loop that checks them, and what the check tells. Assumes nothing.
use mathlib.Core.Path.{◌≡◌, refl, sym, ap, ◌∙◌}
use mathlib.Core.Bool.{Bool, true, ◌&&◌}
use mathlib.Core.List.{List}
use Prim.Native.Nat.{ℕ, ◌+◌, ◌-◌, ◌*◌, ◌<◌, ◌≤◌}
use native.Mathlib.Nat.{mul-le-mul_right, add-mul, one-mul, add-sub_cancel_left}
use native.Mathlib.Omega.{arith}
use borrow.Author.Tests.{eqb-true}
use lib.Dec.{eqb}
use lib.ListN.{take, drop}
use Rattle.ground.specs.Lists.{all_below, sum_below}
use Rattle.ground.proofs.Bounded.{all_turn, all_end, all_at, sum_turn, sum_grows, sum_within}
use Rattle.ground.proofs.Cases.{and_left, and_right}
use Rattle.catalogue_rules.specs.Rules.{follow}

-- record i of n lies within its table
pub record_inside : (n i width len : ℕ) → i < n → n * width ≤ len → i * width + width ≤ len
record_inside n i width len h k =
    let l : i + 1 ≤ n = omega arith in
    omega (arith, mul-le-mul_right width l, add-mul i 1 width, one-mul width)

-- the part from f on of c elements, as the code cuts it
pub run_part : {A : Type 0} (s : List A) (f c : ℕ) {f' c' : ℕ} → f ≡ f' → c ≡ c' → take ((f + c) - f) (drop f s) ≡ take c' (drop f' s)
run_part s f c e g = ap (λ (n : ℕ). take n (drop f s)) (add-sub_cancel_left f c) ∙ (λ k. take (g k) (drop (e k) s))

-- after i turns: the sum of the first i counts, and whether the first i runs follow
pub record Following (first count : ℕ → ℕ) (n : ℕ) (good : Bool) (sum i : ℕ) : Type 0 where
  pub within : i ≤ n
  pub small : sum ≤ i * 4294967296
  pub summed : sum ≡ sum_below i count
  pub matched : good ≡ all_below i (λ j. eqb (first j) (sum_below j count))

module _ (first count : ℕ → ℕ) (n : ℕ) where
  pub start : Following first count n true 0 0
  unfolding all_below sum_below
  start = record { within = omega arith; small = omega arith; summed = refl; matched = refl }

  pub turn : {good : Bool} {sum i : ℕ} (f c : ℕ) → f ≡ first i → c ≡ count i → c < 4294967296 → i < n
      → Following first count n good sum i → Following first count n (good && eqb f sum) (sum + c) (i + 1)
  turn {good} {sum} {i} f c e g s h F =
      record {
        within = omega arith;
        small = omega (arith, F.small);
        summed = (λ k. F.summed k + g k) ∙ sym (sum_turn count i);
        matched = all_turn _ i good (eqb f sum) F.matched (λ k. eqb (e k) (F.summed k));
      }

  pub end : {good : Bool} {sum i : ℕ} (total : ℕ) → n ≤ i → Following first count n good sum i
      → (good && eqb sum total) ≡ follow n first count total
  unfolding follow
  end {good} {sum} {i} total h F =
      let e : i ≡ n = omega (arith, F.within) in
      λ k. (all_end _ F.within h F.matched) k && eqb ((F.summed ∙ ap (λ (m : ℕ). sum_below m count) e) k) total

  module _ (total : ℕ) (good : follow n first count total ≡ true) where
    starts_at : (i : ℕ) → i < n → first i ≡ sum_below i count
    unfolding follow
    starts_at i h = eqb-true _ _ (all_at _ n (and_left (all_below n (λ j. eqb (first j) (sum_below j count))) _ good) i h)

    pub sum_is : sum_below n count ≡ total
    unfolding follow
    sum_is = eqb-true _ _ (and_right (all_below n (λ j. eqb (first j) (sum_below j count))) _ good)

    -- each run lies within the total
    pub inside : (i : ℕ) → i < n → first i + count i ≤ total
    inside i h = omega (arith, starts_at i h, sum_within count n i h, sum_is)

    -- a later run starts no sooner than an earlier one ends
    pub apart : (i j : ℕ) → i < j → j < n → first i + count i ≤ first j
    apart i j l h =
        omega (arith, starts_at i (omega arith), starts_at j h, sum_turn count i, sum_grows count j (i + 1) (omega arith))
