-- Walks with an allowance, for any step at all: a loop that makes them, how many steps are counted, and that with enough allowed nothing but the
-- walk is said. Assumes nothing.
use mathlib.Core.Path.{◌≡◌, refl, sym, ap, ◌∙◌}
use Prim.Native.Nat.{ℕ, zero, suc, ◌+◌, ◌-◌, ◌<◌, ◌≤◌}
use native.Mathlib.Nat.{add-zero, add_assoc, not-suc-le-zero}
use native.Mathlib.Omega.{arith}
use lib.IntN.{ℤ, pos, negsuc}
use Rattle.std.specs.Prelude.{Option, Some, None}
use Rattle.player_walk.specs.Steps.{then, walk, goto}
use Rattle.player_walk.specs.Places.{way_of}
use Rattle.player_walk.specs.Signed.{signed_word}
use Rattle.player_walk.specs.declared.Step.{Step}
use Rattle.player_walk.specs.declared.Step.TheVariants.{Previous, Next, First, Last, Goto}
use Rattle.player_walk.specs.declared.Way.{Way}
use Rattle.player_walk.specs.declared.Way.TheVariants.{Stay, Ahead, Back}
use Rattle.player_manual.specs.Made.{more, counted, steps, from_end, goto_by_steps, by_steps, size, found}
use Rattle.player_manual.specs.declared.Made.{Made}
use Rattle.player_manual.specs.declared.Made.TheVariants.{All, Stopped, RanOut}

more_more : (a b : ℕ) (r : Made ℕ) → more a (more b r) ≡ more (a + b) r
more_more a b (All x n) = ap (All x) (sym (add_assoc a b n))
more_more a b (Stopped n) = ap Stopped (sym (add_assoc a b n))
more_more a b (RanOut n) = ap RanOut (sym (add_assoc a b n))

-- A loop's turn and its three ends. `made` steps lie behind, `left` are wanted and `may` are allowed from x on; what follows is the outcome u of the whole.
module _ (step : ℕ → Option ℕ) (u : Made ℕ) (made left may x : ℕ) (inv : more made (steps step may left x) ≡ u) where
  pub arrives : left ≡ 0 → All x made ≡ u
  arrives e = sym (ap (All x) (add-zero made)) ∙ (rw e at inv)

  pub runs_out : 0 < left → may ≡ 0 → RanOut made ≡ u
  runs_out h e = sym (ap RanOut (add-zero made)) ∙ (let l : left ≡ suc (left - 1) = omega arith in rw (l, e) at inv)

  module _ (h : 0 < left) (k : 0 < may) where
    opened : more made (counted (step x) (steps step (may - 1) (left - 1))) ≡ u
    opened =
        let l : left ≡ suc (left - 1) = omega arith in
        let a : may ≡ suc (may - 1) = omega arith in
        ap (λ (n : ℕ). more made (steps step n (suc (left - 1)) x)) (sym a) ∙ ap (λ (n : ℕ). more made (steps step may n x)) (sym l) ∙ inv

    pub stops : step x ≡ None → Stopped (made + 1) ≡ u
    stops e = rw e at opened

    pub goes_on_lem : (y : ℕ) → step x ≡ Some y → more (made + 1) (steps step (may - 1) (left - 1) y) ≡ u
    goes_on_lem y e = sym (more_more made 1 (steps step (may - 1) (left - 1) y)) ∙ (rw e at opened)

-- the first step, First or Last
module _ (end : Option ℕ) (step : ℕ → Option ℕ) (m : ℕ) where
  pub none_allowed : (allowed : ℕ) → allowed ≡ 0 → RanOut 0 ≡ from_end end step allowed m
  none_allowed allowed e = rw e

  pub no_end : (allowed : ℕ) → 0 < allowed → end ≡ None → Stopped 1 ≡ from_end end step allowed m
  no_end zero h e = absurd (not-suc-le-zero h)
  no_end (suc allowed) h e = rw e

  pub at_end_lem : (allowed k : ℕ) → 0 < allowed → end ≡ Some k → more 1 (steps step (allowed - 1) m k) ≡ from_end end step allowed m
  at_end_lem zero k h e = absurd (not-suc-le-zero h)
  at_end_lem (suc allowed) k h e = let a : suc allowed - 1 ≡ allowed = omega arith in rw (e, a)

-- the same by the way that a number says
abbrev pub by_way : Way → ℕ → ℕ → Option ℕ → (ℕ → Option ℕ) → Option ℕ → (ℕ → Option ℕ) → Made ℕ
by_way Stay allowed here first next last previous = All here 0
by_way (Ahead m) allowed here first next last previous = from_end first next allowed m
by_way (Back m) allowed here first next last previous = from_end last previous allowed m

pub by_way_lem : (z : ℤ) (allowed here : ℕ) (first : Option ℕ) (next : ℕ → Option ℕ) (last : Option ℕ) (previous : ℕ → Option ℕ) → by_way (way_of z) allowed here first next last previous ≡ goto_by_steps z allowed here first next last previous
unfolding goto_by_steps
by_way_lem (pos zero) allowed here first next last previous = refl
by_way_lem (pos (suc m)) allowed here first next last previous = refl
by_way_lem (negsuc m) allowed here first next last previous = refl

-- with as many steps allowed as are wanted, it is the walk, for any step
pub found_more : (k : ℕ) (r : Made ℕ) → found (more k r) ≡ found r
found_more k (All x n) = refl
found_more k (Stopped n) = refl
found_more k (RanOut n) = refl

found_counted : (p : Option ℕ) (go : ℕ → Made ℕ) (on : ℕ → Option ℕ) → ((x : ℕ) → found (go x) ≡ on x) → found (counted p go) ≡ then p on
found_counted (Some x) go on e = found_more 1 (go x) ∙ e x
found_counted None go on e = refl

enough : (step : ℕ → Option ℕ) (allowed m x : ℕ) → m ≤ allowed → found (steps step allowed m x) ≡ walk step m x
enough step allowed zero x h = refl
enough step zero (suc m) x h = absurd (not-suc-le-zero h)
enough step (suc allowed) (suc m) x h = found_counted (step x) (steps step allowed m) (walk step m) (λ y. enough step allowed m y (omega arith))

from_enough : (end : Option ℕ) (step : ℕ → Option ℕ) (allowed m : ℕ) → suc m ≤ allowed → found (from_end end step allowed m) ≡ then end (walk step m)
from_enough end step zero m h = absurd (not-suc-le-zero h)
from_enough end step (suc allowed) m h = found_counted end (steps step allowed m) (walk step m) (λ y. enough step allowed m y (omega arith))

-- how many are counted when m are wanted: all of them; or some, up to the one that cannot be made; or those allowed, which are too few
abbrev pub Counts : ℕ → ℕ → Made ℕ → Type 0
Counts allowed m (All x n) = (n ≡ m) × (m ≤ allowed)
Counts allowed m (Stopped n) = (0 < n) × (n ≤ m) × (n ≤ allowed)
Counts allowed m (RanOut n) = (n ≡ allowed) × (allowed < m)

counts_more : (allowed m : ℕ) (r : Made ℕ) → Counts allowed m r → Counts (suc allowed) (suc m) (more 1 r)
counts_more allowed m (All x n) c = omega arith
counts_more allowed m (Stopped n) c = omega arith
counts_more allowed m (RanOut n) c = omega arith

counts_counted : (allowed m : ℕ) (p : Option ℕ) (go : ℕ → Made ℕ) → ((x : ℕ) → Counts allowed m (go x)) → Counts (suc allowed) (suc m) (counted p go)
counts_counted allowed m (Some x) go c = counts_more allowed m (go x) (c x)
counts_counted allowed m None go c = omega arith

counts : (step : ℕ → Option ℕ) (allowed m x : ℕ) → Counts allowed m (steps step allowed m x)
counts step allowed zero x = omega arith
counts step zero (suc m) x = omega arith
counts step (suc allowed) (suc m) x = counts_counted allowed m (step x) (steps step allowed m) (counts step allowed m)

from_counts : (end : Option ℕ) (step : ℕ → Option ℕ) (allowed m : ℕ) → Counts allowed (suc m) (from_end end step allowed m)
from_counts end step zero m = omega arith
from_counts end step (suc allowed) m = counts_counted allowed m end (steps step allowed m) (counts step allowed m)

-- THE LAWS, of Goto with any First, Next, Last and Previous
module _ (here : ℕ) (first : Option ℕ) (next : ℕ → Option ℕ) (last : Option ℕ) (previous : ℕ → Option ℕ) (allowed : ℕ) where
  pub goto_counts : (z : ℤ) → Counts allowed (size z) (goto_by_steps z allowed here first next last previous)
  unfolding goto_by_steps
  goto_counts (pos zero) = omega arith
  goto_counts (pos (suc m)) = from_counts first next allowed m
  goto_counts (negsuc m) = from_counts last previous allowed m

  pub goto_enough : (z : ℤ) → size z ≤ allowed → found (goto_by_steps z allowed here first next last previous) ≡ goto z here first next last previous
  unfolding goto_by_steps goto
  goto_enough (pos zero) h = refl
  goto_enough (pos (suc m)) h = from_enough first next allowed m h
  goto_enough (negsuc m) h = from_enough last previous allowed m h

-- of any player of the five moves: where its own Goto leads by steps, it leads where the manual's does with |n| or more allowed
module _ (move : Step → ℕ → Option ℕ) (n allowed x : ℕ) where
  pub counts_steps : Counts allowed (size (signed_word n)) (by_steps move n allowed x)
  unfolding by_steps
  counts_steps = goto_counts x (move First x) (move Next) (move Last x) (move Previous) allowed (signed_word n)

  pub enough_steps : move (Goto n) x ≡ goto (signed_word n) x (move First x) (move Next) (move Last x) (move Previous) → size (signed_word n) ≤ allowed → found (by_steps move n allowed x) ≡ move (Goto n) x
  unfolding by_steps
  enough_steps e h = goto_enough x (move First x) (move Next) (move Last x) (move Previous) allowed (signed_word n) h ∙ sym e

  -- so, with |n| or more allowed, |n| steps are counted where the player's own Goto leads somewhere (SCOPE 15.2)
  pub all_made : (y : ℕ) → move (Goto n) x ≡ goto (signed_word n) x (move First x) (move Next) (move Last x) (move Previous) → size (signed_word n) ≤ allowed → move (Goto n) x ≡ Some y → by_steps move n allowed x ≡ All y (size (signed_word n))
  all_made y e h f = arrived (by_steps move n allowed x) (enough_steps e h ∙ f) counts_steps
    where
      arrived : (r : Made ℕ) → found r ≡ Some y → Counts allowed (size (signed_word n)) r → r ≡ All y (size (signed_word n))
      arrived (All z k) p c = λ i. All (same z p i) (c.0 i)
        where
          same : (z : ℕ) → Some z ≡ Some y → z ≡ y
          same z p = cc
      arrived (Stopped k) p c = absurd (let z : ◌≡◌ {A = ℕ} 0 1 = cc in omega arith)
      arrived (RanOut k) p c = absurd (let z : ◌≡◌ {A = ℕ} 0 1 = cc in omega arith)
