-- What a segment move tells the layers above: from within a track it leads to a position within it (SCOPE 8.2). It leads nowhere only where nothing stands past
-- the last start, and so only while the recording is still running (SCOPE 10.4, 10.8). Assumes nothing.
use mathlib.Core.Path.{◌≡◌, refl}
use mathlib.Core.List.{List, [], ◌∷◌}
use Prim.Native.Nat.{ℕ, zero, suc, ◌-◌, ◌≤◌}
use native.Mathlib.Omega.{arith}
use lib.Dec.{ltb}
use lib.IntN.{ℤ, pos, negsuc}
use lib.ListN.{length}
use Rattle.std.specs.Prelude.{Option, Some, None}
use Rattle.ground.specs.Lists.{those}
use Rattle.player_walk.specs.Signed.{signed_word}
use Rattle.player_walk.specs.Steps.{then, walk, goto}
use Rattle.player_walk.specs.declared.Step.{Step}
use Rattle.player_walk.specs.declared.Step.TheVariants.{Previous, Next, First, Last, Goto}
use Rattle.player_segments.specs.Segments.{least_or, segment_starts, previous_start, next_start, first_start, last_start, move_along, segment_move, Below}
use Rattle.player_segments.proofs.Sides.{least_within}
use Rattle.player_segments.proofs.Cuts.{previous_le}
use Rattle.player_segments.proofs.Whole.{some, whole_within}

-- where it leads has P; that it leads nowhere has N
abbrev Leads : (ℕ → Type 0) → Type 0 → Option ℕ → Type 0
Leads P N (Some x) = P x
Leads P N None = N

module _ (P : ℕ → Type 0) (N : Type 0) where
  on_from : (near : Option ℕ) (f : ℕ → Option ℕ) → Leads P N near → ((x : ℕ) → P x → Leads P N (f x)) → Leads P N (then near f)
  on_from (Some x) f h on = on x h
  on_from None f h on = h

  -- what each step of f keeps, the whole walk keeps
  kept : (f : ℕ → Option ℕ) → ((x : ℕ) → P x → Leads P N (f x)) → (m x : ℕ) → P x → Leads P N (walk f m x)
  kept f on zero x h = h
  kept f on (suc m) x h = on_from (f x) (walk f m) (on x h) (kept f on m)

  module _ (l : List ℕ) (past : Option ℕ) (p : ℕ) (here : P p) (first : P (first_start l)) (last : P (last_start l))
      (next : (x : ℕ) → P x → Leads P N (next_start l past x)) (previous : (x : ℕ) → P x → P (previous_start l x)) where
    gone : (z : ℤ) → Leads P N (goto z p (Some (first_start l)) (next_start l past) (Some (last_start l)) (λ q. Some (previous_start l q)))
    unfolding goto
    gone (pos zero) = here
    gone (pos (suc m)) = kept (next_start l past) next m (first_start l) first
    gone (negsuc m) = kept (λ q. Some (previous_start l q)) previous m (last_start l) last

    moved : (step : Step) → Leads P N (move_along step l past p)
    unfolding move_along
    moved Previous = previous p here
    moved Next = next p here
    moved First = first
    moved Last = last
    moved (Goto n) = gone (signed_word n)

pub move_nowhere : (step : Step) (starts : List ℕ) (past : Option ℕ) (p : ℕ) → segment_move step starts past p ≡ None → past ≡ None
unfolding next_start
move_nowhere step starts past p e =
    rw e at (moved (λ x. Unit) (past ≡ None) (segment_starts starts) past p tt tt tt (λ x h. next (those (λ y. ltb x y) (segment_starts starts))) (λ x h. tt) step)
  where
    at_past : (near : Option ℕ) → Leads (λ x. Unit) (near ≡ None) near
    at_past (Some x) = tt
    at_past None = refl

    next : (later : List ℕ) → Leads (λ x. Unit) (past ≡ None) (least_or past later)
    next [] = at_past past
    next (x ∷ l) = tt

pub move_within : (step : Step) (starts : List ℕ) (past : Option ℕ) (d p q : ℕ) → Below starts d → ((z : ℕ) → past ≡ Some z → z ≤ d) → p ≤ d
    → segment_move step starts past p ≡ Some q → q ≤ d
unfolding next_start
move_within step starts past d p q below over h e =
    rw e at (moved (λ x. x ≤ d) Unit (segment_starts starts) past p h (whole_within starts d below 0 (some starts))
    (whole_within starts d below (length (segment_starts starts) - 1) (omega (arith, some starts))) next previous step)
  where
    previous : (x : ℕ) → x ≤ d → previous_start (segment_starts starts) x ≤ d
    previous x h = omega (arith, previous_le (segment_starts starts) x)

    within : (near : Option ℕ) → ((q : ℕ) → near ≡ Some q → q ≤ d) → Leads (λ x. x ≤ d) Unit near
    within (Some x) h = h x refl
    within None h = tt

    next : (x : ℕ) → x ≤ d → Leads (λ x. x ≤ d) Unit (next_start (segment_starts starts) past x)
    next x h = within _ (least_within (λ y. ltb x y) past d (segment_starts starts) over (λ k a b. whole_within starts d below k a))
