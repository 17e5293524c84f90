-- What a move along the tracks in a playing order finds, and what the entry to a group finds. Assumes nothing.
use mathlib.Core.Path.{◌≡◌, refl, sym, ap, ◌∙◌}
use mathlib.Core.Bool.{Bool, true, false}
use mathlib.Core.Logic.{⊎_elim}
use mathlib.Core.List.{List, [], ◌∷◌}
use Prim.Native.Nat.{ℕ, zero, suc, ◌+◌, ◌-◌, ◌%◌, ◌≤◌, ◌<◌}
use native.Mathlib.Nat.{mod-lt}
use native.Mathlib.Omega.{arith}
use borrow.Author.Tests.{lt-ltb, le-ltb, eq-eqb}
use lib.Dec.{leb}
use lib.ListN.{length, get_or}
use Rattle.std.specs.Prelude.{Option, Some, None}
use Rattle.ground.specs.Cases.{pick}
use Rattle.ground.proofs.Cases.{le_or}
use Rattle.player_walk.specs.Signed.{signed_word}
use Rattle.player_walk.specs.Steps.{at, place, first_of, move_in, then}
use Rattle.player_walk.specs.Places.{place_after, goto_place, way_of}
use Rattle.player_walk.specs.declared.Step.{Step}
use Rattle.player_walk.specs.declared.Step.TheVariants.{Previous, Next, First, Last, Goto}
use Rattle.player_walk.specs.declared.Way.{Way}
use Rattle.player_walk.specs.declared.Way.TheVariants.{Stay, Ahead, Back}
use Rattle.player_walk.proofs.Walk.{at_is, move_is}
use Rattle.player_orders.specs.Order.{ordered, by_of, repeats, tracks_in_order, Run, InRun}
use Rattle.player_orders.proofs.Sorted.{All}
use Rattle.player_orders.proofs.Span.{within, apart_places, at_member}

-- a list that has t in it, of which each element stands at one place and lies between lo and hi
record Holds (lo hi t : ℕ) (l : List ℕ) : Type 0 where
  pub places : (k : ℕ) → k < length l → place (get_or l k 0) l ≡ k
  pub inside : All (λ u. (lo ≤ u) × (u < hi)) l
  pub holds : (k : ℕ) × (k < length l) × (get_or l k 0 ≡ t)

one : (lo hi t : ℕ) → lo ≤ t → t < hi → Holds lo hi t (t ∷ [])
one lo hi t a b = record { places = at_one; inside = ((a, b), tt); holds = (0, omega arith, refl) }
  where
    at_one : (k : ℕ) → k < 1 → place (get_or (t ∷ []) k 0) (t ∷ []) ≡ k
    at_one zero h = rw (eq-eqb t t refl)
    at_one (suc k) h = absurd (let z : ⊥ = omega arith in z)

nothing : {A : Type 0} (u : ℕ) → None ≡ Some u → A
nothing u e = let z : ◌≡◌ {A = ℕ} 0 1 = cc in absurd (let y : ⊥ = omega arith in y)

found_all : (P : ℕ → Type 0) (l : List ℕ) (k u : ℕ) → All P l → at l k ≡ Some u → P u
found_all P [] k u a e = nothing u e
found_all P (x ∷ l) zero u a e = let q : x ≡ u = cc in rw q at a.0
found_all P (x ∷ l) (suc k) u a e = found_all P l k u a.1 e

then_all : (P : ℕ → Type 0) (l : List ℕ) (p : Option ℕ) (u : ℕ) → All P l → then p (at l) ≡ Some u → P u
then_all P l (Some k) u a e = found_all P l k u a e
then_all P l None u a e = nothing u e

-- in a repeat order each move on places leads to one
goto_place_lem : (len k : ℕ) (way : Way) → k < len → (j : ℕ) × (j < len) × (goto_place true len k way ≡ Some j)
goto_place_lem len k Stay h = (k, h, refl)
goto_place_lem len k (Ahead m) h = (m % len, mod-lt m (omega arith), refl)
goto_place_lem len k (Back m) h = (len - 1 - m % len, omega arith, rw (lt-ltb (m % len) len (mod-lt m (omega arith))))

some_place_lem : (step : Step) (len k : ℕ) → k < len → (j : ℕ) × (j < len) × (place_after step true len k ≡ Some j)
unfolding place_after
some_place_lem Previous len k h =
    ⊎_elim
    (λ q. (len - 1, omega arith, rw (le-ltb 0 k q)))
    (λ q. (k - 1, omega arith, rw (lt-ltb 0 k q)))
    (le_or k 0)
some_place_lem Next len k h =
    ⊎_elim
    (λ q. (0, omega arith, rw (le-ltb (k + 1) len q)))
    (λ q. (k + 1, q, rw (lt-ltb (k + 1) len q)))
    (le_or len (k + 1))
some_place_lem First len k h = (0, omega arith, refl)
some_place_lem Last len k h = (len - 1, omega arith, refl)
some_place_lem (Goto n) len k h = goto_place_lem len k (way_of (signed_word n)) h

module _ (lo hi t : ℕ) (l : List ℕ) (f : Holds lo hi t l) where
  by_places : (step : Step) (repeat : Bool) → move_in step repeat l t ≡ then (place_after step repeat (length l) f.holds.0) (at l)
  by_places step repeat = ap (move_in step repeat l) (sym f.holds.2) ∙ move_is l f.places step repeat f.holds.0 f.holds.1

  move_within : (step : Step) (repeat : Bool) (u : ℕ) → move_in step repeat l t ≡ Some u → (lo ≤ u) × (u < hi)
  move_within step repeat u e =
      then_all (λ v. (lo ≤ v) × (v < hi)) l (place_after step repeat (length l) f.holds.0) u f.inside (sym (by_places step repeat) ∙ e)

  move_found : (step : Step) (repeat : Bool) → repeat ≡ true → (u : ℕ) × (move_in step repeat l t ≡ Some u)
  move_found step repeat e =
      let p = some_place_lem step (length l) f.holds.0 f.holds.1 in (
        get_or l p.0 0,
        by_places step repeat
            ∙ (λ j. then (place_after step (e j) (length l) f.holds.0) (at l))
            ∙ ap (λ (x : Option ℕ). then x (at l)) p.2
            ∙ at_is l p.0 p.1,
      )

module _ (order : ℕ) (tracks : List ℕ) (words first count : ℕ) where
  in_order_lem : (t : ℕ) → InRun words first count t → Holds first (first + count) t (tracks_in_order order tracks first count t)
  unfolding tracks_in_order
  in_order_lem t r = go (leb order 2)
    where
      go : (b : Bool) → Holds first (first + count) t (pick b (t ∷ []) (ordered (by_of order) tracks first count))
      go true = one first (first + count) t r.low r.high
      go false = record {
        places = apart_places (by_of order) tracks first count r.small;
        inside = within (by_of order) tracks first count r.small;
        holds = at_member (by_of order) tracks first count r.small t r.low r.high;
      }

  -- a move finds tracks of the run
  pub move_in_run : (t : ℕ) → InRun words first count t → (step : Step) (u : ℕ)
      → move_in step (repeats order) (tracks_in_order order tracks first count t) t ≡ Some u → (first ≤ u) × (u < first + count)
  move_in_run t r step u e = move_within first (first + count) t (tracks_in_order order tracks first count t) (in_order_lem t r) step (repeats order) u e

  -- in an order that repeats a move always finds one
  pub repeat_finds : (t : ℕ) → InRun words first count t → repeats order ≡ true → (step : Step)
      → (u : ℕ) × (move_in step (repeats order) (tracks_in_order order tracks first count t) t ≡ Some u)
  repeat_finds t r e step = move_found first (first + count) t (tracks_in_order order tracks first count t) (in_order_lem t r) step (repeats order) e

  module _ (run : Run words first count) (some : 0 < count) where
    entry_holds : Holds first (first + count) first (tracks_in_order order tracks first count first)
    entry_holds = in_order_lem first (record { small = run.small; inside = run.inside; low = omega arith; high = omega arith })

    -- the entry to a group that has tracks finds one, of its run
    pub entry_in_run : (u : ℕ) → first_of (tracks_in_order order tracks first count first) ≡ Some u → (first ≤ u) × (u < first + count)
    entry_in_run u e = found_all (λ v. (first ≤ v) × (v < first + count)) (tracks_in_order order tracks first count first) 0 u entry_holds.inside e

    pub entry_finds : (u : ℕ) × (first_of (tracks_in_order order tracks first count first) ≡ Some u)
    entry_finds =
        let h = entry_holds.holds in
        (get_or (tracks_in_order order tracks first count first) 0 0, at_is (tracks_in_order order tracks first count first) 0 (omega arith))
