-- A moved or written position is at most the end, and a rung leads to a rung. Assumes nothing.
use mathlib.Core.Path.{◌≡◌, refl, sym, subst}
use mathlib.Core.Bool.{true}
use mathlib.Core.Logic.{⊎_elim}
use mathlib.Core.List.{List, [], ◌∷◌}
use Prim.Native.Nat.{ℕ, ◌≤◌}
use native.Mathlib.Omega.{arith}
use borrow.Author.Tests.{eqb-true}
use lib.Dec.{eqb}
use lib.IntN.{ℤ, pos, negsuc}
use Rattle.ground.proofs.Cases.{true_or, clash}
use Rattle.player_orders.proofs.Sorted.{All}
use Rattle.player_state.specs.Modes.{rungs, rung_up, rung_down}
use Rattle.player_state.specs.Positions.{held_sum, written, signed_octet, sought_by, sought}
use Rattle.player_check.specs.Standing.{member}

pub held_within : (d p : ℕ) (z : ℤ) → held_sum d p z ≤ d
unfolding held_sum
held_within d p (pos k) = omega arith
held_within d p (negsuc k) = omega arith

pub written_within : (d : ℕ) (z : ℤ) → written d z ≤ d
unfolding written
written_within d (pos v) = omega arith
written_within d (negsuc k) = omega arith

by_within : (d p n : ℕ) (z : ℤ) → sought_by d p n z ≤ d
by_within d p n (pos k) = omega arith
by_within d p n (negsuc k) = omega arith

pub sought_within : (d p speed n : ℕ) → sought d p speed n ≤ d
unfolding sought
sought_within d p speed n = by_within d p n (signed_octet speed)

-- what holds of all holds of a member
of_member : (P : ℕ → Type 0) (l : List ℕ) (s : ℕ) → All P l → member s l ≡ true → P s
of_member P [] s a e = clash e
of_member P (y ∷ l) s a e =
    ⊎_elim
    (λ t. subst P (sym (eqb-true s y t)) a.0)
    (λ t. of_member P l s a.1 (rw t at e))
    (true_or (eqb s y))

pub up_rung : (s : ℕ) → member s rungs ≡ true → member (rung_up s) rungs ≡ true
unfolding rung_up
up_rung s = of_member (λ r. member (rung_up r) rungs ≡ true) rungs s (refl, (refl, (refl, (refl, (refl, (refl, (refl, (refl, tt))))))))

pub down_rung : (s : ℕ) → member s rungs ≡ true → member (rung_down s) rungs ≡ true
unfolding rung_down
down_rung s = of_member (λ r. member (rung_down r) rungs ≡ true) rungs s (refl, (refl, (refl, (refl, (refl, (refl, (refl, (refl, tt))))))))
