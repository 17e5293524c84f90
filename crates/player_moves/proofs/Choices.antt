-- What holds on both sides of a choice holds of the choice, whether it is by a test, by what was found, by a segment move, or by the opcode's mask.
-- Assumes nothing.
use mathlib.Core.Path.{◌≡◌, refl}
use mathlib.Core.Bool.{Bool, true, false, not}
use mathlib.Core.List.{List}
use Prim.Native.Nat.{ℕ, ◌<◌}
use native.Mathlib.Omega.{arith}
use borrow.Author.Tests.{eqb-false, not-true, not-false}
use Rattle.std.specs.Prelude.{Option, Some, None}
use Rattle.ground.specs.Cases.{pick}
use Rattle.player_walk.specs.declared.Step.{Step}
use Rattle.player_opcodes.specs.Opcodes.{offered, action_of}
use Rattle.player_state.specs.declared.Player.{Player}
use Rattle.player_state.specs.Player.{is_active, at_position}
use Rattle.player_moves.specs.Moves.{segment_after}
use Rattle.player_moves.specs.Control.{success, failed, onward, moves_nothing, segment_moved, acted, controlled}
use Rattle.player_moves.specs.declared.Controlled.{Controlled}

pub by_test : {A : Type 0} (P : A → Type 0) (t : Bool) (a b : A) → (t ≡ true → P a) → (t ≡ false → P b) → P (pick t a b)
by_test P true a b f g = f refl
by_test P false a b f g = g refl

pub by_found : (P : Controlled → Type 0) (near : Option ℕ) (f : ℕ → Controlled) (p : Player) → ((x : ℕ) → near ≡ Some x → P (f x)) → P (failed 4 p)
    → P (onward near f p)
by_found P (Some x) f p on off = on x refl
by_found P None f p on off = off

-- a segment move: Goto 0, to the position that was found, or result 4
pub by_segment : (P : Controlled → Type 0) (tracks segments : List ℕ) (step : Step) (p : Player) → P (success p)
    → ((x : ℕ) → segment_after tracks segments step p ≡ Some x → P (success (at_position x p))) → P (failed 4 p)
    → P (segment_moved tracks segments step p)
by_segment P tracks segments step p still on off =
    by_test P (moves_nothing step) _ _ (λ t. still) (λ t. by_found P (segment_after tracks segments step p) _ p on off)

-- an active player is in a state above 0
pub active_above : (p : Player) → is_active p ≡ true → 0 < p.mode.media
active_above p e = omega (arith, eqb-false p.mode.media 0 (not-true _ e))

-- the control point: not offered, Inactive, or the action
pub by_control : (P : Controlled → Type 0) (groups tracks segments : List ℕ) (opcode number : ℕ) (p : Player)
    → (offered p.offer.mask opcode ≡ false → P (failed 2 p))
    → (offered p.offer.mask opcode ≡ true → is_active p ≡ false → P (failed 3 p))
    → (offered p.offer.mask opcode ≡ true → is_active p ≡ true → P (acted groups tracks segments (action_of opcode number) p))
    → P (controlled groups tracks segments opcode number p)
unfolding controlled
by_control P groups tracks segments opcode number p none idle act =
    by_test P (not (offered p.offer.mask opcode)) _ _
    (λ n. none (not-true _ n))
    (λ y. by_test P (not (is_active p)) _ _ (λ n. idle (not-false _ y) (not-true _ n)) (λ a. act (not-false _ y) (not-false _ a)))
