-- The opcodes by rows: the mask bit, the length and the action in each row, and in none of them. Assumes nothing.
use mathlib.Core.Path.{◌≡◌, refl, ap}
use mathlib.Core.Bool.{true, false}
use mathlib.Core.Logic.{◌⊎◌, ⊎_elim}
use Prim.Native.Nat.{ℕ, ◌+◌, ◌-◌, ◌<◌, ◌≤◌}
use native.Mathlib.Omega.{arith}
use borrow.Author.Tests.{le-leb, lt-leb, lt-ltb, le-ltb, ne_eqb}
use lib.Dec.{leb}
use Rattle.ground.specs.Cases.{pick, within}
use Rattle.ground.proofs.Cases.{past, here, le_or, and_both, and_fails}
use Rattle.player_walk.specs.declared.Step.{Step}
use Rattle.player_opcodes.specs.declared.Action.{Action}
use Rattle.player_opcodes.specs.declared.Action.TheVariants.{Segment, Track, Group, Unknown}
use Rattle.player_opcodes.specs.Opcodes.{mask_bit, parameter_length, step_of, action_of}

pub inside : (low high x : ℕ) → low ≤ x → x ≤ high → within low high x ≡ true
inside low high x a b = and_both (le-leb low x a) (le-leb x high b)

pub outside : (low high x : ℕ) → (low ≤ x → x ≤ high → ⊥) → within low high x ≡ false
outside low high x never =
    ⊎_elim
    (λ h. and_fails (leb low x) (lt-leb x high (⊎_elim (λ l. absurd (never h l)) (λ l. l) (le_or x high))))
    (λ h. simp (lt-leb low x h))
    (le_or low x)

-- in none of the rows
pub record None (o : ℕ) : Type 0 where
  pub mode : 0x01 ≤ o → o ≤ 0x05 → ⊥
  pub move : o ≡ 0x10 → ⊥
  pub segment : 0x20 ≤ o → o ≤ 0x24 → ⊥
  pub track : 0x30 ≤ o → o ≤ 0x34 → ⊥
  pub group : 0x40 ≤ o → o ≤ 0x44 → ⊥

module _ (o : ℕ) where
  -- the gaps before, between and behind the rows
  pub front : o < 0x01 → None o
  front h = record { mode = λ a b. omega arith; move = λ e. omega arith; segment = λ a b. omega arith; track = λ a b. omega arith; group = λ a b. omega arith }

  pub before_segment : 0x06 ≤ o → o < 0x20 → (o ≡ 0x10 → ⊥) → None o
  before_segment l h m =
      record { mode = λ a b. omega arith; move = m; segment = λ a b. omega arith; track = λ a b. omega arith; group = λ a b. omega arith }

  pub before_track : 0x25 ≤ o → o < 0x30 → None o
  before_track l h =
      record { mode = λ a b. omega arith; move = λ e. omega arith; segment = λ a b. omega arith; track = λ a b. omega arith; group = λ a b. omega arith }

  pub before_group : 0x35 ≤ o → o < 0x40 → None o
  before_group l h =
      record { mode = λ a b. omega arith; move = λ e. omega arith; segment = λ a b. omega arith; track = λ a b. omega arith; group = λ a b. omega arith }

  pub back : 0x45 ≤ o → None o
  back l = record { mode = λ a b. omega arith; move = λ e. omega arith; segment = λ a b. omega arith; track = λ a b. omega arith; group = λ a b. omega arith }

  -- below the steps, and not an opcode
  pub below_steps : o < 0x20 → (o ≡ 0x01 → ⊥) → (o ≡ 0x02 → ⊥) → (o ≡ 0x03 → ⊥) → (o ≡ 0x04 → ⊥) → (o ≡ 0x05 → ⊥) → (o ≡ 0x10 → ⊥) → None o
  below_steps h n1 n2 n3 n4 n5 m =
      record { mode = λ a b. omega arith; move = m; segment = λ a b. omega arith; track = λ a b. omega arith; group = λ a b. omega arith }

  -- past the first two rows
  later_bit : {r : ℕ} → (0x01 ≤ o → o ≤ 0x05 → ⊥) → (o ≡ 0x10 → ⊥)
      → r ≡ pick (within 0x20 0x24 o) (o - 0x20 + 6) (pick (within 0x30 0x34 o) (o - 0x30 + 11) (pick (within 0x40 0x44 o) (o - 0x40 + 16) 32))
      → r ≡ mask_bit o
  unfolding mask_bit
  later_bit mode move h = past _ (outside 0x01 0x05 o mode) (past _ (outside 0x10 0x10 o (λ p q. move (omega arith))) h)

  pub bit_mode : 0x01 ≤ o → o ≤ 0x05 → o - 0x01 ≡ mask_bit o
  unfolding mask_bit
  bit_mode a b = here _ (inside 0x01 0x05 o a b) refl

  pub bit_move : o ≡ 0x10 → 5 ≡ mask_bit o
  unfolding mask_bit
  bit_move e = rw e

  pub bit_segment : 0x20 ≤ o → o ≤ 0x24 → o - 0x20 + 6 ≡ mask_bit o
  bit_segment a b = later_bit (λ p q. omega arith) (λ e. omega arith) (here _ (inside 0x20 0x24 o a b) refl)

  pub bit_track : 0x30 ≤ o → o ≤ 0x34 → o - 0x30 + 11 ≡ mask_bit o
  bit_track a b =
      later_bit (λ p q. omega arith) (λ e. omega arith)
      (past _ (outside 0x20 0x24 o (λ p q. omega arith))
      (here _ (inside 0x30 0x34 o a b) refl))

  pub bit_group : 0x40 ≤ o → o ≤ 0x44 → o - 0x40 + 16 ≡ mask_bit o
  bit_group a b =
      later_bit (λ p q. omega arith) (λ e. omega arith)
      (past _ (outside 0x20 0x24 o (λ p q. omega arith))
      (past _ (outside 0x30 0x34 o (λ p q. omega arith))
      (here _ (inside 0x40 0x44 o a b) refl)))

  pub bit_none : None o → 32 ≡ mask_bit o
  bit_none w =
      later_bit w.mode w.move
      (past _ (outside 0x20 0x24 o w.segment)
      (past _ (outside 0x30 0x34 o w.track)
      (past _ (outside 0x40 0x44 o w.group) refl)))

  -- five octets where a number is carried, one elsewhere
  pub length_five : (o ≡ 0x10) ⊎ ((o ≡ 0x24) ⊎ ((o ≡ 0x34) ⊎ (o ≡ 0x44))) → 5 ≡ parameter_length o
  unfolding mask_bit parameter_length
  length_five = ⊎_elim (λ e. rw e) (⊎_elim (λ e. rw e) (⊎_elim (λ e. rw e) (λ e. rw e)))

  pub length_one : mask_bit o < 21 → (o ≡ 0x10 → ⊥) → (o ≡ 0x24 → ⊥) → (o ≡ 0x34 → ⊥) → (o ≡ 0x44 → ⊥) → 1 ≡ parameter_length o
  unfolding parameter_length
  length_one h a b c d = simp (lt-ltb (mask_bit o) 21 h, ne_eqb o 0x10 a, ne_eqb o 0x24 b, ne_eqb o 0x34 c, ne_eqb o 0x44 d)

  pub length_none : None o → 0 ≡ parameter_length o
  unfolding parameter_length
  length_none w = let e = bit_none w in past _ (le-ltb (mask_bit o) 21 (omega arith)) refl

  module _ (number : ℕ) where
    -- past the opcodes that name no step
    later_action : {r : Action} → (0x01 ≤ o → o ≤ 0x05 → ⊥) → (o ≡ 0x10 → ⊥)
        → r ≡ pick (within 0x20 0x24 o) (Segment (step_of (o - 0x20) number)) (pick (within 0x30 0x34 o) (Track (step_of (o - 0x30) number)) (pick (within 0x40 0x44 o) (Group (step_of (o - 0x40) number)) Unknown))
        → r ≡ action_of o number
    unfolding action_of
    later_action mode move h =
        past _ (ne_eqb o 0x01 (λ e. mode (omega arith) (omega arith)))
        (past _ (ne_eqb o 0x02 (λ e. mode (omega arith) (omega arith)))
        (past _ (ne_eqb o 0x03 (λ e. mode (omega arith) (omega arith)))
        (past _ (ne_eqb o 0x04 (λ e. mode (omega arith) (omega arith)))
        (past _ (ne_eqb o 0x05 (λ e. mode (omega arith) (omega arith)))
        (past _ (ne_eqb o 0x10 move) h)))))

    pub action_segment : {s : Step} → 0x20 ≤ o → o ≤ 0x24 → s ≡ step_of (o - 0x20) number → Segment s ≡ action_of o number
    action_segment a b e = later_action (λ p q. omega arith) (λ p. omega arith) (here _ (inside 0x20 0x24 o a b) (ap Segment e))

    pub action_track : {s : Step} → 0x30 ≤ o → o ≤ 0x34 → s ≡ step_of (o - 0x30) number → Track s ≡ action_of o number
    action_track a b e =
        later_action (λ p q. omega arith) (λ p. omega arith)
        (past _ (outside 0x20 0x24 o (λ p q. omega arith))
        (here _ (inside 0x30 0x34 o a b) (ap Track e)))

    pub action_group : {s : Step} → 0x40 ≤ o → o ≤ 0x44 → s ≡ step_of (o - 0x40) number → Group s ≡ action_of o number
    action_group a b e =
        later_action (λ p q. omega arith) (λ p. omega arith)
        (past _ (outside 0x20 0x24 o (λ p q. omega arith))
        (past _ (outside 0x30 0x34 o (λ p q. omega arith))
        (here _ (inside 0x40 0x44 o a b) (ap Group e))))

    pub action_none : None o → Unknown ≡ action_of o number
    action_none w =
        later_action w.mode w.move
        (past _ (outside 0x20 0x24 o w.segment)
        (past _ (outside 0x30 0x34 o w.track)
        (past _ (outside 0x40 0x44 o w.group) refl)))
