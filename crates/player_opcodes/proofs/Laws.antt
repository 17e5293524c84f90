-- What a layer above knows of the opcodes: an opcode is known to the mask, to the lengths and to the actions, or to none of them. Assumes nothing.
use mathlib.Core.Path.{◌≡◌, refl, sym, ◌∙◌}
use mathlib.Core.Bool.{Bool, true, false}
use mathlib.Core.Logic.{◌↔◌, ◌⊎◌, inl, inr, ⊎_elim}
use Prim.Native.Nat.{ℕ, ◌-◌, ◌<◌, ◌≤◌}
use native.Mathlib.Omega.{arith}
use borrow.Author.Tests.{ltb-false, le-ltb, eqb-false}
use lib.Dec.{eqb, ltb}
use Rattle.ground.specs.Cases.{pick, within}
use Rattle.ground.proofs.Cases.{le_or, clash}
use Rattle.player_opcodes.specs.declared.Action.{Action}
use Rattle.player_opcodes.specs.declared.Action.TheVariants.{Play, Pause, Rewind, Forward, Stop, Relative, Segment, Track, Group, Unknown}
use Rattle.player_opcodes.specs.Opcodes.{mask_bit, carries, parameter_length, step_of, action_of}
use Rattle.player_opcodes.proofs.Rows.{None, inside, bit_mode, bit_move, bit_segment, bit_track, bit_group, bit_none, action_none}

-- in a range, or not
in_range : (low high x : ℕ) → ((low ≤ x) × (x ≤ high)) ⊎ (low ≤ x → x ≤ high → ⊥)
in_range low high x =
    ⊎_elim
    (λ a. ⊎_elim (λ b. inl (a, b)) (λ b. inr (λ p q. omega arith)) (le_or x high))
    (λ a. inr (λ p q. omega arith))
    (le_or low x)

-- in a row, or in none
known_or : (opcode : ℕ) → (mask_bit opcode < 21) ⊎ None opcode
known_or o =
    ⊎_elim
    (λ r. inl (omega (arith, bit_mode o r.0 r.1)))
    (λ mode. ⊎_elim
    (λ r. inl (omega (arith, bit_move o (omega arith))))
    (λ move. ⊎_elim
    (λ r. inl (omega (arith, bit_segment o r.0 r.1)))
    (λ segment. ⊎_elim
    (λ r. inl (omega (arith, bit_track o r.0 r.1)))
    (λ track. ⊎_elim
    (λ r. inl (omega (arith, bit_group o r.0 r.1)))
    (λ group. inr (record { mode = mode; move = λ e. move (omega arith) (omega arith); segment = segment; track = track; group = group }))
    (in_range 0x40 0x44 o))
    (in_range 0x30 0x34 o))
    (in_range 0x20 0x24 o))
    (in_range 0x10 0x10 o))
    (in_range 0x01 0x05 o)

differ : ◌≡◌ {A = ℕ} 0 1 → ⊥
differ e = omega arith

-- an action that is not Unknown was not chosen
passed : (t : Bool) (a b : Action) → (a ≡ Unknown → ⊥) → pick t a b ≡ Unknown → (t ≡ false) × (b ≡ Unknown)
passed true a b never e = absurd (never e)
passed false a b never e = (refl, e)

-- the two tests of a length
abbrev octets : Bool → Bool → ℕ
octets s t = pick s (pick t 5 1) 0

octets_values : (s t : Bool) → (octets s t ≡ 0) ⊎ ((octets s t ≡ 1) ⊎ (octets s t ≡ 5))
octets_values false t = inl refl
octets_values true false = inr (inl refl)
octets_values true true = inr (inr refl)

octets_none : (s t : Bool) → octets s t ≡ 0 → s ≡ false
octets_none false t e = refl
octets_none true false e = absurd (let z : ⊥ = omega arith in z)
octets_none true true e = absurd (let z : ⊥ = omega arith in z)

beyond : (low high x : ℕ) → within low high x ≡ false → low ≤ x → x ≤ high → ⊥
beyond low high x f a b = clash (sym f ∙ inside low high x a b)

module _ (opcode : ℕ) where
  pub bit_known : (mask_bit opcode < 21) ⊎ (mask_bit opcode ≡ 32)
  bit_known = ⊎_elim (λ h. inl h) (λ w. inr (sym (bit_none opcode w))) (known_or opcode)

  -- 0, 1 or 5 octets, and 0 of no opcode
  pub length_values : (parameter_length opcode ≡ 0) ⊎ ((parameter_length opcode ≡ 1) ⊎ (parameter_length opcode ≡ 5))
  unfolding parameter_length
  length_values = octets_values (ltb (mask_bit opcode) 21) (carries opcode)

  pub length_known : (parameter_length opcode ≡ 0) ↔ (mask_bit opcode ≡ 32)
  unfolding parameter_length
  length_known = (
    λ e.
        let h = ltb-false (mask_bit opcode) 21 (octets_none (ltb (mask_bit opcode) 21) (carries opcode) e) in
        ⊎_elim (λ l. absurd (let z : ⊥ = omega arith in z)) (λ l. l) bit_known,
    λ e. rw (le-ltb (mask_bit opcode) 21 (omega arith)),
  )

  none_of : mask_bit opcode ≡ 32 → None opcode
  none_of e = ⊎_elim (λ h. absurd (let z : ⊥ = omega arith in z)) (λ w. w) (known_or opcode)

  module _ (number : ℕ) where
    pub known_action : mask_bit opcode ≡ 32 → action_of opcode number ≡ Unknown
    known_action e = sym (action_none opcode number (none_of e))

    unknown_none : action_of opcode number ≡ Unknown → None opcode
    unfolding action_of
    unknown_none e =
        let p1 = passed (eqb opcode 0x01) Play _ (λ q. differ (cc)) e in
        let p2 = passed (eqb opcode 0x02) Pause _ (λ q. differ (cc)) p1.1 in
        let p3 = passed (eqb opcode 0x03) Rewind _ (λ q. differ (cc)) p2.1 in
        let p4 = passed (eqb opcode 0x04) Forward _ (λ q. differ (cc)) p3.1 in
        let p5 = passed (eqb opcode 0x05) Stop _ (λ q. differ (cc)) p4.1 in
        let p6 = passed (eqb opcode 0x10) (Relative number) _ (λ q. differ (cc)) p5.1 in
        let p7 = passed (within 0x20 0x24 opcode) (Segment (step_of (opcode - 0x20) number)) _ (λ q. differ (cc)) p6.1 in
        let p8 = passed (within 0x30 0x34 opcode) (Track (step_of (opcode - 0x30) number)) _ (λ q. differ (cc)) p7.1 in
        let p9 = passed (within 0x40 0x44 opcode) (Group (step_of (opcode - 0x40) number)) _ (λ q. differ (cc)) p8.1 in
        record {
          mode = λ a b. omega (arith, eqb-false opcode 0x01 p1.0, eqb-false opcode 0x02 p2.0, eqb-false opcode 0x03 p3.0, eqb-false opcode 0x04 p4.0, eqb-false opcode 0x05 p5.0);
          move = eqb-false opcode 0x10 p6.0;
          segment = beyond 0x20 0x24 opcode p7.0;
          track = beyond 0x30 0x34 opcode p8.0;
          group = beyond 0x40 0x44 opcode p9.0;
        }

    pub action_known : mask_bit opcode < 21 → action_of opcode number ≡ Unknown → ⊥
    action_known h e = omega (arith, bit_none opcode (unknown_none e))
