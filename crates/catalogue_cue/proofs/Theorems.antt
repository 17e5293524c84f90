-- Different frames give different starts, and a later frame a later start (SCOPE 6.11); and the starts of an accepted sheet may be a track's segment starts.
-- Assumes nothing.
use mathlib.Core.Path.{◌≡◌}
use mathlib.Core.Bool.{true}
use mathlib.Core.List.{List}
use Prim.Native.Nat.{ℕ, zero, suc, ◌+◌, ◌-◌, ◌*◌, ◌<◌}
use native.Mathlib.Omega.{arith}
use borrow.Author.Tests.{lt-ltb, eq-eqb}
use lib.ListN.{length, get_or}
use Rattle.ground.proofs.Bounded.{all_intro}
use Rattle.ground.proofs.Cases.{and_both}
use Rattle.catalogue_rules.specs.Rules.{begin_rule, rise_rule, below_rule, starts_right}
use Rattle.catalogue_cue.specs.Sheet.{hundredths, sheet_lines, starts_of, cue_said}
use Rattle.catalogue_cue.proofs.Accepted.{Rises, accepted}
use Rattle.catalogue_cue.proofs.Written.{IsFrame}

module _ (mm ss ff mm' ss' ff' : ℕ) (a : IsFrame mm ss ff) (b : IsFrame mm' ss' ff') where
  -- SCOPE 6.11: different frames give different starts
  pub frames_apart : hundredths mm ss ff ≡ hundredths mm' ss' ff' → (mm ≡ mm') × (ss ≡ ss') × (ff ≡ ff')
  unfolding hundredths
  frames_apart e =
      let m : mm ≡ mm' = omega arith in
      let s : ss ≡ ss' = omega arith in
      let f : ff ≡ ff' = omega arith in
      (m, s, f)

  -- SCOPE 6.11: a later frame gives a later start
  pub frames_rise : (60 * mm + ss) * 75 + ff < (60 * mm' + ss') * 75 + ff' → hundredths mm ss ff < hundredths mm' ss' ff'
  unfolding hundredths
  frames_rise h = omega arith

-- all starts lie below whatever the last one lies below
below_last : (starts : List ℕ) → Rises starts → (d : ℕ) → get_or starts (length starts - 1) 0 < d → (i : ℕ) → i < length starts → get_or starts i 0 < d
below_last starts r d h i k = by (length starts - 1 - i) i (omega arith)
  where
    by : (n j : ℕ) → j + suc n ≡ length starts → get_or starts j 0 < d
    by zero j e =
        let last : j ≡ length starts - 1 = omega arith in
        rw last h
    by (suc n) j e = omega (arith, r.above j (omega arith), by n (j + 1) (omega arith))

-- the starts of an accepted sheet keep SCOPE 4.10, as `catalogue_rules` has it, where the last of them lies below D
pub may_stand : (sheet : List ℕ) (room : ℕ) → (cue_said sheet room).is_granted ≡ true
    → (duration : ℕ) → get_or (starts_of (sheet_lines sheet)) (length (starts_of (sheet_lines sheet)) - 1) 0 < duration
    → starts_right (starts_of (sheet_lines sheet)) duration ≡ true
unfolding begin_rule rise_rule below_rule
may_stand sheet room e duration h =
    let starts = starts_of (sheet_lines sheet) in
    let r = (accepted sheet room e).rises in
    and_both
    (and_both (eq-eqb _ _ r.begins) (all_intro _ _ (λ i k. lt-ltb _ _ (r.above i (omega arith)))))
    (all_intro _ _ (λ i k. lt-ltb _ _ (below_last starts r duration h i k)))
