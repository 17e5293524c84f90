-- The starts of a track: where they rise, the last one tells whether all lie below the end; where there are none, they are right.
-- Assumes nothing.
use mathlib.Core.Path.{◌≡◌, refl, sym, ap, ◌∙◌}
use mathlib.Core.Bool.{Bool, true, false, ◌&&◌}
use mathlib.Core.List.{List, [], ◌∷◌}
use mathlib.Core.Logic.{⊎_elim}
use Prim.Native.Nat.{ℕ, zero, suc, ◌+◌, ◌-◌, ◌<◌, ◌≤◌}
use native.Mathlib.Nat.{add-zero}
use native.Mathlib.Omega.{arith}
use borrow.Author.Tests.{ltb-true, lt-ltb}
use lib.Dec.{eqb, ltb}
use lib.ListN.{length, get_or, length-take, length-drop}
use Rattle.ground.specs.Lists.{all_below}
use Rattle.ground.proofs.Bounded.{all_at, all_intro}
use Rattle.ground.proofs.Cases.{true_or, clash, and_fails}
use Rattle.catalogue_tables.specs.Tables.{track_count, end_of, starts_of}
use Rattle.catalogue_rules.specs.Rules.{begin_rule, rise_rule, below_rule, starts_right, starts_rule}

module _ (s : List ℕ) where
  up : rise_rule s ≡ true → (j i : ℕ) → i + j < length s → get_or s i 0 ≤ get_or s (i + j) 0
  unfolding rise_rule
  up rise zero i h = rw add-zero (omega arith)
  up rise (suc j) i h =
      let e : i + suc j ≡ i + j + 1 = omega arith in
      let step = ltb-true (get_or s (i + j) 0) (get_or s (i + j + 1) 0) (all_at _ (length s - 1) rise (i + j) (omega arith)) in
      rw e (omega (arith, up rise j i (omega arith)))

  abbrev last : ℕ
  last = get_or s (length s - 1) 0

  module _ (end : ℕ) (h : 0 < length s) where
    last_tells : rise_rule s ≡ true → ltb last end ≡ below_rule s end
    unfolding below_rule
    last_tells rise =
        ⊎_elim
        (λ t. t ∙ sym (all_intro _ (length s) (λ i l.
        let e : i + (length s - 1 - i) ≡ length s - 1 = omega arith in
        let highest : get_or s i 0 ≤ last = rw e at (up rise (length s - 1 - i) i (omega arith)) in
        lt-ltb (get_or s i 0) end (omega (arith, ltb-true last end t)))))
        (λ f.
        ⊎_elim
        (λ b. clash (sym f ∙ all_at _ (length s) b (length s - 1) (omega arith)))
        (λ b. f ∙ sym b)
        (true_or (below_rule s end)))
        (true_or (ltb last end))

    pub by_last : {rising : Bool} → rising ≡ rise_rule s → (eqb (get_or s 0 0) 0 && rising && ltb last end) ≡ starts_right s end
    unfolding begin_rule
    by_last {rising} e =
        ⊎_elim
        (λ t. λ k. eqb (get_or s 0 0) 0 && e k && last_tells t k)
        (λ f. fails (ltb last end) (e ∙ f) ∙ sym (fails (below_rule s end) f))
        (true_or (rise_rule s))
      where
        fails : {r : Bool} (b : Bool) → r ≡ false → (eqb (get_or s 0 0) 0 && r && b) ≡ false
        fails b f = ap (λ (x : Bool). x && b) (and_fails (eqb (get_or s 0 0) 0) f)

pub none_right : (s : List ℕ) (end : ℕ) → length s ≡ 0 → starts_right s end ≡ true
unfolding begin_rule rise_rule below_rule all_below
none_right [] end z = refl
none_right (a ∷ s) end z = absurd (let y : ⊥ = omega arith in y)

pub no_segments : (tracks segments : List ℕ) → length segments ≡ 0 → starts_rule tracks segments ≡ true
unfolding starts_rule starts_of
no_segments tracks segments z =
    all_intro _ (track_count tracks) (λ t h. none_right (starts_of tracks segments t) (end_of tracks t) (simp (length-take, length-drop) (omega arith)))
