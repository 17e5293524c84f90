-- As many keys are below x as come before the track of the least key at or above x, and one more than come before the track of the greatest key
-- below x. Assumes nothing.
use mathlib.Core.Path.{◌≡◌, refl, sym, ap, ◌∙◌, subst}
use mathlib.Core.Bool.{Bool, true, false}
use mathlib.Core.Logic.{◌⊎◌, inl, inr, ⊎_elim}
use mathlib.Core.List.{List}
use Prim.Native.Nat.{ℕ, ◌+◌, ◌-◌, ◌%◌, ◌<◌, ◌≤◌}
use native.Mathlib.Nat.{eq-or-lt_of_le, lt_irrefl, le_antisymm}
use native.Mathlib.Omega.{arith}
use borrow.Author.Tests.{lt-ltb, le-ltb}
use lib.Dec.{ltb}
use lib.ListN.{get_or}
use Rattle.std.specs.Prelude.{Some, None}
use Rattle.ground.specs.Cases.{pick}
use Rattle.ground.specs.Limits.{most_tracks}
use Rattle.ground.specs.Lists.{span}
use Rattle.ground.proofs.Cases.{le_or}
use Rattle.player_walk.specs.Steps.{at, before, place}
use Rattle.player_walk.proofs.Walk.{at_none}
use Rattle.player_orders.specs.declared.By.{By}
use Rattle.player_orders.specs.Order.{ordered}
use Rattle.player_orders.specs.Keys.{key_of, below}
use Rattle.player_orders.proofs.Sorted.{below_same}
use Rattle.player_orders.proofs.Span.{span_all, number_of_lem, place_small, rank_is, after_is, top, below_top, below_zero}
use Rattle.player_orders.proofs.Few.{placed}

-- best is the least number at or above x that f has from lo up to i, or the top where there is none
pub record Least (f : ℕ → ℕ) (x lo i best : ℕ) : Type 0 where
  pub above : x ≤ best
  pub most : best ≤ 0xFFFF_FFFF_FFFF_FFFF
  pub low : (u : ℕ) → lo ≤ u → u < i → x ≤ f u → best ≤ f u
  pub hit : (best ≡ 0xFFFF_FFFF_FFFF_FFFF) ⊎ ((u : ℕ) × (lo ≤ u) × (u < i) × (f u ≡ best))

pub least_none : (f : ℕ → ℕ) (x lo : ℕ) → x ≤ 0xFFFF_FFFF_FFFF_FFFF → Least f x lo lo 0xFFFF_FFFF_FFFF_FFFF
least_none f x lo h = record { above = h; most = omega arith; low = λ u a b q. absurd (lt_irrefl u (omega arith)); hit = inl refl }

module _ (f : ℕ → ℕ) (x lo i b y r : ℕ) (inv : Least f x lo i b) (li : lo ≤ i) (ey : y ≡ f i) (er : r ≡ pick (ltb y x) b (pick (ltb y b) y b)) where
  lower : (c : ℕ) → c ≤ b → (x ≤ y → c ≤ y) → (u : ℕ) → lo ≤ u → u < i + 1 → x ≤ f u → c ≤ f u
  lower c h n u a q g =
      ⊎_elim
      (λ e. let here : f u ≡ y = ap f e ∙ sym ey in omega (arith, n (omega arith)))
      (λ p. omega (arith, inv.low u a (omega arith) g))
      (eq-or-lt_of_le (let p : u ≤ i = omega arith in p))

  kept : r ≡ b → (x ≤ y → b ≤ y) → Least f x lo (i + 1) r
  kept e n = subst (Least f x lo (i + 1)) (sym e) (record {
    above = inv.above;
    most = inv.most;
    low = lower b (omega arith) n;
    hit = ⊎_elim inl (λ w. inr (w.0, w.1, omega arith, w.3)) inv.hit;
  })

  taken : r ≡ y → x ≤ y → y < b → Least f x lo (i + 1) r
  taken e h n = subst (Least f x lo (i + 1)) (sym e) (record {
    above = h;
    most = omega (arith, inv.most);
    low = lower y (omega arith) (λ q. omega arith);
    hit = inr (i, li, omega arith, sym ey);
  })

  pub least_more : Least f x lo (i + 1) r
  least_more =
      ⊎_elim
      (λ h. ⊎_elim
      (λ g. kept (er ∙ rw (le-ltb y x h, le-ltb y b g)) (λ q. g))
      (λ g. taken (er ∙ rw (le-ltb y x h, lt-ltb y b g)) h g)
      (le_or b y))
      (λ h. kept (er ∙ rw (lt-ltb y x h)) (λ q. absurd (lt_irrefl x (omega arith))))
      (le_or x y)

-- past the last of them
pub least_all : (f : ℕ → ℕ) (x x' lo i e best : ℕ) → x ≡ x' → i ≤ e → e ≤ i → Least f x lo i best → Least f x' lo e best
least_all f x x' lo i e best ex a b inv = subst (λ (z : ℕ). Least f z lo e best) ex (subst (λ (j : ℕ). Least f x lo j best) (le_antisymm a b) inv)

-- a number, or how far it lies below the top
abbrev pub turn : Bool → ℕ → ℕ → ℕ
turn back most y = pick back (most - y) y

turn_twice : (back : Bool) (most y : ℕ) → y ≤ most → turn back most (turn back most y) ≡ y
turn_twice false most y h = refl
turn_twice true most y h = omega arith

module _ (by : By) (tracks : List ℕ) (first count : ℕ) (small : first + count ≤ most_tracks) (words : (i : ℕ) → get_or tracks i 0 < 0x1_0000_0000) where
  -- past every key there is nothing
  past_all : (back : Bool) → None ≡ pick back before at (ordered by tracks first count) (below (key_of by tracks) (turn back 0xFFFF_FFFF_FFFF_FFFF 0xFFFF_FFFF_FFFF_FFFF) (span first count))
  past_all false = sym (at_none (ordered by tracks first count) (below (key_of by tracks) 0xFFFF_FFFF_FFFF_FFFF (span first count)) (omega (arith, below_top by tracks first count small words)))
  past_all true = ap (before (ordered by tracks first count)) (sym (below_zero (key_of by tracks) first count))

  -- beside its own key, or the number after it, stands u
  stands : (back : Bool) (u : ℕ) → first ≤ u → u < first + count
      → Some u ≡ pick back before at (ordered by tracks first count) (below (key_of by tracks) (turn back 0xFFFF_FFFF_FFFF_FFFF (turn back 0xFFFF_FFFF_FFFF_FFFE (key_of by tracks u))) (span first count))
  stands back u a b =
      placed by tracks first count small (place u (ordered by tracks first count)) (place_small by tracks first count small u a b) u a b refl
      ∙ go back
    where
      go : (back : Bool)
          → at (ordered by tracks first count) (place u (ordered by tracks first count)) ≡ pick back before at (ordered by tracks first count) (below (key_of by tracks) (turn back 0xFFFF_FFFF_FFFF_FFFF (turn back 0xFFFF_FFFF_FFFF_FFFE (key_of by tracks u))) (span first count))
      go false = rw (rank_is by tracks first count small words u a b)
      go true =
          let z : 0xFFFF_FFFF_FFFF_FFFF - (0xFFFF_FFFF_FFFF_FFFE - key_of by tracks u) ≡ key_of by tracks u + 1 = omega (arith, top by tracks first count small words u b) in
          rw (z, after_is by tracks first count small words u a b)

  module _ (x best : ℕ) (hx : x ≤ 0xFFFF_FFFF_FFFF_FFFF) where
    level : (back : Bool) → Least (λ u. turn back 0xFFFF_FFFF_FFFF_FFFE (key_of by tracks u)) (turn back 0xFFFF_FFFF_FFFF_FFFF x) first (first + count) best
        → below (key_of by tracks) (turn back 0xFFFF_FFFF_FFFF_FFFF best) (span first count) ≡ below (key_of by tracks) x (span first count)
    level false inv = sym (below_same (key_of by tracks) x best (span first count) inv.above (span_all (λ u. x ≤ key_of by tracks u → best ≤ key_of by tracks u) first count inv.low))
    level true inv =
        below_same (key_of by tracks) (0xFFFF_FFFF_FFFF_FFFF - best) x (span first count) (omega (arith, inv.above))
        (span_all (λ u. 0xFFFF_FFFF_FFFF_FFFF - best ≤ key_of by tracks u → x ≤ key_of by tracks u) first count
        (λ u a b q. ⊎_elim (λ r. r) (λ r. absurd (lt_irrefl x (omega (arith, top by tracks first count small words u b, inv.low u a b (omega (arith, top by tracks first count small words u b)))))) (le_or x (key_of by tracks u))))

    module _ (back : Bool) (inv : Least (λ u. turn back 0xFFFF_FFFF_FFFF_FFFE (key_of by tracks u)) (turn back 0xFFFF_FFFF_FFFF_FFFF x) first (first + count) best) where
      moved_to : (b : ℕ) → b ≡ best → pick back before at (ordered by tracks first count) (below (key_of by tracks) (turn back 0xFFFF_FFFF_FFFF_FFFF b) (span first count))
          ≡ pick back before at (ordered by tracks first count) (below (key_of by tracks) x (span first count))
      moved_to b e = ap (λ (n : ℕ). pick back before at (ordered by tracks first count) (below (key_of by tracks) (turn back 0xFFFF_FFFF_FFFF_FFFF n) (span first count))) e
          ∙ ap (pick back before at (ordered by tracks first count)) (level back inv)

      pub beside_none : best ≡ 0xFFFF_FFFF_FFFF_FFFF → None ≡ pick back before at (ordered by tracks first count) (below (key_of by tracks) x (span first count))
      beside_none e = past_all back ∙ moved_to 0xFFFF_FFFF_FFFF_FFFF (sym e)

      pub beside_some : (best ≡ 0xFFFF_FFFF_FFFF_FFFF → ⊥)
          → Some (turn back 0xFFFF_FFFF_FFFF_FFFE best % 0x1_0000_0000) ≡ pick back before at (ordered by tracks first count) (below (key_of by tracks) x (span first count))
      beside_some ne = ⊎_elim (λ e. absurd (ne e)) some inv.hit
        where
          some : (u : ℕ) × (first ≤ u) × (u < first + count) × (turn back 0xFFFF_FFFF_FFFF_FFFE (key_of by tracks u) ≡ best)
              → Some (turn back 0xFFFF_FFFF_FFFF_FFFE best % 0x1_0000_0000) ≡ pick back before at (ordered by tracks first count) (below (key_of by tracks) x (span first count))
          some w =
              let u = w.0 in
              let high : u < first + count = w.2 in
              let own : turn back 0xFFFF_FFFF_FFFF_FFFE best ≡ key_of by tracks u =
              ap (turn back 0xFFFF_FFFF_FFFF_FFFE) (sym w.3) ∙ turn_twice back 0xFFFF_FFFF_FFFF_FFFE (key_of by tracks u) (omega (arith, top by tracks first count small words u high)) in
              ap Some (ap (λ (n : ℕ). n % 0x1_0000_0000) own ∙ number_of_lem by tracks u (omega arith))
              ∙ stands back u w.1 high
              ∙ moved_to (turn back 0xFFFF_FFFF_FFFF_FFFE (key_of by tracks u)) w.3
