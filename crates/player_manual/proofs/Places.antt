-- A move from a place of a list leads to a place of that list, or nowhere. Assumes nothing.
use mathlib.Core.Path.{◌≡◌, refl, subst}
use mathlib.Core.Bool.{Bool, true, false}
use Prim.Native.Nat.{ℕ, ◌+◌, ◌-◌, ◌<◌}
use native.Mathlib.Nat.{mod-lt}
use native.Mathlib.Omega.{arith}
use borrow.Author.Tests.{ltb-true}
use lib.Dec.{ltb}
use Rattle.std.specs.Prelude.{Option, Some, None}
use Rattle.ground.specs.Cases.{pick}
use Rattle.player_walk.specs.Signed.{signed_word}
use Rattle.player_walk.specs.Places.{way_of, wrap, mirror, goto_place, place_after}
use Rattle.player_walk.specs.declared.Step.{Step}
use Rattle.player_walk.specs.declared.Step.TheVariants.{Previous, Next, First, Last, Goto}
use Rattle.player_walk.specs.declared.Way.{Way}
use Rattle.player_walk.specs.declared.Way.TheVariants.{Stay, Ahead, Back}

-- what holds of where a step leads, if it leads anywhere
abbrev pub Holds : (ℕ → Type 0) → Option ℕ → Type 0
Holds P (Some j) = P j
Holds P None = Unit {0}

abbrev pub Within : ℕ → Option ℕ → Type 0
Within len p = Holds (λ j. j < len) p

module _ (len : ℕ) where
  picked : (t : Bool) (a b : Option ℕ) → (t ≡ true → Within len a) → (t ≡ false → Within len b) → Within len (pick t a b)
  picked true a b f g = f refl
  picked false a b f g = g refl

  module _ (some : 0 < len) where
    wrapped : (repeat : Bool) (m : ℕ) → Within len (wrap repeat len m)
    wrapped true m = mod-lt m some
    wrapped false m = picked (ltb m len) (Some m) None (λ e. ltb-true m len e) (λ e. tt)

    mirrored : (p : Option ℕ) → Within len (mirror len p)
    mirrored (Some k) = picked (ltb k len) (Some (len - 1 - k)) None (λ e. let h = ltb-true k len e in omega arith) (λ e. tt)
    mirrored None = tt

  going : (repeat : Bool) (k : ℕ) (w : Way) → k < len → Within len (goto_place repeat len k w)
  going repeat k Stay h = h
  going repeat k (Ahead m) h = wrapped (omega arith) repeat m
  going repeat k (Back m) h = mirrored (omega arith) (wrap repeat len m)

  pub placed : (s : Step) (repeat : Bool) (k : ℕ) → k < len → Within len (place_after s repeat len k)
  unfolding place_after
  placed Previous repeat k h = picked (ltb 0 k) (Some (k - 1)) (pick repeat (Some (len - 1)) None) (λ e. omega arith) (λ e. picked repeat (Some (len - 1)) None (λ e'. omega arith) (λ e'. tt))
  placed Next repeat k h = picked (ltb (k + 1) len) (Some (k + 1)) (pick repeat (Some 0) None) (λ e. ltb-true (k + 1) len e) (λ e. picked repeat (Some 0) None (λ e'. omega arith) (λ e'. tt))
  placed First repeat k h = omega arith
  placed Last repeat k h = omega arith
  placed (Goto n) repeat k h = going repeat k (way_of (signed_word n)) h

  pub stays : (s : Step) (repeat : Bool) (k j : ℕ) → k < len → place_after s repeat len k ≡ Some j → j < len
  stays s repeat k j h e = subst (Within len) e (placed s repeat k h)
