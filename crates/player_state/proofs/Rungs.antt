-- Where no rung stands above, or below, the speed stays. Assumes nothing.
use mathlib.Core.Path.{◌≡◌, refl}
use mathlib.Core.Bool.{Bool, true, false}
use mathlib.Core.List.{[], ◌∷◌}
use Prim.Native.Nat.{ℕ, suc}
use borrow.Author.Tests.{ne_eqb}
use lib.Dec.{eqb}
use Rattle.ground.specs.Cases.{pick}
use Rattle.player_walk.specs.Steps.{at, next_of}
use Rattle.std.specs.Prelude.{unwrap_or}
use Rattle.player_state.specs.Modes.{rung_up, rung_down}

-- the last of eight, or none of them, has nothing behind it
stays : (s a b c d e f g h : ℕ) → (s ≡ a → ⊥) → (s ≡ b → ⊥) → (s ≡ c → ⊥) → (s ≡ d → ⊥) → (s ≡ e → ⊥) → (s ≡ f → ⊥) → (s ≡ g → ⊥)
    → s ≡ unwrap_or (next_of (a ∷ b ∷ c ∷ d ∷ e ∷ f ∷ g ∷ h ∷ []) s) s
stays s a b c d e f g h na nb nc nd ne nf ng =
    rw (ne_eqb s a na, ne_eqb s b nb, ne_eqb s c nc, ne_eqb s d nd, ne_eqb s e ne, ne_eqb s f nf, ne_eqb s g ng) (go (eqb s h))
  where
    go : (t : Bool) → s ≡ unwrap_or (at (a ∷ b ∷ c ∷ d ∷ e ∷ f ∷ g ∷ h ∷ []) (suc (suc (suc (suc (suc (suc (suc (suc (pick t 0 (suc 0))))))))))) s
    go true = refl
    go false = refl

pub top : (s : ℕ) → (s ≡ 0xE0 → ⊥) → (s ≡ 0xF0 → ⊥) → (s ≡ 0xF8 → ⊥) → (s ≡ 0xFC → ⊥) → (s ≡ 4 → ⊥) → (s ≡ 8 → ⊥) → (s ≡ 16 → ⊥) → s ≡ rung_up s
unfolding rung_up
top s a b c d e f g = stays s 0xE0 0xF0 0xF8 0xFC 4 8 16 32 a b c d e f g

pub bottom : (s : ℕ) → (s ≡ 32 → ⊥) → (s ≡ 16 → ⊥) → (s ≡ 8 → ⊥) → (s ≡ 4 → ⊥) → (s ≡ 0xFC → ⊥) → (s ≡ 0xF8 → ⊥) → (s ≡ 0xF0 → ⊥) → s ≡ rung_down s
unfolding rung_down
bottom s a b c d e f g = stays s 32 16 8 4 0xFC 0xF8 0xF0 0xE0 a b c d e f g
