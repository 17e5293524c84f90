-- What all steps led to is what the walk ends with. Assumes nothing.
use mathlib.Core.Path.{◌≡◌, ap, ◌∙◌}
use Prim.Native.Nat.{ℕ}
use Rattle.player_manual.specs.declared.Made.{Made}
use Rattle.player_manual.specs.declared.Made.TheVariants.{All}
use Rattle.player_state.specs.declared.Player.{Player}
use Rattle.player_moves.specs.declared.Controlled.{Controlled}
use Rattle.player_goto.specs.Goto.{went, ended}

pub reached : (c : Controlled) (r : Made ℕ) (x n : ℕ) (f : ℕ → Controlled) (p : Player) → c ≡ f x → All x n ≡ r → went n c ≡ ended r f p
reached c r x n f p e h = ap (went n) e ∙ ap (λ (m : Made ℕ). ended m f p) h
