-- With |n| or more allowed, Goto Segment by single steps is the player's own Goto Segment (SCOPE 15.8). Assumes nothing.
use mathlib.Core.Path.{◌≡◌, refl}
use mathlib.Core.List.{List}
use Prim.Native.Nat.{ℕ, ◌≤◌}
use Rattle.std.specs.Prelude.{Option}
use Rattle.player_walk.specs.Signed.{signed_word}
use Rattle.player_walk.specs.declared.Step.TheVariants.{Goto}
use Rattle.player_segments.specs.Segments.{move_along}
use Rattle.player_manual.specs.Made.{by_steps, size, found}
use Rattle.player_manual.proofs.Steps.{enough_steps}
use Rattle.player_steps.specs.Stepping.{along_segments}

pub segments_agree : (starts : List ℕ) (past : Option ℕ) (n allowed position : ℕ) → size (signed_word n) ≤ allowed
    → found (by_steps (along_segments starts past) n allowed position) ≡ along_segments starts past (Goto n) position
unfolding move_along
segments_agree starts past n allowed position = enough_steps (along_segments starts past) n allowed position refl
