-- `catalogue_cue::read`: a refusal comes before anything is written, and after a count the table is filled.
use native.Mathlib.Omega.{arith}
use Prim.Native.Nat.{ℕ}
use mathlib.Core.List.{List}
use lib.ListN.{length, get_or}
use mathlib.Core.Path.{◌≡◌, sym, ap, ◌∙◌}
use Rattle.std.specs.Prelude.{Ok}
use Rattle.ground.specs.Refusals.{Said, count_said}
use Rattle.catalogue_cue.specs.Sheet.{cue_said, sheet_lines, starts_of}
use Rattle.catalogue_cue.proofs.Accepted.{Accepted, accepted}
use Rattle.catalogue_cue.proofs.read.Goals as goal

-- a sheet that is counted is accepted, and has as many starts
module _ (sheet : List ℕ) (room count : ℕ) (said : count_said (Ok count) ≡ cue_said sheet room) where
  granted : Accepted sheet room
  granted = accepted sheet room (sym (ap (λ (s : Said). s.is_granted) said))

  counted : count ≡ length (starts_of (sheet_lines sheet))
  counted = ap (λ (s : Said). get_or s.values 0 0) (said ∙ granted.said)

pub fill-requires-clause-count_value : goal.fill-requires-clause-count_value
fill-requires-clause-count_value c =
    counted _ _ _ c.in_ok-count.ensures

pub fill-requires-clause-count_in_bounds : goal.fill-requires-clause-count_in_bounds
fill-requires-clause-count_in_bounds c =
    omega (arith, counted _ _ _ c.in_ok-count.ensures, (granted _ _ _ c.in_ok-count.ensures).fits)

pub fill-requires-clause-all_understood : goal.fill-requires-clause-all_understood
fill-requires-clause-all_understood c =
    (granted _ _ _ c.in_ok-count.ensures).understood
