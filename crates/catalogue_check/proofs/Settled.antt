-- The contract of `check` settles its answer: an answer is settled by what it says. Assumes nothing.
use mathlib.Core.Path.{◌≡◌, refl, ap}
use mathlib.Core.List.{List}
use Prim.Native.Nat.{ℕ}
use contract.Lifetimes.{Lfts}
use denote.Ref.{Bor}
use Rattle.ground.specs.Cases.{pick}
use Rattle.ground.specs.Refusals.{Said, done_said}
use Rattle.ground.proofs.Settled.{settled, done_settles}
use Rattle.std.specs.Prelude.{Result}
use Rattle.ground.specs.declared.Refusal.{Refusal}
use Rattle.catalogue_check.proofs.check.Reads as check

pub check_settled : (κs : Lfts 4) (groups tracks segments text : Bor (List ℕ)) (o₁ o₂ : Result Unit Refusal)
    → check.Post κs (groups, (tracks, (segments, (text, tt)))) o₁ (groups, (tracks, (segments, (text, tt))))
    → check.Post κs (groups, (tracks, (segments, (text, tt)))) o₂ (groups, (tracks, (segments, (text, tt))))
    → o₁ ≡ o₂
check_settled κs groups tracks segments text o₁ o₂ p q = done_settles o₁ o₂ (settled p q)
