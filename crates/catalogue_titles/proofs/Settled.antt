-- The contract of `check` settles its answer, as the catalogue check's does. Assumes nothing.
use mathlib.Core.Path.{◌≡◌}
use contract.Lifetimes.{Lfts}
use denote.Ref.{Bor}
use Rattle.ground.proofs.Settled.{settled, done_settles}
use Rattle.std.specs.Prelude.{Result}
use Rattle.ground.specs.declared.Refusal.{Refusal}
use Rattle.catalogue_titles.specs.declared.Loan.{Loan}
use Rattle.catalogue_titles.proofs.check.Reads as check

pub check_settled : (κs : Lfts 2) (loan : Bor Loan) (o₁ o₂ : Result Unit Refusal)
    → check.Post κs (loan, tt) o₁ (loan, tt) → check.Post κs (loan, tt) o₂ (loan, tt) → o₁ ≡ o₂
check_settled κs loan o₁ o₂ p q = done_settles o₁ o₂ (settled p q)
