-- The contracts of `check` and `is_text` settle their results. Assumes nothing.
use mathlib.Core.Path.{◌≡◌, refl}
use mathlib.Core.Bool.{Bool}
use mathlib.Core.List.{List}
use Prim.Native.Nat.{ℕ}
use contract.Lifetimes.{Lfts}
use denote.Ref.{Bor}
use lib.ListN.{get_or}
use Rattle.ground.specs.Cases.{pick}
use Rattle.ground.specs.Refusals.{Said}
use Rattle.ground.proofs.Settled.{settled, settled_by}
use Rattle.std.specs.Prelude.{Result, Ok, Err}
use Rattle.text.specs.declared.NotText.{NotText}
use Rattle.text.specs.Utf8.{bad_at, said_of}
use Rattle.text.proofs.check.Reads as check
use Rattle.text.proofs.is_text.Reads as is_text

-- the answer, back from what it says
checked_as : Said → Result Unit NotText
checked_as said = pick said.is_granted (Ok tt) (bad_at (get_or said.values 0 0))

said_back : (c : Result Unit NotText) → checked_as (said_of c) ≡ c
unfolding checked_as
said_back (Ok u) = refl
said_back (Err e) = refl

-- a shared slice has at exit what it had at entry
module _ (κs : Lfts 1) (s : Bor (List ℕ)) where
  pub check_settled : (o₁ o₂ : Result Unit NotText) → check.Post κs (s, tt) o₁ (s, tt) → check.Post κs (s, tt) o₂ (s, tt) → o₁ ≡ o₂
  check_settled o₁ o₂ p q = settled_by said_of checked_as said_back o₁ o₂ (settled p q)

  pub is_text_settled : (o₁ o₂ : Bool) → is_text.Post κs (s, tt) o₁ (s, tt) → is_text.Post κs (s, tt) o₂ (s, tt) → o₁ ≡ o₂
  is_text_settled o₁ o₂ = settled
