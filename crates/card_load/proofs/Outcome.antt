-- A run of `load` at given arguments, as its contract reads it (`Reads.Post`): the answer, and the four tables at exit. Assumes nothing.
use mathlib.Core.List.{List}
use Prim.Native.Nat.{ℕ}
use contract.Lifetimes.{Lfts}
use denote.Ref.{Bor, MutBor, at_last}
use Rattle.std.specs.Prelude.{Result}
use Rattle.ground.specs.declared.Refusal.{Refusal}
use Rattle.card_load.specs.declared.Counts.{Counts}
use Rattle.card_load.proofs.load.Reads as load

pub record Outcome : Type 0 where
  pub answer : Result Counts Refusal
  pub groups : List ℕ
  pub tracks : List ℕ
  pub segments : List ℕ
  pub text : List ℕ

-- the outcome meets the contract
abbrev pub Meets : Lfts 5 → (card : Bor (List ℕ)) (groups tracks segments text : MutBor (List ℕ)) → Outcome → Type 0
Meets κs card groups tracks segments text o =
    load.Post κs
    (card, (groups, (tracks, (segments, (text, tt)))))
    o.answer
    (card, (at_last groups o.groups, (at_last tracks o.tracks, (at_last segments o.segments, (at_last text o.text, tt)))))
