-- A run of `write` at given arguments, as its contract reads it (`Reads.Post`): the answer, and the card at exit. Assumes nothing.
use mathlib.Core.List.{List}
use Prim.Native.Nat.{ℕ}
use contract.Lifetimes.{Lfts}
use denote.Ref.{Bor, MutBor, at_last}
use Rattle.std.specs.Prelude.{Result}
use Rattle.ground.specs.declared.Refusal.{Refusal}
use Rattle.card_write.proofs.write.Reads as write

pub record Outcome : Type 0 where
  pub answer : Result ℕ Refusal
  pub card : List ℕ

-- the outcome meets the contract
abbrev pub Meets : Lfts 5 → (groups tracks segments text : Bor (List ℕ)) (card : MutBor (List ℕ)) → Outcome → Type 0
Meets κs groups tracks segments text card o =
    write.Post κs
    (groups, (tracks, (segments, (text, (card, tt)))))
    o.answer
    (groups, (tracks, (segments, (text, (at_last card o.card, tt)))))
