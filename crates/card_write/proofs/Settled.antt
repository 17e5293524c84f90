-- The contract of `write` settles the answer and the card: two outcomes that meet it at the same arguments are the same. Assumes nothing.
use mathlib.Core.Path.{◌≡◌, sym, ◌∙◌}
use mathlib.Core.List.{List}
use Prim.Native.Nat.{ℕ}
use contract.Lifetimes.{Lfts}
use denote.Ref.{Bor, MutBor}
use Rattle.ground.specs.Refusals.{count_said}
use Rattle.ground.proofs.Settled.{count_settles, table_settled}
use Rattle.catalogue_tables.specs.Tables.{tables}
use Rattle.card_write.specs.Card.{card_of}
use Rattle.card_write.proofs.Outcome.{Outcome, Meets}

pub write_settled : (κs : Lfts 5) (groups tracks segments text : Bor (List ℕ)) (card : MutBor (List ℕ)) (o₁ o₂ : Outcome)
    → Meets κs groups tracks segments text card o₁ → Meets κs groups tracks segments text card o₂ → o₁ ≡ o₂
write_settled κs groups tracks segments text card o₁ o₂ p q =
    let e : count_said o₁.answer ≡ count_said o₂.answer = p.0 ∙ sym q.0 in
    let written = card_of (tables groups.now tracks.now segments.now text.now) in
    let c = table_settled _ _ written card.now o₁.card o₂.card e p.1 q.1 in
    λ k. record { answer = count_settles o₁.answer o₂.answer e k; card = c k }
