-- The contract of `load` settles the answer and the four tables: two outcomes that meet it at the same arguments are the same (SCOPE 21.13). Assumes nothing.
use mathlib.Core.Path.{◌≡◌, refl, sym, ◌∙◌}
use mathlib.Core.List.{List}
use Prim.Native.Nat.{ℕ}
use contract.Lifetimes.{Lfts}
use denote.Ref.{Bor, MutBor}
use lib.ListN.{get_or}
use Rattle.ground.specs.Words.{words}
use Rattle.ground.proofs.Settled.{said_settles, table_settled}
use Rattle.std.specs.Prelude.{Result}
use Rattle.ground.specs.declared.Refusal.{Refusal}
use Rattle.card_load.specs.declared.Counts.{Counts}
use Rattle.card_load.specs.Card.{blocks_of, gather, octets}
use Rattle.card_load.specs.Load.{said_of, counts_of}
use Rattle.card_load.proofs.Outcome.{Outcome, Meets}

-- answers that say the same are the same
pub counts_settle : (r₁ r₂ : Result Counts Refusal) → said_of r₁ ≡ said_of r₂ → r₁ ≡ r₂
counts_settle = said_settles counts_of (λ v. record { groups = get_or v 0 0; tracks = get_or v 1 0; segments = get_or v 2 0; text = get_or v 3 0 }) (λ c. refl)

pub load_settled : (κs : Lfts 5) (card : Bor (List ℕ)) (groups tracks segments text : MutBor (List ℕ)) (o₁ o₂ : Outcome)
    → Meets κs card groups tracks segments text o₁ → Meets κs card groups tracks segments text o₂ → o₁ ≡ o₂
load_settled κs card groups tracks segments text o₁ o₂ p q =
    let e : said_of o₁.answer ≡ said_of o₂.answer = p.0 ∙ sym q.0 in
    let bs = blocks_of card.now in
    let g = table_settled _ _ (gather words 1 bs) groups.now o₁.groups o₂.groups e p.1.0 q.1.0 in
    let t = table_settled _ _ (gather words 2 bs) tracks.now o₁.tracks o₂.tracks e p.1.1.0 q.1.1.0 in
    let s = table_settled _ _ (gather words 3 bs) segments.now o₁.segments o₂.segments e p.1.1.1.0 q.1.1.1.0 in
    let x = table_settled _ _ (gather octets 4 bs) text.now o₁.text o₂.text e p.1.1.1.1 q.1.1.1.1 in
    λ k. record { answer = counts_settle o₁.answer o₂.answer e k; groups = g k; tracks = t k; segments = s k; text = x k }
