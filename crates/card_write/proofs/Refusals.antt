-- The rows of card write stand in the order of the table (SCOPE 20.2), and a refusal leaves the lent card as it was (SCOPE 20.1). Assumes nothing.
use mathlib.Core.Path.{◌≡◌, refl}
use mathlib.Core.Bool.{true, false}
use mathlib.Core.List.{List}
use Prim.Native.Nat.{ℕ}
use contract.Lifetimes.{Lfts}
use denote.Ref.{Bor, MutBor}
use Rattle.ground.specs.Refusals.{table, in_order, count_said}
use Rattle.ground.proofs.Settled.{table_kept}
use Rattle.catalogue_tables.specs.Tables.{Tables, tables}
use Rattle.card_write.specs.Card.{card_of}
use Rattle.card_write.specs.Write.{write_rows}
use Rattle.card_write.proofs.Outcome.{Outcome, Meets}

pub write_order : (k : Tables) (room : ℕ) → in_order table (write_rows k room) ≡ true
write_order k room = refl

pub write_keeps : (κs : Lfts 5) (groups tracks segments text : Bor (List ℕ)) (card : MutBor (List ℕ)) (o : Outcome)
    → Meets κs groups tracks segments text card o → (count_said o.answer).is_granted ≡ false → o.card ≡ card.now
write_keeps κs groups tracks segments text card o p h =
    table_kept (count_said o.answer) (card_of (tables groups.now tracks.now segments.now text.now)) card.now o.card h p.1
