-- The rows of card load stand in the order of the table (SCOPE 20.2), the lowest bad block is the one that is named (SCOPE 3.12), and a refusal leaves each
-- table as it was (SCOPE 20.1). Assumes nothing.
use mathlib.Core.Path.{◌≡◌, refl, sym, ap, ◌∙◌}
use mathlib.Core.Bool.{Bool, true, false, not}
use mathlib.Core.List.{List, [], ◌∷◌, ◌++◌}
use Prim.Native.Nat.{ℕ, zero, suc, ◌+◌, ◌<◌}
use native.Mathlib.Nat.{zero-add}
use native.Mathlib.Omega.{arith}
use contract.Lifetimes.{Lfts}
use denote.Ref.{Bor, MutBor}
use Rattle.ground.specs.Refusals.{Said, Row, row, accepted, said_by, table, in_order}
use Rattle.ground.specs.Words.{words}
use Rattle.ground.proofs.Cases.{clash}
use Rattle.ground.proofs.Settled.{table_kept}
use Rattle.ground.proofs.Rows.{more, beyond, none_of, all_carry}
use Rattle.card_block.specs.Block.{kind_of, block_rows}
use Rattle.card_load.specs.Card.{length_rule, blocks_of, last_of_kind, blocks_rows, gather, octets}
use Rattle.card_load.specs.Load.{said_of, room_row, load_said}
use Rattle.card_load.proofs.Answers.{says_block}
use Rattle.card_load.proofs.Outcome.{Outcome, Meets}

-- of a card of any one block the rows stand in the order of the table: those of its block between 210 and 212
pub load_order : (card b : List ℕ) (number least : ℕ) (last : Bool) (groups tracks segments text : ℕ)
    → in_order table (row 210 (not (length_rule card)) ∷ (block_rows number least last b ++ (room_row (blocks_of card) groups tracks segments text ∷ []))) ≡ true
load_order card b number least last groups tracks segments text = refl

-- the rows of block k of these, of which the first has the place `number` and stands behind the kind `least`
abbrev pub rows_of : ℕ → ℕ → List (List ℕ) → ℕ → List Row
rows_of number least [] k = []
rows_of number least (b ∷ bs) zero = block_rows number least (last_of_kind b bs) b
rows_of number least (b ∷ bs) (suc k) = rows_of (number + 1) (kind_of b) bs k

-- the first block that breaks a rule is said, whatever stands behind it
lowest : (number least : ℕ) (bs : List (List ℕ)) (k : ℕ) → ((i : ℕ) → i < k → accepted (rows_of number least bs i) ≡ true)
    → (said_by (rows_of number least bs k)).is_granted ≡ false → said_by (blocks_rows number least bs) ≡ said_by (rows_of number least bs k)
unfolding blocks_rows
lowest number least [] k h bad = clash (sym bad)
lowest number least (b ∷ bs) zero h bad = sym (more (block_rows number least (last_of_kind b bs) b) (blocks_rows (number + 1) (kind_of b) bs) bad)
lowest number least (b ∷ bs) (suc k) h bad =
    sym (beyond (block_rows number least (last_of_kind b bs) b) (blocks_rows (number + 1) (kind_of b) bs) (none_of (block_rows number least (last_of_kind b bs) b) (h 0 (omega arith))) refl)
    ∙ lowest (number + 1) (kind_of b) bs k (λ i l. h (suc i) (omega arith)) bad

-- and it is said with its place
placed : (number least : ℕ) (bs : List (List ℕ)) (k : ℕ) → (said_by (rows_of number least bs k)).is_granted ≡ false → (said_by (rows_of number least bs k)).values ≡ (number + k) ∷ []
placed number least [] k bad = clash (sym bad)
placed number least (b ∷ bs) zero bad =
    let z : number + 0 ≡ number = omega arith in
    rw z (all_carry (number ∷ []) (block_rows number least (last_of_kind b bs) b) (refl, (refl, (refl, (refl, (refl, (refl, tt)))))) bad)
placed number least (b ∷ bs) (suc k) bad =
    let z : number + suc k ≡ number + 1 + k = omega arith in
    rw z (placed (number + 1) (kind_of b) bs k bad)

-- The lowest bad block is named (SCOPE 3.12): where the blocks before block k are right and it is not, it is told, with its place, whatever stands behind it
-- and whatever room there is.
pub lowest_bad : (card : List ℕ) (groups tracks segments text k : ℕ) → length_rule card ≡ true
    → let bs = blocks_of card in
    ((i : ℕ) → i < k → accepted (rows_of 0 1 bs i) ≡ true) → (said_by (rows_of 0 1 bs k)).is_granted ≡ false
    → let said = load_said card groups tracks segments text in
    (said ≡ said_by (rows_of 0 1 bs k)) × (said.values ≡ k ∷ [])
lowest_bad card groups tracks segments text k l h bad =
    let found = lowest 0 1 (blocks_of card) k h bad in
    let told = sym (says_block card groups tracks segments text l (ap (λ (said : Said). said.is_granted) found ∙ bad)) ∙ found in
    (told, ap (λ (said : Said). said.values) told ∙ (rw (zero-add k) at (placed 0 1 (blocks_of card) k bad)))

pub load_keeps : (κs : Lfts 5) (card : Bor (List ℕ)) (groups tracks segments text : MutBor (List ℕ)) (o : Outcome)
    → Meets κs card groups tracks segments text o → (said_of o.answer).is_granted ≡ false
    → (o.groups ≡ groups.now) × (o.tracks ≡ tracks.now) × (o.segments ≡ segments.now) × (o.text ≡ text.now)
load_keeps κs card groups tracks segments text o p h =
    let said = said_of o.answer in
    let bs = blocks_of card.now in (
      table_kept said (gather words 1 bs) groups.now o.groups h p.1.0,
      table_kept said (gather words 2 bs) tracks.now o.tracks h p.1.1.0,
      table_kept said (gather words 3 bs) segments.now o.segments h p.1.1.1.0,
      table_kept said (gather octets 4 bs) text.now o.text h p.1.1.1.1,
    )
