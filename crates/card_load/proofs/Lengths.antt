-- What right blocks tell: each count has room in its block, and how much is gathered. Assumes nothing.
use mathlib.Core.Path.{◌≡◌, refl, sym, ap, ◌∙◌}
use mathlib.Core.Bool.{Bool, true, false}
use mathlib.Core.List.{List, [], ◌∷◌, ◌++◌}
use Prim.Native.Nat.{ℕ, zero, suc, ◌+◌, ◌*◌, ◌≤◌, ◌<◌}
use native.Mathlib.Nat.{add-mul, zero-add, zero-mul, not-suc-le-zero}
use native.Mathlib.Omega.{arith}
use borrow.Author.Tests.{eqb-true}
use lib.Dec.{eqb}
use lib.ListN.{length, get_or, length-append}
use Rattle.ground.specs.Cases.{pick}
use Rattle.ground.specs.Refusals.{accepted}
use Rattle.ground.proofs.Cases.{and_left, and_right, and_both}
use Rattle.ground.proofs.Rows.{both_accept}
use Rattle.card_block.specs.Block.{kind_of, count_of, most_records, records_of, block_rows, block_rule}
use Rattle.card_block.proofs.Records.{block_count}
use Rattle.card_load.specs.Card.{blocks, block_at, last_of_kind, blocks_rows, blocks_rule, record_count, gather, CountsFit}
use Rattle.card_load.proofs.Blocks.{blocks_at, blocks_length, block_length}

-- right blocks are a right block and then right blocks
pub blocks_first : (number least : ℕ) (b : List ℕ) (bs : List (List ℕ)) → blocks_rule number least (b ∷ bs) ≡ true
    → (block_rule number least (last_of_kind b bs) b ≡ true) × (blocks_rule (number + 1) (kind_of b) bs ≡ true)
unfolding blocks_rows block_rule
blocks_first number least b bs h =
    let rows = block_rows number least (last_of_kind b bs) b in
    let more = blocks_rows (number + 1) (kind_of b) bs in
    let e = sym (both_accept rows more) ∙ h in
    (and_left (accepted rows) (accepted more) e, and_right (accepted rows) (accepted more) e)

pub blocks_onto : (number least : ℕ) (b : List ℕ) (bs : List (List ℕ)) → block_rule number least (last_of_kind b bs) b ≡ true → blocks_rule (number + 1) (kind_of b) bs ≡ true
    → blocks_rule number least (b ∷ bs) ≡ true
unfolding blocks_rows block_rule
blocks_onto number least b bs r s = both_accept (block_rows number least (last_of_kind b bs) b) (blocks_rows (number + 1) (kind_of b) bs) ∙ and_both r s

fit_list : (number least : ℕ) (bs : List (List ℕ)) → blocks_rule number least bs ≡ true
    → (i : ℕ) → i < length bs → count_of (get_or bs i []) ≤ most_records (kind_of (get_or bs i []))
fit_list number least [] h i l = absurd (not-suc-le-zero l)
fit_list number least (b ∷ bs) h zero l = block_count number least (last_of_kind b bs) b (blocks_first number least b bs h).0
fit_list number least (b ∷ bs) h (suc i) l = fit_list (number + 1) (kind_of b) bs (blocks_first number least b bs h).1 i (omega arith)

pub counts_fit : (n : ℕ) (card : List ℕ) → blocks_rule 0 1 (blocks n card) ≡ true → CountsFit n card
counts_fit n card h i k =
    let l : i < length (blocks n card) = rw blocks_length k in
    rw (blocks_at n card i k) at (fit_list 0 1 (blocks n card) h i l)

one : (v : List ℕ) (m w : ℕ) (g : List ℕ) (n : ℕ) (t : Bool) → (t ≡ true → length v ≡ m * w) → length g ≡ n * w
    → length (pick t v [] ++ g) ≡ (pick t m 0 + n) * w
one v m w g n true h q = length-append v g ∙ (λ k. h refl k + q k) ∙ sym (add-mul m n w)
one v m w g n false h q = q ∙ ap (λ (l : ℕ). l * w) (sym (zero-add n))

-- where f makes w values of each record of a kind
gather_list : (f : List ℕ → List ℕ) (kind w : ℕ) (bs : List (List ℕ))
    → ((i : ℕ) → i < length bs → eqb (kind_of (get_or bs i [])) kind ≡ true → length (f (records_of (get_or bs i []))) ≡ count_of (get_or bs i []) * w)
    → length (gather f kind bs) ≡ record_count kind bs * w
unfolding gather record_count
gather_list f kind w [] h = sym (zero-mul w)
gather_list f kind w (b ∷ bs) h =
    one (f (records_of b)) (count_of b) w (gather f kind bs) (record_count kind bs) (eqb (kind_of b) kind)
    (h 0 (omega arith))
    (gather_list f kind w bs (λ i l. h (suc i) (omega arith)))

pub gather_length : (f : List ℕ → List ℕ) (kind w n : ℕ) (card : List ℕ) → n * 512 ≤ length card → CountsFit n card
    → ((b : List ℕ) → length b ≡ 512 → count_of b ≤ most_records (kind_of b) → kind_of b ≡ kind → length (f (records_of b)) ≡ count_of b * w)
    → length (gather f kind (blocks n card)) ≡ record_count kind (blocks n card) * w
gather_length f kind w n card long fit makes =
    gather_list f kind w (blocks n card)
    (λ i l t.
    let h : i < n = rw blocks_length at l in
    let e = blocks_at n card i h in
    rw e (makes (block_at card i) (block_length n card i h long) (fit i h) (eqb-true _ _ (rw e at t))))
