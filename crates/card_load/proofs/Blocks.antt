-- The blocks of a card as a loop meets them: the next one, its length, none behind the last. Assumes nothing.
use mathlib.Core.Path.{◌≡◌, refl, sym, ap, ◌∙◌}
use mathlib.Core.List.{List, [], ◌∷◌}
use Prim.Native.Nat.{ℕ, zero, suc, ◌+◌, ◌*◌, ◌-◌, ◌≤◌, ◌<◌}
use native.Mathlib.Nat.{add-sub_cancel_left, not-suc-le-zero}
use native.Mathlib.Numerals.{add-one}
use native.Mathlib.Omega.{arith}
use lib.Dec.{lit≤}
use lib.ListN.{length, get_or, take, drop, length-take, length-drop, drop_of_length-le}
use lib.Seq.{drop-drop, drop-cons, get_or-take, get_or-drop}
use Rattle.card_block.specs.Block.{kind_of}
use Rattle.card_load.specs.Card.{blocks, block_at}

pub blocks_length : (n : ℕ) (card : List ℕ) → length (blocks n card) ≡ n
unfolding blocks
blocks_length zero card = refl
blocks_length (suc n) card = ap suc (blocks_length n (drop 512 card))

blocks_take : (n : ℕ) (card : List ℕ) (i : ℕ) → i < n → get_or (blocks n card) i [] ≡ take 512 (drop (i * 512) card)
unfolding blocks
blocks_take zero card i h = absurd (not-suc-le-zero h)
blocks_take (suc n) card zero h = refl
blocks_take (suc n) card (suc i) h =
    let e : suc i * 512 ≡ 512 + i * 512 = omega arith in
    blocks_take n (drop 512 card) i (omega arith) ∙ rw (e, drop-drop (i * 512) 512 card)

pub blocks_at : (n : ℕ) (card : List ℕ) (i : ℕ) → i < n → get_or (blocks n card) i [] ≡ block_at card i
blocks_at n card i h = rw (add-sub_cancel_left (i * 512) 512) (blocks_take n card i h)

-- what is left from block i on begins with it
pub blocks_cons : (n : ℕ) (card : List ℕ) (i : ℕ) → i < n → drop i (blocks n card) ≡ block_at card i ∷ drop (i + 1) (blocks n card)
blocks_cons n card i h =
    let l : i < length (blocks n card) = rw blocks_length h in
    rw (add-one i, sym (blocks_at n card i h)) (drop-cons (blocks n card) i [] l)

pub blocks_end : (n : ℕ) (card : List ℕ) (i : ℕ) → n ≤ i → drop i (blocks n card) ≡ []
blocks_end n card i h = let l : length (blocks n card) ≤ i = rw blocks_length h in drop_of_length-le (blocks n card) l

pub block_length : (n : ℕ) (card : List ℕ) (i : ℕ) → i < n → n * 512 ≤ length card → length (block_at card i) ≡ 512
block_length n card i h k = simp (length-take, length-drop) (omega arith)

-- where the kind octet of a block stands on the card
pub kind_at : (card : List ℕ) (i at : ℕ) → at ≡ i * 512 + 2 → get_or card at 0 ≡ kind_of (block_at card i)
kind_at card i at e =
    let long : i * 512 + 512 - i * 512 ≡ 512 = add-sub_cancel_left (i * 512) 512 in
    ap (λ (k : ℕ). get_or card k 0) e
    ∙ sym (get_or-drop (i * 512) card 2 0)
    ∙ sym (get_or-take 512 (drop (i * 512) card) 2 0 (lit≤ tt))
    ∙ ap (λ (k : ℕ). get_or (take k (drop (i * 512) card)) 2 0) (sym long)
