-- `card_load::last_of_kind`: the two kind octets are compared where they stand on the card.
use mathlib.Core.Path.{◌≡◌, refl}
use mathlib.Core.Bool.{true, not}
use mathlib.Core.List.{List}
use Prim.Native.Nat.{ℕ, ◌+◌, ◌*◌, ◌≤◌, ◌<◌}
use native.Mathlib.Omega.{arith}
use lib.Dec.{eqb}
use lib.ListN.{get_or, drop}
use Rattle.card_load.specs.Card.{blocks, block_at, last_of_kind}
use Rattle.card_load.proofs.Blocks.{blocks_cons, blocks_end, kind_at}
-- the block behind
use Rattle.card_load.proofs.last_of_kind.Goals as goal

by_octets : (card : List ℕ) (n i own behind : ℕ) → i + 1 < n → own ≡ i * 512 + 2 → behind ≡ (i + 1) * 512 + 2
    → not (eqb (get_or card behind 0) (get_or card own 0)) ≡ last_of_kind (block_at card i) (drop (i + 1) (blocks n card))
unfolding last_of_kind
by_octets card n i own behind h p q =
    rw (blocks_cons n card (i + 1) h) (λ k. not (eqb (kind_at card (i + 1) behind q k) (kind_at card i own p k)))

-- or none
by_end : (card : List ℕ) (n i : ℕ) → n ≤ i + 1 → true ≡ last_of_kind (block_at card i) (drop (i + 1) (blocks n card))
unfolding last_of_kind
by_end card n i h = rw (blocks_end n card (i + 1) h)

pub returns-then-i-n : goal.returns-then-i-n
returns-then-i-n c =
    let a = c.args in
    by_octets a.card.now a.n a.i _ _ c.if-i-n.true refl (omega arith)

pub returns : goal.returns
returns c =
    let a = c.args in
    let h : a.n ≤ a.i + 1 = omega arith in
    by_end a.card.now a.n a.i h
