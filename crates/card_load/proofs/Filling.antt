-- A loop that fills the front of a table, block by block. Assumes nothing.
use mathlib.Core.Path.{◌≡◌, refl, sym, ap, ◌∙◌}
use mathlib.Core.List.{List, [], ◌++◌}
use Prim.Native.Nat.{ℕ, ◌+◌, ◌≤◌, ◌<◌}
use borrow.Author.Tests.{eq-eqb, ne_eqb}
use lib.Dec.{eqb}
use lib.ListN.{length, drop}
use lib.Seq.{paste}
use Rattle.ground.specs.Cases.{pick}
use Rattle.ground.specs.Lists.{filled}
use Rattle.ground.proofs.Filling as ground
use Rattle.card_block.specs.Block.{kind_of, records_of}
use Rattle.card_block.proofs.Records.{Cut}
use Rattle.card_load.specs.Card.{blocks, block_at, gather}
use Rattle.card_load.proofs.Blocks.{blocks_cons, blocks_end}

-- what is left to gather behind i blocks of n
abbrev pub Filling : (List ℕ → List ℕ) → ℕ → ℕ → List ℕ → List ℕ → List ℕ → ℕ → ℕ → Type 0
Filling f kind n card old dst i at = ground.Filling (gather f kind (blocks n card)) (gather f kind (drop i (blocks n card))) old dst at

module _ (f : List ℕ → List ℕ) (kind n : ℕ) (card old : List ℕ) where
  pub start : Filling f kind n card old old 0 0
  start = ground.filling_starts _ old refl

  next : (i : ℕ) → i < n
      → gather f kind (drop i (blocks n card))
      ≡ pick (eqb (kind_of (block_at card i)) kind) (f (records_of (block_at card i))) [] ++ gather f kind (drop (i + 1) (blocks n card))
  unfolding gather
  next i h = rw (blocks_cons n card i h)

  pub end : (dst : List ℕ) (i at : ℕ) → n ≤ i → Filling f kind n card old dst i at → dst ≡ filled (gather f kind (blocks n card)) old
  unfolding gather
  end dst i at h = ground.filling_ends _ old _ dst at (rw (blocks_end n card i h))

  module _ (dst : List ℕ) (i at : ℕ) (h : i < n) (F : Filling f kind n card old dst i at) where
    -- a block of another kind
    pub skip : (kind_of (block_at card i) ≡ kind → ⊥) → Filling f kind n card old dst (i + 1) at
    skip t =
        record { within = F.within; same = F.same; front = rw (next i h, ne_eqb _ _ t) at F.front; back = F.back }

    -- a block of the kind: what its records make is the front m of w
    module _ (t : kind_of (block_at card i) ≡ kind) (w : List ℕ) (m : ℕ) (q : Cut f (block_at card i) w m) where
      piece : gather f kind (drop i (blocks n card)) ≡ f (records_of (block_at card i)) ++ gather f kind (drop (i + 1) (blocks n card))
      piece = next i h ∙ rw (eq-eqb _ _ t)

      long : length (f (records_of (block_at card i))) ≡ m
      long = sym (ap length q.0) ∙ q.1

      -- it has room
      pub room : length (gather f kind (blocks n card)) ≤ length old → at + m ≤ length dst
      room = ground.filling_room _ old _ dst at F (f (records_of (block_at card i))) (gather f kind (drop (i + 1) (blocks n card))) piece m long

      -- it is pasted in
      pub put : (to : List ℕ) → length (gather f kind (blocks n card)) ≤ length old → to ≡ paste dst at w m → Filling f kind n card old to (i + 1) (at + m)
      put to r = ground.filling_goes _ old _ dst at F (f (records_of (block_at card i))) (gather f kind (drop (i + 1) (blocks n card))) piece m long to w q.0 (room r)
