-- `card_load::judge_blocks`: what the rows of the blocks that are left say is what the rows of all say.
use Prim.Native.Nat.{ℕ, ◌<◌, ◌+◌}
use mathlib.Core.Path.{◌≡◌, refl, sym, ap, ◌∙◌}
use mathlib.Core.Bool.{Bool, false}
use mathlib.Core.List.{List, [], ◌++◌}
use lib.ListN.{length, drop}
use Rattle.ground.specs.Refusals.{Said, granted, Row, said_by}
use Rattle.ground.proofs.Passed.{passed_on}
use Rattle.ground.proofs.Rows.{kept, more, beyond}
use Rattle.card_block.specs.Block.{kind_of, block_rows}
use Rattle.card_load.specs.Card.{blocks, block_at, last_of_kind, blocks_rows}
use Rattle.card_load.proofs.Blocks.{blocks_cons, blocks_end, block_length}
use Rattle.card_load.proofs.judge_blocks.Goals as goal

-- the rows of block i, and those of the blocks behind it
module _ (n : ℕ) (card : List ℕ) (i least : ℕ) (h : i < n) where
  abbrev own_rows : Bool → List Row
  own_rows last = block_rows i least last (block_at card i)

  abbrev behind : List Row
  behind = blocks_rows (i + 1) (kind_of (block_at card i)) (drop (i + 1) (blocks n card))

  abbrev last : Bool
  last = last_of_kind (block_at card i) (drop (i + 1) (blocks n card))

  -- one more block
  step : blocks_rows i least (drop i (blocks n card)) ≡ own_rows last ++ behind
  unfolding blocks_rows
  step = rw (blocks_cons n card i h)

  -- what is said of the block where it breaks a rule, and what of those behind it where it breaks none
  module _ {asked : Bool} (e : asked ≡ last) {said whole : Said} (own : said ≡ said_by (own_rows asked)) (all : said_by (blocks_rows i least (drop i (blocks n card))) ≡ whole) where
    own_said : said ≡ said_by (own_rows last)
    own_said = own ∙ ap (λ (l : Bool). said_by (own_rows l)) e

    broken : said.is_granted ≡ false → said ≡ whole
    broken refused = own_said ∙ more (own_rows last) behind (ap (λ (s : Said). s.is_granted) (sym own_said) ∙ refused) ∙ sym (ap said_by step) ∙ all

    right : said ≡ granted [] → said_by behind ≡ whole
    right fine = beyond (own_rows last) behind (kept (own_rows last) (granted []) (ap (λ (s : Said). s.is_granted) (sym own_said ∙ fine))) refl ∙ sym (ap said_by step) ∙ all

pub judge-requires : goal.judge-requires
judge-requires c =
    block_length c.args.n c.args.card.now c.loop-i.i c.loop-i-test.true c.requires

pub returns-in_err-judge : goal.returns-in_err-judge
returns-in_err-judge c =
    passed_on _ _ _ c.from_residual.ensures.1
    (broken c.args.n c.args.card.now c.loop-i.i c.loop-i.least c.loop-i-test.true c.last_of_kind-last.ensures c.in_err-judge.ensures c.loop-i.invariant refl)

pub loop-i-preserved : goal.loop-i-preserved
loop-i-preserved c =
    right c.args.n c.args.card.now c.loop-i.i c.loop-i.least c.loop-i-test.true c.last_of_kind-last.ensures c.in_ok-judge.ensures c.loop-i.invariant refl

pub returns : goal.returns
unfolding blocks_rows
returns c =
    let a = c.args in
    rw (blocks_end a.n a.card.now c.loop-i.i c.loop-i-test.false) at c.loop-i.invariant
