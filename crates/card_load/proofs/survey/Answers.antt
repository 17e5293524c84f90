-- `card_load::survey`: at each return the rows that were asked say what `load_said` is.
use mathlib.Core.Path.{◌≡◌, refl, sym, ap, ◌∙◌}
use mathlib.Core.Bool.{true, false}
use mathlib.Core.List.{List}
use Prim.Native.Nat.{ℕ, ◌%◌, ◌≤◌}
use native.Mathlib.Omega.{arith}
use borrow.Author.Tests.{eq-eqb, ne_eqb, le-leb, lt-leb}
use lib.Dec.{eqb}
use lib.ListN.{length}
use Rattle.ground.specs.Refusals.{Said, said_by, granted}
use Rattle.ground.proofs.Cases.{and_both, and_fails}
use Rattle.ground.proofs.Passed.{passed_on}
use Rattle.ground.proofs.Rows.{accepted_said}
use Rattle.card_load.specs.Card.{length_rule, blocks_of, blocks_rows, blocks_rule}
use Rattle.card_load.proofs.Answers.{says_length, says_block, says_behind}
use Rattle.card_load.proofs.survey.Goals as goal

length_holds : (card : List ℕ) → length card % 512 ≡ 0 → length card ≤ 65536 → length_rule card ≡ true
unfolding length_rule
length_holds card whole short = and_both (eq-eqb _ 0 whole) (le-leb _ 65536 short)

-- blocks of which nothing is said keep their rules
blocks_hold : (card : List ℕ) {said : Said} → said ≡ said_by (blocks_rows 0 1 (blocks_of card)) → said.is_granted ≡ true → blocks_rule 0 1 (blocks_of card) ≡ true
blocks_hold card e fine =
    let rows = blocks_rows 0 1 (blocks_of card) in
    sym (accepted_said rows) ∙ ap (λ (said : Said). said.is_granted) (sym e) ∙ fine

pub returns-then-len-ne0 : goal.returns-then-len-ne0
unfolding length_rule
returns-then-len-ne0 c =
    c.from.ensures ∙ says_length _ _ _ _ _ (rw (ne_eqb _ 0 c.if-len-ne0.true))

pub returns-then-len-gt-MOST_CARD : goal.returns-then-len-gt-MOST_CARD
unfolding length_rule
returns-then-len-gt-MOST_CARD c =
    let above : length_rule c.args.card.now ≡ false = and_fails (eqb (length c.args.card.now % 512) 0) (lt-leb _ 65536 c.if-len-gt-MOST_CARD.true) in
    c.from-then-len-gt-MOST_CARD.ensures ∙ says_length _ _ _ _ _ above

pub returns-in_err-judge_blocks : goal.returns-in_err-judge_blocks
returns-in_err-judge_blocks c =
    let q = c.in_err-judge_blocks.ensures in
    passed_on _ _ _ c.from_residual.ensures.1
    (q ∙ says_block _ _ _ _ _ (length_holds _ c.if-len-ne0.false (omega arith)) (ap (λ (said : Said). said.is_granted) (sym q)))

pub returns : goal.returns
returns c =
    says_behind _ _ _ _ _ (length_holds _ c.if-len-ne0.false (omega arith)) (blocks_hold _ c.in_ok-judge_blocks.ensures refl) c.count.ensures
