-- `card_block::judge`: at each return the rules that were asked say which row of `block_rows` is the first that applies, or that none does.
use mathlib.Core.Path.{◌≡◌, refl, sym, ap, ◌∙◌}
use mathlib.Core.Bool.{Bool, true, false, not}
use Rattle.ground.proofs.Cases.{past, here}
use Rattle.card_block.proofs.Records.{count_room}
use Rattle.card_block.proofs.judge.Goals as goal

-- a rule that was asked and is kept: its row does not apply
kept : {answer rule : Bool} → answer ≡ rule → answer ≡ true → not rule ≡ false
kept asked true_said = ap not (sym asked ∙ true_said)

-- one that is broken: its row applies
broken : {answer rule : Bool} → answer ≡ rule → answer ≡ false → not rule ≡ true
broken asked false_said = ap not (sym asked ∙ false_said)

pub returns-then-not-check_right : goal.returns-then-not-check_right
returns-then-not-check_right c =
    here _ (broken c.check_right.ensures c.if-not-check_right.true) c.at.ensures

pub returns-then-not-number_right : goal.returns-then-not-number_right
returns-then-not-number_right c =
    past _ (kept c.check_right.ensures c.if-not-check_right.false)
    (here _ (broken c.number_right.ensures c.if-not-number_right.true) c.at-then-not-number_right.ensures)

pub returns-then-not-kind_right : goal.returns-then-not-kind_right
returns-then-not-kind_right c =
    past _ (kept c.check_right.ensures c.if-not-check_right.false)
    (past _ (kept c.number_right.ensures c.if-not-number_right.false)
    (here _ (broken c.kind_right.ensures c.if-not-kind_right.true) c.at-then-not-kind_right.ensures))

pub returns-then-not-count_right : goal.returns-then-not-count_right
returns-then-not-count_right c =
    past _ (kept c.check_right.ensures c.if-not-check_right.false)
    (past _ (kept c.number_right.ensures c.if-not-number_right.false)
    (past _ (kept c.kind_right.ensures c.if-not-kind_right.false)
    (here _ (broken c.count_right.ensures c.if-not-count_right.true) c.at-then-not-count_right.ensures)))

pub returns-then-not-full_right : goal.returns-then-not-full_right
returns-then-not-full_right c =
    past _ (kept c.check_right.ensures c.if-not-check_right.false)
    (past _ (kept c.number_right.ensures c.if-not-number_right.false)
    (past _ (kept c.kind_right.ensures c.if-not-kind_right.false)
    (past _ (kept c.count_right.ensures c.if-not-count_right.false)
    (here _ (broken c.full_right.ensures c.if-not-full_right.true) c.at-then-not-full_right.ensures))))

pub padding_right-requires-clause-b_bound : goal.padding_right-requires-clause-b_bound
padding_right-requires-clause-b_bound c =
    count_room _ (sym c.count_right.ensures ∙ c.if-not-count_right.false)

pub returns-then-not-padding_right : goal.returns-then-not-padding_right
returns-then-not-padding_right c =
    past _ (kept c.check_right.ensures c.if-not-check_right.false)
    (past _ (kept c.number_right.ensures c.if-not-number_right.false)
    (past _ (kept c.kind_right.ensures c.if-not-kind_right.false)
    (past _ (kept c.count_right.ensures c.if-not-count_right.false)
    (past _ (kept c.full_right.ensures c.if-not-full_right.false)
    (here _ (broken c.padding_right.ensures c.if-not-padding_right.true) c.at-then-not-padding_right.ensures)))))

pub returns : goal.returns
returns c =
    past _ (kept c.check_right.ensures c.if-not-check_right.false)
    (past _ (kept c.number_right.ensures c.if-not-number_right.false)
    (past _ (kept c.kind_right.ensures c.if-not-kind_right.false)
    (past _ (kept c.count_right.ensures c.if-not-count_right.false)
    (past _ (kept c.full_right.ensures c.if-not-full_right.false)
    (past _ (kept c.padding_right.ensures c.if-not-padding_right.false) refl)))))
