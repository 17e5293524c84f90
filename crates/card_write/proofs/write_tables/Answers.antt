-- `card_write::write_tables`: the four runs of blocks, one behind the other, are the card.
use mathlib.Core.Path.{refl, ◌∙◌}
use borrow.Author.Tests.{lt-ltb, le-ltb}
use Rattle.ground.proofs.Cases.{past, here}
use Rattle.ground.proofs.Laying.{laid_front}
use Rattle.catalogue_tables.specs.Tables.{tables}
use Rattle.card_write.specs.Card.{card_of}
use Rattle.card_write.proofs.Joining.{card_laid}
use Rattle.card_write.proofs.write_tables.Goals as goal

pub returns-then-card-n-clause-result_value : goal.returns-then-card-n-clause-result_value
returns-then-card-n-clause-result_value c =
    c.from.ensures ∙ here _ (lt-ltb _ _ c.if-card-n.true) refl

pub returns-then-card-n-clause-card_after : goal.returns-then-card-n-clause-card_after
returns-then-card-n-clause-card_after c =
    refl

pub returns-clause-result_value : goal.returns-clause-result_value
returns-clause-result_value c =
    let a = c.args in
    let k = tables a.groups.now a.tracks.now a.segments.now a.text.now in past _ (le-ltb _ _ c.if-card-n.false) refl

pub returns-clause-card_after : goal.returns-clause-card_after
returns-clause-card_after c =
    let a = c.args in
    let k = tables a.groups.now a.tracks.now a.segments.now a.text.now in card_laid k a.card.now
    c.write_words.new.card c.write_words-2.new.card c.write_words-3.new.card c.write_text.new.card c.if-card-n.false
    c.write_words.ensures c.write_words-2.ensures c.write_words-3.ensures c.write_text.ensures
    ∙ laid_front a.card.now (card_of k)
