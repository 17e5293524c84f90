-- `catalogue_objects::entries_over`: what is left is whole as all is, and what is counted and what is left make up all.
use mathlib.Core.Path.{sym, ◌∙◌}
use borrow.Author.Rules.{rules}
use Rattle.catalogue_objects.proofs.Steps.{entry_inside}
use Rattle.catalogue_objects.proofs.Counting.{counting_ends, counting_stops, counting_goes}
use Rattle.catalogue_objects.proofs.entries_over.Goals as goal

pub returns-then-not-is_entry : goal.returns-then-not-is_entry
returns-then-not-is_entry c =
    counting_stops c.loop-at.invariant.counting c.loop-at-test.true (sym c.is_entry.ensures ∙ c.if-not-is_entry.true)

pub loop-at-preserved : goal.loop-at-preserved
loop-at-preserved c =
    let below = c.loop-at-test.true in
    let is = sym c.is_entry.ensures ∙ c.if-not-is_entry.false in
    let size = c.size_at-at.ensures.0 in
    record {
      within = entry_inside c.args.kind c.args.octets.now c.loop-at.at below is _ size;
      few = search rules;
      counting = counting_goes c.loop-at.invariant.counting below is size;
    }

pub returns : goal.returns
returns c =
    counting_ends c.loop-at.invariant.counting c.loop-at-test.false
