-- `catalogue_objects::read`: what the octets are decides, and then the room.
use borrow.Author.Rules.{rules}
use lib.ListN.{length}
use Rattle.catalogue_objects.proofs.Answers.{too_few_words, bad_entries, no_words, all_read}
use Rattle.catalogue_objects.proofs.read.Goals as goal

pub returns-in_default-clause-result_value : goal.returns-in_default-clause-result_value
returns-in_default-clause-result_value c =
    bad_entries c.args.kind c.args.octets.now _ c.in_default.ensures _ c.from.ensures

pub returns-then-out-width-clause-result_value : goal.returns-then-out-width-clause-result_value
returns-then-out-width-clause-result_value c =
    let a = c.args in
    let told = c.in-Some.ensures in
    let short = too_few_words a.kind (length a.out.now) c.in-Some.count _ c.width_of-width.ensures.0 c.if-out-width.true in
    no_words a.kind a.octets.now _ told.0 (rw told.1 at short) _ c.from-then-out-width.ensures

pub returns-clause-result_value : goal.returns-clause-result_value
returns-clause-result_value c =
    let told = c.in-Some.ensures in
    all_read c.args.kind c.args.octets.now _ told.0 (search rules) _ told.1
