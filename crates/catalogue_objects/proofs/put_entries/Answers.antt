-- `catalogue_objects::put_entries`: the words of the entries before the place are laid, and those of the others are left.
use mathlib.Core.Path.{refl}
use Rattle.catalogue_objects.proofs.Writing.{writing_starts, writing_ends, entry_within, words_fit, writing_goes}
use Rattle.catalogue_objects.proofs.put_entries.Goals as goal

pub loop-at-init : goal.loop-at-init
loop-at-init c =
    writing_starts c.args.kind c.args.octets.now c.args.out.now c.requires.octets_value c.requires.kind_in_bounds

pub put_entry-requires-clause-at_in_bounds : goal.put_entry-requires-clause-at_in_bounds
put_entry-requires-clause-at_in_bounds c =
    (c.loop-at-test.true, entry_within c.loop-at.invariant c.loop-at-test.true refl)

pub put_entry-requires-clause-kind_in_bounds : goal.put_entry-requires-clause-kind_in_bounds
put_entry-requires-clause-kind_in_bounds c =
    words_fit c.loop-at.invariant c.loop-at-test.true

pub loop-at-preserved : goal.loop-at-preserved
loop-at-preserved c =
    writing_goes c.loop-at.invariant c.loop-at-test.true c.size_at-at.ensures.0 c.put_entry.new.out c.width_of-width.ensures.0 c.put_entry.ensures

pub returns : goal.returns
returns c =
    writing_ends c.loop-at.invariant c.loop-at-test.false
