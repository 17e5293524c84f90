-- `catalogue_cue::start_of`: minutes, seconds and frames.
use mathlib.Core.Path.{◌∙◌}
use native.Mathlib.Omega.{arith}
use Rattle.catalogue_cue.specs.Sheet.{hundredths, start_of}
use Rattle.catalogue_cue.proofs.Form.{start_form, digits_9, digits_12, digits_15}
use Rattle.catalogue_cue.proofs.start_of.Goals as goal

pub number_at-mm-requires-clause-at_in_bounds : goal.number_at-mm-requires-clause-at_in_bounds
number_at-mm-requires-clause-at_in_bounds c =
    let f = start_form _ c.requires in omega (arith, f.long)

pub number_at-mm-requires-clause-at_value : goal.number_at-mm-requires-clause-at_value
number_at-mm-requires-clause-at_value c =
    let f = start_form _ c.requires in digits_9 _ f.time

pub number_at-ss-requires-clause-at_in_bounds : goal.number_at-ss-requires-clause-at_in_bounds
number_at-ss-requires-clause-at_in_bounds c =
    let f = start_form _ c.requires in omega (arith, f.long)

pub number_at-ss-requires-clause-at_value : goal.number_at-ss-requires-clause-at_value
number_at-ss-requires-clause-at_value c =
    let f = start_form _ c.requires in digits_12 _ f.time

pub number_at-ff-requires-clause-at_in_bounds : goal.number_at-ff-requires-clause-at_in_bounds
number_at-ff-requires-clause-at_in_bounds c =
    let f = start_form _ c.requires in omega (arith, f.long)

pub number_at-ff-requires-clause-at_value : goal.number_at-ff-requires-clause-at_value
number_at-ff-requires-clause-at_value c =
    let f = start_form _ c.requires in digits_15 _ f.time

pub returns : goal.returns
unfolding start_of
returns c =
    c.hundredths_of.ensures ∙ (λ i. hundredths (c.number_at-mm.ensures.0 i) (c.number_at-ss.ensures.0 i) (c.number_at-ff.ensures.0 i))
