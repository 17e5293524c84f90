-- `catalogue_cue::number_at`: tens and ones.
use native.Mathlib.Omega.{arith}
use lib.ListN.{get_or}
use Rattle.ground.proofs.Cases.{and_left, and_right}
use Rattle.catalogue_cue.specs.Sheet.{is_digit, digits_at, number_at}
use Rattle.catalogue_cue.proofs.number_at.Goals as goal

pub digit-requires : goal.digit-requires
unfolding digits_at
digit-requires c =
    let a = c.args in and_left (is_digit (get_or a.line.now a.at 0)) _ c.requires.at_value

pub digit-requires-2 : goal.digit-requires-2
unfolding digits_at
digit-requires-2 c =
    let a = c.args in and_right (is_digit (get_or a.line.now a.at 0)) _ c.requires.at_value

pub returns : goal.returns
unfolding number_at
returns c =
    (omega (arith, c.digit.ensures.0, c.digit-2.ensures.0), omega (arith, c.digit.ensures.1, c.digit-2.ensures.1))
