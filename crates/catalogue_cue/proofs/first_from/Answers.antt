-- `catalogue_cue::first_from`: each octet is one step.
use mathlib.Core.Path.{◌≡◌, sym, ◌∙◌}
use native.Mathlib.Omega.{arith}
use lib.ListN.{length}
use Rattle.catalogue_cue.proofs.Ahead.{ahead_stops, ahead_ends, passes_one}
use Rattle.catalogue_cue.proofs.first_from.Goals as goal

pub returns-then-is_it : goal.returns-then-is_it
returns-then-is_it c =
    let p = c.loop-i.invariant in
    (ahead_stops _ c.args.s.now c.loop-i.i c.loop-i-test.true (sym c.is_it.ensures ∙ c.if-is_it.true) ∙ p.same, p.high)

pub loop-i-preserved : goal.loop-i-preserved
loop-i-preserved c =
    passes_one c.loop-i.invariant c.loop-i-test.true (sym c.is_it.ensures ∙ c.if-is_it.false)

pub returns : goal.returns
returns c =
    let p = c.loop-i.invariant in
    let end : length c.args.s.now ≡ c.loop-i.i = omega (arith, p.high) in
    (end ∙ ahead_ends _ c.args.s.now c.loop-i.i c.loop-i-test.false ∙ p.same, omega arith)
