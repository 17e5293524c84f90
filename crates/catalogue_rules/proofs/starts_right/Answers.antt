-- `catalogue_rules::starts_right`: after i turns, the rule of the first i tracks.
use mathlib.Core.Path.{refl, sym, ◌∙◌}
use native.Mathlib.Omega.{arith}
use Rattle.ground.specs.Lists.{all_below}
use Rattle.ground.proofs.Bounded.{all_turn, all_end}
use Rattle.catalogue_tables.specs.Tables.{starts_of, end_of}
use Rattle.catalogue_rules.specs.Rules.{starts_right, starts_rule}
use Rattle.catalogue_rules.proofs.Runs.{run_part}
use Rattle.catalogue_rules.proofs.Starts.{no_segments}
use Rattle.catalogue_rules.proofs.starts_right.Goals as goal

pub returns-then-segments-eq0 : goal.returns-then-segments-eq0
returns-then-segments-eq0 c =
    sym (no_segments _ _ (omega arith))

pub loop-i-init : goal.loop-i-init
unfolding all_below
loop-i-init c =
    refl

pub loop-i-preserved : goal.loop-i-preserved
unfolding end_of starts_of
loop-i-preserved c =
    let l = c.loop-i in
    let a = c.args in
    let part = run_part a.segments.now c.wide_word-first.result c.wide_word-count.result c.wide_word-first.ensures.0 c.wide_word-count.ensures.0 in
    all_turn _ _ _ _ l.invariant (c.starts_of_track_right-right.ensures ∙ (λ k. starts_right (part k) (c.end_by-last.ensures k)))

pub returns : goal.returns
unfolding starts_rule
returns c =
    all_end _ c.loop-i.auto.i-end c.loop-i-test.false c.loop-i.invariant
