-- `catalogue_rules::tracks_right`: after i turns, the three rules of the first i tracks.
use mathlib.Core.Path.{refl}
use mathlib.Core.Bool.{◌&&◌}
use native.Mathlib.Omega.{arith}
use Rattle.ground.specs.Lists.{all_below}
use Rattle.ground.proofs.Bounded.{all_turn, all_end}
use Rattle.catalogue_rules.specs.Rules.{segment_runs_rule, durations_rule, title_placed, titles_placed_rule}
use Rattle.catalogue_rules.proofs.Runs.{start, turn, end}
use Rattle.catalogue_rules.proofs.tracks_right.Goals as goal

pub loop-i-init : goal.loop-i-init
unfolding all_below
loop-i-init c =
    (start _ _ _, (refl, refl))

pub loop-i-preserved : goal.loop-i-preserved
loop-i-preserved c =
    let a = c.args in
    let l = c.loop-i in
    let first = c.wide_word-first in
    let count = c.wide_word-count in
    let offset = c.wide_word-offset.ensures.0 in
    let len = c.wide_word-len.ensures.0 in (
      turn _ _ _ first.result count.result first.ensures.0 count.ensures.0 count.ensures.1 (omega arith) l.invariant.0,
      (
        all_turn _ _ _ _ l.invariant.1.0 refl,
        all_turn _ _ _ _ l.invariant.1.1 (λ k. title_placed (offset k) (len k) a.text),
      ),
    )

pub returns : goal.returns
unfolding durations_rule segment_runs_rule titles_placed_rule
returns c =
    let a = c.args in
    let inv = c.loop-i.invariant in
    let left = c.loop-i-test.false in
    λ k. end _ _ _ a.segments left inv.0 k
    && all_end _ inv.0.within left inv.1.0 k
    && all_end _ inv.0.within left inv.1.1 k
