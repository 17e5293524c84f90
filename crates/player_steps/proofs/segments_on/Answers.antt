-- `player_steps::segments_on`: what is left of the walk, from where the loop stands, is the whole walk.
use mathlib.Core.Path.{◌≡◌, sym, ap, ◌∙◌}
use Prim.Native.Nat.{◌+◌, ◌-◌}
use native.Mathlib.Nat.{sub-zero}
use native.Mathlib.Omega.{arith}
use Rattle.player_manual.proofs.Steps.{arrives, runs_out, stops, goes_on_lem}
use Rattle.player_segments.specs.Segments.{near_position}
use borrow.Author.Rules.{rules}
use Rattle.player_steps.proofs.segments_on.Goals as goal

pub loop-i-init : goal.loop-i-init
loop-i-init c =
    (search rules, search rules, rw sub-zero)

pub returns-then-made-allowed : goal.returns-then-made-allowed
returns-then-made-allowed c =
    let l = c.loop-i in
    runs_out _ _ l.made (c.args.wanted - l.i) _ _ l.invariant.2 (omega arith) (omega arith)

pub returns-in_default : goal.returns-in_default
returns-in_default c =
    let l = c.loop-i in
    stops _ _ l.made (c.args.wanted - l.i) _ _ l.invariant.2 (omega arith) (omega arith) (sym c.segment_after-near.ensures ∙ ap near_position c.in_default.is)

pub loop-i-preserved : goal.loop-i-preserved
loop-i-preserved c =
    let l = c.loop-i in
    let a = c.args in
    let e : a.allowed - l.made - 1 ≡ a.allowed - (l.made + 1) = omega arith in
    let w : a.wanted - l.i - 1 ≡ a.wanted - (l.i + 1) = omega arith in
    let met = sym c.segment_after-near.ensures ∙ ap near_position c.in-Some.is in
    (omega arith, omega arith, (rw (e, w) at (goes_on_lem _ _ l.made (c.args.wanted - l.i) _ _ l.invariant.2 (omega arith) (omega arith) _ met)))

pub returns : goal.returns
returns c =
    let l = c.loop-i in
    arrives _ _ l.made (c.args.wanted - l.i) _ _ l.invariant.2 (omega arith)
