-- `player_segments::previous_start`: the start before the cut at the position, or the one before that.
use Prim.Native.Nat.{◌-◌}
use native.Mathlib.Omega.{arith}
use Rattle.player_segments.proofs.Cuts.{previous_own, previous_before}
use Rattle.player_segments.proofs.Whole.{whole_is, previous_in_first}
use Rattle.player_segments.proofs.previous_start.Goals as goal

pub returns-then-k-lt2 : goal.returns-then-k-lt2
returns-then-k-lt2 c =
    previous_in_first _ _ _ c.requires c.not_above-k.ensures c.if-k-lt2.true

pub overflow_sub-p : goal.overflow_sub-p
overflow_sub-p c =
    c.not_above-k.ensures.low (c.not_above-k.result - 1) (omega arith)

pub returns-then-p-own-lt-PREVIOUS_MARGIN : goal.returns-then-p-own-lt-PREVIOUS_MARGIN
returns-then-p-own-lt-PREVIOUS_MARGIN c =
    let cut = c.not_above-k.ensures in
    rw (whole_is c.args.starts.now (omega (arith, cut.within)))
    (previous_before _ c.requires.rise _ _ cut (omega arith) (omega (arith, cut.low (c.not_above-k.result - 1) (omega arith))))

pub returns : goal.returns
returns c =
    let cut = c.not_above-k.ensures in
    rw (whole_is c.args.starts.now (omega (arith, cut.within)))
    (previous_own _ c.requires.rise _ _ cut (omega arith) (omega (arith, cut.low (c.not_above-k.result - 1) (omega arith))))
