-- `player_goto::goto_by_steps`: what the three walks ask of a current track and group.
use native.Mathlib.Omega.{arith}
use Rattle.player_moves.proofs.Ready.{seated, current, rising_now}
use Rattle.player_goto.proofs.goto_by_steps.Goals as goal

pub goto_segment-requires-clause-rising : goal.goto_segment-requires-clause-rising
goto_segment-requires-clause-rising c =
    rising_now _ _ _ c.requires.shaped c.args.p c.requires.p_value (omega arith)

pub goto_track-requires : goal.goto_track-requires
goto_track-requires c =
    seated _ _ _ c.requires.shaped c.args.p c.requires.p_value (omega arith)

pub goto_group-requires-clause-current : goal.goto_group-requires-clause-current
goto_group-requires-clause-current c =
    current _ _ _ c.requires.shaped c.args.p c.requires.p_value (omega arith)
