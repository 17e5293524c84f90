-- `player_moves::act`: what the moves ask of a current track and group.
use Rattle.player_moves.proofs.Ready.{seated, current, rising_now}
use Rattle.player_moves.proofs.act.Goals as goal

pub move_segment-requires-clause-rising : goal.move_segment-requires-clause-rising
move_segment-requires-clause-rising c =
    rising_now _ _ _ c.requires.shaped c.args.p c.requires.p_value c.requires.media_nonzero

pub move_track-requires : goal.move_track-requires
move_track-requires c =
    seated _ _ _ c.requires.shaped c.args.p c.requires.p_value c.requires.media_nonzero

pub move_group-requires-clause-current : goal.move_group-requires-clause-current
move_group-requires-clause-current c =
    current _ _ _ c.requires.shaped c.args.p c.requires.p_value c.requires.media_nonzero
