-- `player_steps::goto_track`: along the current track alone, or along the run put in order.
use mathlib.Core.Path.{◌∙◌}
use native.Mathlib.Omega.{arith}
use Rattle.player_steps.proofs.Tracks.{walked_alone, walked_run}
use Rattle.player_steps.proofs.goto_track.Goals as goal

pub returns-then-order-le2 : goal.returns-then-order-le2
returns-then-order-le2 c =
    let a = c.args in
    c.along_run.ensures ∙ walked_alone a.order a.tracks.now _ a.first.0 a.count a.t.0 c.requires _ (omega arith) a.n a.allowed

pub returns : goal.returns
returns c =
    let a = c.args in
    c.along_run-2.ensures ∙ walked_run a.order a.tracks.now _ a.first.0 a.count a.t.0 c.requires _ c.from-by.ensures (omega arith) a.n a.allowed
