-- `desk_exchange::is_allowed`: the order, the two tracks, the group, and anything else.
use mathlib.Core.Path.{refl, ap}
use borrow.Author.Tests.{ne_eqb}
use borrow.Author.Rules.{rules}
use Rattle.ground.specs.Cases.{within}
use Rattle.ground.proofs.Cases.{past}
use Rattle.desk_exchange.specs.Write.{allowed}
use Rattle.desk_exchange.proofs.Written.{track_long, next_long, group_long}
use Rattle.desk_exchange.proofs.is_allowed.Goals as goal

pub own_track-requires : goal.own_track-requires
own_track-requires c =
    track_long c.args.characteristic c.args.value.now c.requires.value_value c.in-11.is

pub own_track-requires-in-12 : goal.own_track-requires-in-12
own_track-requires-in-12 c =
    next_long c.args.characteristic c.args.value.now c.requires.value_value c.in-12.is

pub any_group-requires-clause-bound : goal.any_group-requires-clause-bound
any_group-requires-clause-bound c =
    group_long c.args.characteristic c.args.value.now c.requires.value_value c.in-14.is

pub returns-in-15 : goal.returns-in-15
unfolding allowed
returns-in-15 c =
    rw c.in-15.is (ap (within 1 8) c.octet_or_zero-first.ensures)

pub returns-in-11 : goal.returns-in-11
unfolding allowed
returns-in-11 c =
    rw c.in-11.is c.own_track.ensures

pub returns-in-12 : goal.returns-in-12
unfolding allowed
returns-in-12 c =
    rw c.in-12.is c.own_track-in-12.ensures

pub returns-in-14 : goal.returns-in-14
unfolding allowed
returns-in-14 c =
    rw c.in-14.is c.any_group.ensures

pub returns-in_default : goal.returns-in_default
unfolding allowed
returns-in_default c =
    let m = c.args.characteristic in
    past _ (ne_eqb m 15 (search rules)) (past _ (ne_eqb m 11 (search rules)) (past _ (ne_eqb m 12 (search rules)) (past _ (ne_eqb m 14 (search rules)) refl)))
