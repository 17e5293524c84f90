-- `desk_exchange::player_written`: a case for each characteristic but 18.
use mathlib.Core.Path.{ap, ◌∙◌}
use Prim.Native.Nat.{ℕ}
use native.Mathlib.Omega.{arith}
use borrow.Author.Tests.{ne_eqb}
use borrow.Author.Rules.{rules}
use Rattle.ground.proofs.Cases.{past}
use Rattle.catalogue_titles.specs.Lent.{lent, catalogue_of}
use Rattle.player_state.specs.Player.{naming, with_order, with_speed}
use Rattle.player_check.proofs.Laws.{group_there}
use Rattle.player_moves.specs.Clock.{positioned, track_written, group_written}
use Rattle.player_moves.proofs.Ready.{shaped, run_of}
use Rattle.desk_exchange.specs.Write.{group_at, player_written}
use Rattle.desk_exchange.proofs.Written.{position_long, track_long, next_long, group_long, track_allowed, next_allowed, group_allowed, track_above, track_within, track_small, group_above, group_right, group_small}
use Rattle.desk_exchange.proofs.player_written.Goals as goal

pub word_at-requires : goal.word_at-requires
word_at-requires c =
    position_long c.args.characteristic c.args.value.now c.requires.value_value c.in-7.is

pub track_at-requires-clause-bound : goal.track_at-requires-clause-bound
track_at-requires-clause-bound c =
    let a = c.args in
    track_long a.characteristic a.value.now c.requires.value_value c.in-11.is

pub track_at-requires-clause-track_objects_bound : goal.track_at-requires-clause-track_objects_bound
track_at-requires-clause-track_objects_bound c =
    let a = c.args in
    let own = track_allowed a.loan.now.groups.now a.p a.value.now a.characteristic c.requires.value_value_2 c.in-11.is in (
      track_above a.loan.now.groups.now a.p a.value.now own,
      omega (arith, track_small (catalogue_of (lent a.loan.now)) c.requires.right _ _ (track_within a.loan.now.groups.now a.p a.value.now own)),
    )

pub track_at-requires-in-12-clause-bound : goal.track_at-requires-in-12-clause-bound
track_at-requires-in-12-clause-bound c =
    let a = c.args in
    next_long a.characteristic a.value.now c.requires.value_value c.in-12.is

pub track_at-requires-in-12-clause-track_objects_bound : goal.track_at-requires-in-12-clause-track_objects_bound
track_at-requires-in-12-clause-track_objects_bound c =
    let a = c.args in
    let own = next_allowed a.loan.now.groups.now a.p a.value.now a.characteristic c.requires.value_value_2 c.in-12.is in (
      track_above a.loan.now.groups.now a.p a.value.now own,
      omega (arith, track_small (catalogue_of (lent a.loan.now)) c.requires.right _ _ (track_within a.loan.now.groups.now a.p a.value.now own)),
    )

pub group_at-requires-clause-bound : goal.group_at-requires-clause-bound
group_at-requires-clause-bound c =
    let a = c.args in
    group_long a.characteristic a.value.now c.requires.value_value c.in-14.is

pub group_at-requires-clause-group_objects_bound : goal.group_at-requires-clause-group_objects_bound
group_at-requires-clause-group_objects_bound c =
    let a = c.args in
    let any = group_allowed a.loan.now.groups.now a.p a.value.now a.characteristic c.requires.value_value_2 c.in-14.is in (
      group_above a.loan.now.groups.now a.p a.value.now any,
      omega (arith, group_small (catalogue_of (lent a.loan.now)) c.requires.right _ (group_right a.loan.now.groups.now a.p a.value.now any)),
    )

pub write_group-requires : goal.write_group-requires
write_group-requires c =
    let a = c.args in
    let any = group_allowed a.loan.now.groups.now a.p a.value.now a.characteristic c.requires.value_value_2 c.in-14.is in
    run_of _ _ _ (shaped (catalogue_of (lent a.loan.now)) c.requires.right) c.group_at.result.0
    (omega (arith, c.group_at.ensures, group_there a.loan.now.groups.now (group_at a.value.now) (group_right a.loan.now.groups.now a.p a.value.now any)))

pub returns-in-7 : goal.returns-in-7
unfolding player_written
returns-in-7 c =
    let a = c.args in
    rw c.in-7.is (c.write_position.ensures ∙ ap (λ (n : ℕ). positioned a.loan.now.tracks.now n a.p) c.word_at.ensures)

pub returns-in-8 : goal.returns-in-8
unfolding player_written
returns-in-8 c =
    rw c.in-8.is (c.with_speed.ensures ∙ ap (λ (n : ℕ). with_speed n c.args.p) c.octet_or_zero-first.ensures)

pub returns-in-11 : goal.returns-in-11
unfolding player_written track_written
returns-in-11 c =
    rw c.in-11.is (c.move_to.ensures ∙ ap (λ (n : ℕ). track_written n c.args.p) c.track_at.ensures.0)

pub returns-in-12 : goal.returns-in-12
unfolding player_written
returns-in-12 c =
    rw c.in-12.is (c.name_track.ensures ∙ ap (λ (n : ℕ). naming n c.args.p) c.track_at-in-12.ensures.0)

pub returns-in-14 : goal.returns-in-14
unfolding player_written
returns-in-14 c =
    let a = c.args in
    rw c.in-14.is (c.write_group.ensures ∙ ap (λ (n : ℕ). group_written a.loan.now.groups.now a.loan.now.tracks.now n a.p) c.group_at.ensures)

pub returns-in_default : goal.returns-in_default
unfolding player_written
returns-in_default c =
    let m = c.args.characteristic in
    past _ (ne_eqb m 7 (search rules)) (past _ (ne_eqb m 8 (search rules)) (past _ (ne_eqb m 11 (search rules)) (past _ (ne_eqb m 12 (search rules))
    (past _ (ne_eqb m 14 (search rules))
    (c.with_order.ensures ∙ ap (λ (n : ℕ). with_order n c.args.p) c.octet_or_zero-first.ensures)))))
