-- `catalogue_objects::write_group`: 200 is the check's; behind it the group is there or not, and the room decides.
use mathlib.Core.Path.{refl, sym}
use Prim.Native.Nat.{◌<◌, ◌≤◌}
use native.Mathlib.Omega.{arith}
use borrow.Author.Tests.{lt-ltb, le-ltb}
use Rattle.catalogue_tables.specs.Tables.{group_count}
use Rattle.catalogue_check.proofs.Laws.{few_groups, few_tracks, track_run_inside}
use Rattle.ground.proofs.Passed.{passed_on}
use Rattle.catalogue_objects.proofs.Answers.{says_catalogue, says_absent, says_room}
use Rattle.catalogue_objects.proofs.write_group.Goals as goal

pub returns-then-group_count-wide_word-clause-result_value : goal.returns-then-group_count-wide_word-clause-result_value
returns-then-group_count-wide_word-clause-result_value c =
    let absent : group_count c.args.groups.now ≤ c.args.g.0 = omega (arith, c.group_count.ensures, c.wide_word.ensures.0, c.if-group_count-wide_word.true) in
    says_absent _ _ _ _ (sym c.in_ok-check.ensures) (le-ltb _ _ absent) _ c.from.ensures

pub fill_group-requires-clause-groups_bound : goal.fill_group-requires-clause-groups_bound
fill_group-requires-clause-groups_bound c =
    few_groups _ (sym c.in_ok-check.ensures)

pub fill_group-requires-clause-g_bound : goal.fill_group-requires-clause-g_bound
fill_group-requires-clause-g_bound c =
    let right = sym c.in_ok-check.ensures in
    let there : c.args.g.0 < group_count c.args.groups.now = omega (arith, c.group_count.ensures, c.wide_word.ensures.0, c.if-group_count-wide_word.false) in
    omega (arith, track_run_inside _ right c.args.g.0 there, few_tracks _ right)

pub returns-in_err-check-clause-result_value : goal.returns-in_err-check-clause-result_value
returns-in_err-check-clause-result_value c =
    passed_on _ _ _ c.from_residual.ensures.1 (says_catalogue _ _ _ _ _ c.in_err-check.ensures refl)

pub returns-clause-result_value : goal.returns-clause-result_value
returns-clause-result_value c =
    let there : c.args.g.0 < group_count c.args.groups.now = omega (arith, c.group_count.ensures, c.wide_word.ensures.0, c.if-group_count-wide_word.false) in
    says_room _ _ _ _ (sym c.in_ok-check.ensures) (lt-ltb _ _ there) _ c.fill_group.ensures.result_value
