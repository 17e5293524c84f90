-- `player_groups::group_after`: the move on places, of group 0 alone and of the siblings of any other.
use mathlib.Core.Path.{sym, ◌∙◌}
use Rattle.std.specs.Prelude.{Some, None}
use Rattle.player_groups.proofs.Moves.{lone_move, place_within, sibling_move}
use Rattle.player_groups.proofs.group_after.Goals as goal

pub returns-then-g-eq0 : goal.returns-then-g-eq0
returns-then-g-eq0 c =
    lone_move _ _ _ c.if-g-eq0.true (Some _) (sym c.in_ok-place_after.was ∙ c.place_after.ensures)

pub returns-in_err-place_after : goal.returns-in_err-place_after
returns-in_err-place_after c =
    rw c.from_residual.ensures (lone_move _ _ _ c.if-g-eq0.true None (sym c.in_err-place_after.was ∙ c.place_after.ensures))

pub place_after-requires-2 : goal.place_after-requires-2
place_after-requires-2 c =
    let b = c.group_count-count in
    place_within c.args.groups.now c.args.g.0 c.requires c.if-g-eq0.false b.result _ _ b.ensures c.siblings_below-k.ensures.0 c.siblings_below-n.ensures.0

pub returns-in_err-j : goal.returns-in_err-j
returns-in_err-j c =
    let b = c.group_count-count in
    rw c.from_residual-in_err-j.ensures (sibling_move c.args.groups.now c.args.g.0 c.requires c.if-g-eq0.false b.result _ _ b.ensures c.siblings_below-k.ensures.0 c.siblings_below-n.ensures.0
    _ None (sym c.in_err-j.was ∙ c.place_after-2.ensures))

pub returns : goal.returns
returns c =
    let b = c.group_count-count in
    c.nth_sibling.ensures
    ∙ sibling_move c.args.groups.now c.args.g.0 c.requires c.if-g-eq0.false b.result _ _ b.ensures c.siblings_below-k.ensures.0 c.siblings_below-n.ensures.0
    _ _ (sym c.in_ok-j.was ∙ c.place_after-2.ensures)
