-- `desk_exchange::carry_out`: the control point, and else what the player becomes is settled.
use mathlib.Core.Path.{sym, subst, ◌∙◌}
use borrow.Author.Tests.{eq-eqb, ne_eqb}
use Rattle.ground.proofs.Cases.{past, here}
use Rattle.catalogue_titles.specs.Lent.{lent, catalogue_of}
use Rattle.catalogue_titles.proofs.Laws.{fit_right}
use Rattle.player_moves.specs.Moves.{Sits}
use Rattle.player_values.specs.Values.{source_of}
use Rattle.player_values.proofs.Fits.{player_sits}
use Rattle.desk_notices.specs.Owed.{settled}
use Rattle.desk_exchange.specs.Write.{written}
use Rattle.desk_exchange.proofs.Written.{written_sits}
use Rattle.desk_exchange.proofs.carry_out.Goals as goal

pub returns-then-characteristic-eq18 : goal.returns-then-characteristic-eq18
unfolding written
returns-then-characteristic-eq18 c =
    here _ (eq-eqb _ _ c.if-characteristic-eq18.true) c.control.ensures

pub player_written-q-requires-clause-right : goal.player_written-q-requires-clause-right
player_written-q-requires-clause-right c =
    fit_right (lent c.args.loan.now) c.requires.fit

pub settle-requires-clause-sits : goal.settle-requires-clause-sits
settle-requires-clause-sits c =
    let a = c.args in
    player_sits (catalogue_of (lent a.loan.now)) (fit_right (lent a.loan.now) c.requires.fit) a.s.player c.requires.player_value

pub settle-requires-clause-sits_2 : goal.settle-requires-clause-sits_2
settle-requires-clause-sits_2 c =
    let a = c.args in
    subst (Sits a.loan.now.groups.now a.loan.now.tracks.now) (sym c.player_written-q.ensures)
    (written_sits (catalogue_of (lent a.loan.now)) (fit_right (lent a.loan.now) c.requires.fit) a.s.player c.requires.player_value a.value.now a.characteristic c.requires.value_value_2)

pub returns : goal.returns
unfolding written
returns c =
    past _ (ne_eqb _ _ c.if-characteristic-eq18.false)
    (c.settle.ensures ∙ (λ k. settled (source_of (lent c.args.loan.now)) (c.by_writer-cause.ensures k) (c.player_written-q.ensures k) c.args.s))
