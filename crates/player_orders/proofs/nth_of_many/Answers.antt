-- `player_orders::nth_of_many`: the key at place k stays in the range, which is halved until as many keys as k are below its middle.
use mathlib.Core.Path.{sym, ap, ◌∙◌}
use mathlib.Core.Logic.{⊎_elim}
use native.Mathlib.Nat.{eq-or-lt_of_le}
use borrow.Author.Rules.{rules}
use Rattle.player_walk.specs.Steps.{at}
use Rattle.player_orders.specs.Order.{ordered}
use Rattle.player_orders.proofs.Halve.{starts, up, down}
use Rattle.player_orders.proofs.nth_of_many.Goals as goal

pub loop-by-init : goal.loop-by-init
loop-by-init c =
    (search rules, search rules, starts _ _ _ _ c.requires.run.small _ (λ i. (c.type_inv.tracks i).fits) c.requires.k_lt_count)

pub returns-then-n-k : goal.returns-then-n-k
returns-then-n-k c =
    let a = c.args in
    c.beside.ensures ∙ ap (at (ordered a.by a.tracks.now a.first.0 a.count)) (sym c.count_below-n.ensures ∙ c.if-n-k.true)

pub loop-by-preserved-then-n-k-2 : goal.loop-by-preserved-then-n-k-2
loop-by-preserved-then-n-k-2 c =
    (search rules, up _ _ _ _ c.requires.run.small _ (λ i. (c.type_inv.tracks i).fits) c.requires.k_lt_count _ _ c.count_below-n.ensures c.if-n-k-2.true, search rules)

pub loop-by-preserved : goal.loop-by-preserved
loop-by-preserved c =
    let more = ⊎_elim (λ e. absurd (c.if-n-k.false (sym e))) (λ h. h) (eq-or-lt_of_le c.if-n-k-2.false) in
    (search rules, search rules, down _ _ _ _ c.requires.run.small _ (λ i. (c.type_inv.tracks i).fits) c.requires.k_lt_count _ _ c.count_below-n.ensures more)
