-- `desk_exchange::length_right`: 18, and the others.
use mathlib.Core.Path.{ap}
use Prim.Native.Nat.{ℕ}
use borrow.Author.Tests.{eq-eqb, ne_eqb}
use lib.Dec.{eqb}
use lib.ListN.{length}
use Rattle.ground.proofs.Cases.{past, here}
use Rattle.desk_exchange.specs.Write.{length_right}
use Rattle.desk_exchange.proofs.length_right.Goals as goal

pub returns-then-characteristic-eq18 : goal.returns-then-characteristic-eq18
unfolding length_right
returns-then-characteristic-eq18 c =
    here _ (eq-eqb _ _ c.if-characteristic-eq18.true) c.control_length.ensures

pub returns : goal.returns
unfolding length_right
returns c =
    let a = c.args in
    past _ (ne_eqb _ _ c.if-characteristic-eq18.false) (ap (λ (n : ℕ). eqb (length a.value.now) n) c.size_of.ensures)
