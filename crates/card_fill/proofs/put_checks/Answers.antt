-- `card_fill::put_checks`: the two octets are what `sums` ensures of the first 510, and each is below 255.
use mathlib.Core.Path.{ap, ◌∙◌}
use mathlib.Core.List.{[], ◌∷◌}
use Rattle.card_block.specs.declared.CheckSums.{CheckSums}
use Rattle.ground.specs.Lists.{laid}
use native.Mathlib.Omega.{arith}
use Rattle.card_block.specs.Sums.{sums_of}
use Rattle.ground.proofs.Laying.{laid_two}
use Rattle.card_fill.proofs.put_checks.Goals as goal

pub overflow_cast-b : goal.overflow_cast-b
unfolding sums_of
overflow_cast-b c =
    rw c.sums-s.ensures (omega arith)

pub overflow_cast-b-2 : goal.overflow_cast-b-2
unfolding sums_of
overflow_cast-b-2 c =
    rw c.sums-s.ensures (omega arith)

pub returns : goal.returns
returns c =
    let b = c.args.b.now in
    laid_two b 510 _ _ (omega arith) ∙ ap (λ (s : CheckSums). laid b 510 (s.plain ∷ s.running ∷ [])) c.sums-s.ensures
