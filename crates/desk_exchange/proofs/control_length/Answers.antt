-- `desk_exchange::control_length`: one to five, and as a known opcode asks.
use mathlib.Core.Path.{ap, ◌∙◌}
use mathlib.Core.Bool.{◌&&◌, ◌||◌}
use Prim.Native.Nat.{ℕ}
use lib.Dec.{eqb}
use lib.ListN.{length}
use Rattle.ground.specs.Cases.{within}
use Rattle.player_opcodes.specs.Opcodes.{parameter_length}
use Rattle.desk_exchange.specs.Write.{control_length}
use Rattle.desk_exchange.proofs.control_length.Goals as goal

pub returns : goal.returns
unfolding control_length
returns c =
    let value = c.args.value.now in
    ap (λ (n : ℕ). within 1 5 (length value) && (eqb n 0 || eqb n (length value)))
    (c.parameter_length-asked.ensures ∙ ap parameter_length c.octet_or_zero-opcode.ensures)
