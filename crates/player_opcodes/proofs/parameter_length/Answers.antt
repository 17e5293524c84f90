-- `player_opcodes::parameter_length`: the rows of one octet.
use native.Mathlib.Omega.{arith}
use Rattle.player_opcodes.proofs.Rows.{bit_mode, bit_segment, bit_track, bit_group, length_one}
use Rattle.player_opcodes.proofs.parameter_length.Goals as goal

pub returns-in-1-to-5 : goal.returns-in-1-to-5
returns-in-1-to-5 c =
    let o = c.args.opcode in
    length_one o (omega (arith, bit_mode o (omega arith) (omega arith))) (λ e. omega arith) (λ e. omega arith) (λ e. omega arith) (λ e. omega arith)

pub returns-in-32-to-35 : goal.returns-in-32-to-35
returns-in-32-to-35 c =
    let o = c.args.opcode in
    length_one o (omega (arith, bit_segment o (omega arith) (omega arith))) (λ e. omega arith) (λ e. omega arith) (λ e. omega arith) (λ e. omega arith)

pub returns-in-48-to-51 : goal.returns-in-48-to-51
returns-in-48-to-51 c =
    let o = c.args.opcode in
    length_one o (omega (arith, bit_track o (omega arith) (omega arith))) (λ e. omega arith) (λ e. omega arith) (λ e. omega arith) (λ e. omega arith)

pub returns-in-64-to-67 : goal.returns-in-64-to-67
returns-in-64-to-67 c =
    let o = c.args.opcode in
    length_one o (omega (arith, bit_group o (omega arith) (omega arith))) (λ e. omega arith) (λ e. omega arith) (λ e. omega arith) (λ e. omega arith)
