-- The opcodes of the control point (SCOPE 9.1 to 9.3): the bit of the mask, the length of what is written, and what is asked for.
-- Assumes nothing.
use Rattle.std.specs.Prelude.{Bool, ◌&&◌, ◌||◌, ℕ, ◌+◌, ◌-◌, eqb, ltb}
use Rattle.ground.specs.Cases.{pick, within, has}
use Rattle.player_walk.specs.declared.Step.{Step}
use Rattle.player_walk.specs.declared.Step.TheVariants.{Previous, Next, First, Last, Goto}
use Rattle.player_opcodes.specs.declared.Action.{Action}
use Rattle.player_opcodes.specs.declared.Action.TheVariants.{Play, Pause, Rewind, Forward, Stop, Relative, Segment, Track, Group, Unknown}

-- the bit of the mask that offers an opcode (SCOPE 9.1); 32 for what is no opcode
unfoldable pub mask_bit : ℕ → ℕ
mask_bit opcode =
    pick (within 0x01 0x05 opcode) (opcode - 0x01)
    (pick (within 0x10 0x10 opcode) 5
    (pick (within 0x20 0x24 opcode) (opcode - 0x20 + 6)
    (pick (within 0x30 0x34 opcode) (opcode - 0x30 + 11)
    (pick (within 0x40 0x44 opcode) (opcode - 0x40 + 16)
    32))))

-- An opcode is offered where it is known and its bit is in the mask (SCOPE 9.4). SCOPE 9.2: "Bits of the mask from 21 up count as 0", since no opcode has them.
unfoldable pub offered : ℕ → ℕ → Bool
offered mask opcode = ltb (mask_bit opcode) 21 && has mask (mask_bit opcode)

-- SCOPE 9.3: "0x10, 0x24, 0x34 and 0x44 carry a signed number of 32 bits behind the opcode."
abbrev pub carries : ℕ → Bool
carries opcode = eqb opcode 0x10 || eqb opcode 0x24 || eqb opcode 0x34 || eqb opcode 0x44

-- how many octets a write of an opcode has: 5 where it carries a number, and else 1 (SCOPE 20.6); 0 for what is no opcode
unfoldable pub parameter_length : ℕ → ℕ
parameter_length opcode = pick (ltb (mask_bit opcode) 21) (pick (carries opcode) 5 1) 0

-- the moves in the order of SCOPE 9.1: "Previous, Next, First, Last, Goto"
unfoldable pub step_of : ℕ → ℕ → Step
step_of place number =
    pick (eqb place 0) Previous (pick (eqb place 1) Next (pick (eqb place 2) First (pick (eqb place 3) Last (Goto number))))

-- what an opcode asks for (SCOPE 9.1), with the number that it may carry
unfoldable pub action_of : ℕ → ℕ → Action
action_of opcode number =
    pick (eqb opcode 0x01) Play
    (pick (eqb opcode 0x02) Pause
    (pick (eqb opcode 0x03) Rewind
    (pick (eqb opcode 0x04) Forward
    (pick (eqb opcode 0x05) Stop
    (pick (eqb opcode 0x10) (Relative number)
    (pick (within 0x20 0x24 opcode) (Segment (step_of (opcode - 0x20) number))
    (pick (within 0x30 0x34 opcode) (Track (step_of (opcode - 0x30) number))
    (pick (within 0x40 0x44 opcode) (Group (step_of (opcode - 0x40) number))
    Unknown))))))))
