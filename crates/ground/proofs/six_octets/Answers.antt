-- `ground::six_octets`: the lowest six octets of the number.
use Rattle.ground.specs.Words.{six_octets}
use Rattle.ground.proofs.six_octets.Goals as goal

pub returns : goal.returns
unfolding six_octets
returns c =
    rw c.to_le_bytes.ensures
