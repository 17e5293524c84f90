-- `ground::word_at`: the four octets from a place on.
use Rattle.ground.specs.Words.{word_at}
use Rattle.ground.proofs.word_at.Goals as goal

pub returns : goal.returns
unfolding word_at
returns c =
    c.word_of.ensures
