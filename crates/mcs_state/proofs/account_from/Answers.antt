-- `mcs_state::account_from`: each part at its place.
use Prim.Native.Nat.{◌+◌, ◌*◌}
use Rattle.ground.specs.Lists.{part}
use Rattle.mcs_state.specs.Codec.{entries_at, account_from}
use Rattle.mcs_state.proofs.account_from.Goals as goal

pub returns : goal.returns
unfolding account_from
returns c =
    let a = c.args in
    let o = part a.s.now (158 + a.who * 36) (158 + a.who * 36 + 36) in
    λ i.
    record {
      subscribed = c.word_at.ensures i;
      owed = c.word_at-2.ensures i;
      fresh = c.word_at-3.ensures i;
      waiting = c.wide_at.ensures i;
      results = entries_at o 20 8;
    }
