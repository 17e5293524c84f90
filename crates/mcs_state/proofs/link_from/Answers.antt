-- `mcs_state::link_from`: each part at its place.
use Prim.Native.Nat.{◌+◌, ◌*◌}
use lib.ListN.{get_or}
use Rattle.ground.specs.Lists.{part}
use Rattle.mcs_state.specs.Codec.{flag, link_from}
use Rattle.mcs_state.proofs.link_from.Goals as goal

pub returns : goal.returns
unfolding link_from
returns c =
    let a = c.args in
    let o = part a.s.now (5 + a.who * 10) (5 + a.who * 10 + 10) in
    λ i.
    record {
      connected = flag (get_or o 0 0);
      encrypted = flag (get_or o 1 0);
      mtu = c.mtu_from.ensures i;
      mark = c.word_at.ensures i;
    }
