-- `mcs_state::put_served`: the record of the client, and over what that left the turn.
use Prim.Native.Nat.{◌≤◌}
use lib.ListN.{length}
use Rattle.mcs_state.specs.Stored.{with_turn}
use Rattle.mcs_state.proofs.Stored.{stored_plain, stored_then}
use borrow.Author.Rules.{rules}
use Rattle.mcs_state.proofs.put_served.Goals as goal

pub put_turn-requires-clause-plain : goal.put_turn-requires-clause-plain
put_turn-requires-clause-plain c =
    let long : 649 ≤ length c.put_client.new.s = search rules in stored_plain c.put_client.ensures long

pub returns : goal.returns
returns c =
    let a = c.args in
    let long : 649 ≤ length c.put_client.new.s = search rules in
    stored_then c.put_client.ensures long (with_turn a.who) c.put_turn.ensures
