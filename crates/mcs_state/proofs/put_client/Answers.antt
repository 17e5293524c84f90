-- `mcs_state::put_client`: the link, then the account with each service, each over what the one before left.
use Prim.Native.Nat.{◌≤◌}
use lib.ListN.{length}
use Rattle.desk_client.specs.Client.{account_with}
use Rattle.desk_state.specs.Desk.{service_at, with_account, with_service, with_client}
use Rattle.mcs_state.specs.Codec.{desk_of}
use Rattle.mcs_state.proofs.Stored.{stored_plain, stored_then}
use borrow.Author.Rules.{rules}
use Rattle.mcs_state.proofs.put_client.Goals as goal

pub put_account-requires-clause-plain : goal.put_account-requires-clause-plain
put_account-requires-clause-plain c =
    let long : 649 ≤ length c.put_link.new.s = search rules in stored_plain c.put_link.ensures long

pub put_account-requires-2-clause-plain : goal.put_account-requires-2-clause-plain
put_account-requires-2-clause-plain c =
    let long : 649 ≤ length c.put_account.new.s = search rules in stored_plain c.put_account.ensures long

pub returns : goal.returns
unfolding desk_of with_client with_service
returns c =
    let a = c.args in
    let long : 649 ≤ length c.put_link.new.s = search rules in
    let longer : 649 ≤ length c.put_account.new.s = search rules in
    let generic = stored_then c.put_link.ensures long (λ d. with_service 0 (with_account a.who (account_with a.c 0) (service_at d 0)) d) c.put_account.ensures in
    stored_then generic longer (λ d. with_service 1 (with_account a.who (account_with a.c 1) (service_at d 1)) d) c.put_account-2.ensures
