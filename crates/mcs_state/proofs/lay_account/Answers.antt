-- `mcs_state::lay_account`: 36 octets at the client's place in the service.
use mathlib.Core.Path.{◌∙◌}
use Prim.Native.Nat.{◌+◌, ◌*◌}
use lib.ListN.{length}
use lib.Seq.{paste}
use Rattle.mcs_state.specs.Codec.{account_octets}
use Rattle.mcs_state.proofs.Round.{account_kept}
use borrow.Author.Rules.{rules}
use Rattle.mcs_state.proofs.lay_account.Goals as goal

pub returns-clause-s_after : goal.returns-clause-s_after
unfolding account_octets
returns-clause-s_after c =
    let a = c.args in
    let e = c.account_octets-octets.ensures in c.put.ensures ∙ (λ i. paste a.s.now (a.at + (158 + a.who * 36)) (e i) (length (e i)))

pub returns-clause-kept : goal.returns-clause-kept
unfolding account_octets
returns-clause-kept c =
    let a = c.args in
    let e = c.account_octets-octets.ensures in account_kept a.a (search rules)
