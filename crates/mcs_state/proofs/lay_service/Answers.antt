-- `mcs_state::lay_service`: six parts, one behind the other; and they are read again.
use mathlib.Core.Path.{◌≡◌, ap, subst, ◌∙◌}
use mathlib.Core.List.{List, ◌++◌}
use Prim.Native.Nat.{ℕ, ◌+◌, ◌*◌, ◌≤◌}
use native.Mathlib.Omega.{arith}
use lib.ListN.{length}
use lib.Seq.{paste}
use Rattle.ground.proofs.Sweep.{spell, spelled}
use Rattle.desk_client.specs.declared.Account.{Account}
use Rattle.desk_client.specs.Client.{no_account}
use Rattle.desk_state.specs.Desk.{account_in}
use Rattle.mcs_state.specs.Codec.{each_octets, account_from, account_octets, player_octets, service_octets}
use Rattle.mcs_state.proofs.Laid.{Laid, lay}
use Rattle.mcs_state.proofs.Each.{AllKept, none, more, behind, behind_is}
use Rattle.mcs_state.proofs.Round.{player_long, service_kept}
use borrow.Author.Rules.{rules}
use Rattle.mcs_state.proofs.lay_service.Goals as goal

pub returns-clause-s_after : goal.returns-clause-s_after
unfolding service_octets
returns-clause-s_after c =
    let a = c.args in
    let v = a.v in
    let old = a.s.now in
    let at = 45 + a.service * 302 in
    let fits : at ≤ length old = omega (arith, c.requires.0, c.requires.1) in
    let name = c.lay_name.ensures in
    let p0 = c.lay_account.ensures in
    let p1 = c.lay_account-2.ensures in
    let p2 = c.lay_account-3.ensures in
    let p3 = c.lay_account-4.ensures in
    let l1 : Laid old at v.player.name.octets c.lay_name.new.s 128 = record { is = name.0; long = name.1 } in
    let l2 = lay _ (player_octets v.player) 30 fits l1 (player_long v.player) c.lay_player.ensures in
    let l3 = lay _ (account_octets (account_in v 0)) 36 fits l2 p0.kept.long p0.s_after in
    let l4 = lay _ (account_octets (account_in v 1)) 36 fits l3 p1.kept.long p1.s_after in
    let l5 = lay _ (account_octets (account_in v 2)) 36 fits l4 p2.kept.long p2.s_after in
    let l6 = lay _ (account_octets (account_in v 3)) 36 fits l5 p3.kept.long p3.s_after in
    let front = v.player.name.octets ++ player_octets v.player in
    let octets : behind account_octets front (spell no_account v.accounts 0 4) ≡ service_octets v =
    behind_is account_octets front (spell no_account v.accounts 0 4)
    ∙ ap (λ (l : List Account). front ++ each_octets account_octets l) (spelled no_account v.accounts 0 4 (search rules)) in
    l6.is ∙ ap (λ (l : List ℕ). paste old at l 302) octets

pub returns-clause-kept : goal.returns-clause-kept
returns-clause-kept c =
    let v = c.args.v in
    let four : length v.accounts ≡ 4 = search rules in
    let kept : AllKept account_from account_octets 36 v.accounts =
    subst (AllKept account_from account_octets 36) (spelled no_account v.accounts 0 4 four)
    (more c.lay_account.ensures.kept (more c.lay_account-2.ensures.kept (more c.lay_account-3.ensures.kept (more c.lay_account-4.ensures.kept none)))) in
    service_kept v c.lay_name.ensures.1 four kept
