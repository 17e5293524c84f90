-- `mcs_state::encode`: the turn, four links and two services, one behind the other; and they are read again.
use mathlib.Core.Path.{◌≡◌, ap, subst, ◌∙◌}
use mathlib.Core.List.{◌++◌}
use Prim.Native.Nat.{◌≤◌}
use native.Mathlib.Omega.{arith}
use lib.ListN.{length, drop}
use lib.Seq.{take_all}
use Rattle.ground.proofs.Sweep.{spell, spelled}
use Rattle.desk_state.specs.Desk.{no_link, no_service, link_at, service_at}
use Rattle.mcs_state.specs.Codec.{each_octets, turn_octets, link_octets, service_from, service_octets, desk_of, desk_octets}
use Rattle.mcs_state.proofs.Laid.{Laid, lay}
use Rattle.mcs_state.proofs.Each.{AllKept, none, more, behind, behind_is}
use Rattle.mcs_state.proofs.Round.{turn_long, link_kept, again}
use borrow.Author.Rules.{rules}
use Rattle.mcs_state.proofs.encode.Goals as goal
use Rattle.mcs_state.proofs.encode.Goals.{After-lay_service-2}

-- the parts, laid one behind the other
module _ (c : After-lay_service-2) where
  four : length c.args.d.links ≡ 4
  four = search rules

  two : length c.args.d.services ≡ 2
  two = search rules

  all_services : spell no_service c.args.d.services 0 2 ≡ c.args.d.services
  all_services = spelled no_service c.args.d.services 0 2 two

  is : c.lay_service-2.new.s ≡ desk_octets c.args.d ++ drop 649 c.args.s.now
  unfolding desk_octets
  is =
      let d = c.args.d in
      let old = c.args.s.now in
      let fits : 0 ≤ length old = omega arith in
      let p0 = c.lay_service.ensures in
      let p1 = c.lay_service-2.ensures in
      let t = turn_octets d.turn in
      let links = spell no_link d.links 0 4 in
      let services = spell no_service d.services 0 2 in
      let l1 : Laid old 0 t c.lay_turn.new.s 5 = record { is = c.lay_turn.ensures; long = turn_long d.turn } in
      let l2 = lay _ (link_octets (link_at d.links 0)) 10 fits l1 (link_kept (link_at d.links 0)).long c.lay_link.ensures in
      let l3 = lay _ (link_octets (link_at d.links 1)) 10 fits l2 (link_kept (link_at d.links 1)).long c.lay_link-2.ensures in
      let l4 = lay _ (link_octets (link_at d.links 2)) 10 fits l3 (link_kept (link_at d.links 2)).long c.lay_link-3.ensures in
      let l5 = lay _ (link_octets (link_at d.links 3)) 10 fits l4 (link_kept (link_at d.links 3)).long c.lay_link-4.ensures in
      let l6 = lay _ (service_octets (service_at d 0)) 302 fits l5 p0.kept.long p0.s_after in
      let l7 = lay _ (service_octets (service_at d 1)) 302 fits l6 p1.kept.long p1.s_after in
      let all-links : links ≡ d.links = spelled no_link d.links 0 4 four in
      let front = behind link_octets t links in
      let octets : behind service_octets front services ≡ desk_octets d =
      behind_is service_octets front services
      ∙ (λ i. behind_is link_octets t links i ++ each_octets service_octets services)
      ∙ (λ i. t ++ each_octets link_octets (all-links i) ++ each_octets service_octets (all_services i)) in
      l7.is ∙ (λ i. (take_all 649 (behind service_octets front services) (omega (arith, l7.long)) ∙ octets) i ++ drop 649 old)

pub returns-clause-s_after : goal.returns-clause-s_after
returns-clause-s_after c =
    is (goal.at.returns-clause-s_after c).After-lay_service-2

pub returns-clause-s_after_2 : goal.returns-clause-s_after_2
returns-clause-s_after_2 c =
    let f = (goal.at.returns-clause-s_after_2 c).After-lay_service-2 in
    let kept : AllKept service_from service_octets 302 c.args.d.services =
    subst (AllKept service_from service_octets 302) (all_services f) (more c.lay_service.ensures.kept (more c.lay_service-2.ensures.kept none)) in
    ap desk_of (is f) ∙ again c.args.d (drop 649 c.args.s.now) (four f) (two f) kept
