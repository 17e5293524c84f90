-- `mcs_state::put_service`: a service alone is another.
use Rattle.mcs_state.proofs.Stored.{service_stored}
use Rattle.mcs_state.proofs.put_service.Goals as goal

pub returns : goal.returns
returns c =
    let a = c.args in
    let p = c.lay_service.ensures in
    service_stored a.s.now _ c.requires.in_bounds c.requires.plain a.service a.v c.requires.service_lt_service_count p.kept p.s_after
