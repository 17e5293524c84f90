-- `desk_notices::name_changed`: a length held to the array's tells the same name.
use mathlib.Core.Path.{◌≡◌, ap, ◌∙◌}
use mathlib.Core.Bool.{not}
use native.Mathlib.Omega.{arith}
use lib.ListN.{length}
use Rattle.desk_notices.specs.Changes.{same_octets}
use Rattle.desk_notices.proofs.Differing.{take_held}
use borrow.Author.Rules.{rules}
use Rattle.desk_notices.proofs.name_changed.Goals as goal

pub slice_bounds-same-end : goal.slice_bounds-same-end
slice_bounds-same-end c =
    let long_p : length c.args.p.name.octets ≡ 128 = search rules in
    omega (arith, long_p, c.name_end-m.ensures)

pub slice_bounds-same-end-2 : goal.slice_bounds-same-end-2
slice_bounds-same-end-2 c =
    let long_q : length c.args.q.name.octets ≡ 128 = search rules in
    omega (arith, long_q, c.name_end-n.ensures)

pub returns : goal.returns
returns c =
    let long_p : length c.args.p.name.octets ≡ 128 = search rules in
    let long_q : length c.args.q.name.octets ≡ 128 = search rules in
    let p = c.args.p.name in
    let q = c.args.q.name in
    ap not
    (c.same.ensures
    ∙ (λ k.
    same_octets
    (take_held p.octets p.len c.name_end-m.result (long_p) c.name_end-m.ensures k)
    (take_held q.octets q.len c.name_end-n.result (long_q) c.name_end-n.ensures k)))
