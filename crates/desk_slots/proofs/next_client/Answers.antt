-- `desk_slots::next_client`: what the search finds from distance d on is still the answer.
use mathlib.Core.Path.{sym, ◌∙◌}
use Prim.Native.Nat.{◌+◌, ◌%◌}
use native.Mathlib.Omega.{arith}
use Rattle.desk_slots.specs.Slots.{client_count, owing}
use Rattle.desk_slots.proofs.SlotLaws.{owing_some, owing_none}
use Rattle.desk_slots.proofs.Scan.{scan_start, scan_hit, scan_pass, scan_end}
use Rattle.desk_slots.proofs.next_client.Goals as goal

pub loop-d-init : goal.loop-d-init
loop-d-init c =
    scan_start client_count (owing c.args.owed) c.args.after

pub returns-then-owed-i-ne0 : goal.returns-then-owed-i-ne0
returns-then-owed-i-ne0 c =
    let v = c.args in
    let h = c.loop-d in
    let a = (v.after + h.d) % client_count in
    (omega arith, sym (h.invariant ∙ scan_hit client_count (owing v.owed) v.after h.d (omega arith) (owing_some v.owed a c.if-owed-i-ne0.true)))

pub loop-d-preserved : goal.loop-d-preserved
loop-d-preserved c =
    let v = c.args in
    let h = c.loop-d in
    let a = (v.after + h.d) % client_count in
    h.invariant ∙ scan_pass client_count (owing v.owed) v.after h.d (omega arith) (owing_none v.owed a c.if-owed-i-ne0.false)

pub returns : goal.returns
returns c =
    let v = c.args in
    let h = c.loop-d in
    (omega arith, sym (h.invariant ∙ scan_end client_count (owing v.owed) v.after h.d (omega arith)))
