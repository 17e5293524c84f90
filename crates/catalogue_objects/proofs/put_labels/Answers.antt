-- `catalogue_objects::put_labels`: the labels of the first i starts are laid, and the others are left.
use mathlib.Core.Path.{refl, ◌∙◌}
use Prim.Native.Nat.{◌+◌, ◌*◌}
use native.Mathlib.Omega.{arith}
use lib.ListN.{get_or, drop}
use Rattle.ground.proofs.Laying.{laid_front}
use Rattle.catalogue_objects.specs.Entries.{nameless, label_octets}
use Rattle.catalogue_objects.proofs.Octets.{label_long, labels_long}
use Rattle.catalogue_objects.proofs.Left.{labels_octets, labels_next, labels_none}
use Rattle.catalogue_objects.proofs.Pieces.{pieces_start, pieces_end, pieces_go}
use Rattle.catalogue_objects.proofs.put_labels.Goals as goal

pub loop-i-init : goal.loop-i-init
loop-i-init c =
    pieces_start c.args.out.now 0 refl (omega (arith, labels_long c.args.starts.now, c.requires))

pub loop-i-preserved : goal.loop-i-preserved
loop-i-preserved c =
    let starts = c.args.starts.now in
    let i = c.loop-i.i in
    pieces_go c.loop-i.invariant (label_octets (nameless (get_or starts i 0))) (labels_octets (drop (i + 1) starts)) (labels_next starts i c.loop-i-test.true) c.put_label.new.out (i * 5) ((i + 1) * 5)
    (omega arith) (omega (arith, label_long (get_or starts i 0))) c.put_label.ensures

pub returns : goal.returns
returns c =
    pieces_end c.loop-i.invariant (labels_none c.args.starts.now c.loop-i.i c.loop-i-test.false) ∙ laid_front c.args.out.now _
