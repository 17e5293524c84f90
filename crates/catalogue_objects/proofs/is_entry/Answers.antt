-- `catalogue_objects::is_entry`: the octets are there, and are sound.
use mathlib.Core.Path.{sym, ap, ◌∙◌}
use Prim.Native.Nat.{ℕ, ◌≤◌, ◌<◌}
use native.Mathlib.Omega.{arith}
use lib.Dec.{leb}
use lib.ListN.{length, drop, length-drop}
use Rattle.catalogue_objects.specs.declared.Kind.{Kind}
use Rattle.catalogue_objects.specs.Reading.{size_of, is_sound}
use Rattle.catalogue_objects.proofs.Steps.{too_short, long_enough}
use Rattle.catalogue_objects.proofs.Stores.{first_of}
use Rattle.catalogue_objects.proofs.is_entry.Goals as goal

pub returns-then-octets-at : goal.returns-then-octets-at
returns-then-octets-at c =
    let s = drop c.args.at c.args.octets.now in
    let short : length s < size_of c.args.kind s = omega (arith, length-drop c.args.at c.args.octets.now, c.size_at-size.ensures.0) in
    sym (too_short c.args.kind s short)

pub returns-in-Group : goal.returns-in-Group
returns-in-Group c =
    let s = drop c.args.at c.args.octets.now in
    let there : size_of c.args.kind s ≤ length s = omega (arith, length-drop c.args.at c.args.octets.now, c.size_at-size.ensures.0) in
    ap (λ (x : ℕ). leb x 1) (sym (first_of c.args.octets.now c.args.at)) ∙ sym (long_enough c.args.kind s there ∙ ap (λ (kind : Kind). is_sound kind s) c.in-Group.is)

pub returns-in-Segments : goal.returns-in-Segments
returns-in-Segments c =
    let s = drop c.args.at c.args.octets.now in
    let there : size_of c.args.kind s ≤ length s = omega (arith, length-drop c.args.at c.args.octets.now, c.size_at-size.ensures.0) in
    c.label_sound.ensures ∙ sym (long_enough c.args.kind s there ∙ ap (λ (kind : Kind). is_sound kind s) c.in-Segments.is)
