-- `catalogue_objects::members_over`: after i records, what is left is whole as all is, and i and what is left make up all.
use mathlib.Core.Path.{◌≡◌, refl}
use mathlib.Core.Bool.{true, false, ◌&&◌}
use mathlib.Core.List.{List}
use Prim.Native.Nat.{ℕ, ◌+◌, ◌*◌, ◌≤◌, ◌<◌}
use native.Mathlib.Omega.{arith}
use borrow.Author.Tests.{le-leb, lt-leb}
use lib.Dec.{leb}
use lib.ListN.{length, get_or, drop, length-drop}
use Rattle.catalogue_objects.specs.declared.Kind.TheVariants.{Group}
use Rattle.catalogue_objects.specs.Reading.{is_entry, no_entries, entries_of}
use Rattle.catalogue_objects.proofs.Stores.{first_of}
use Rattle.catalogue_objects.proofs.Steps.{entries_stop}
use Rattle.catalogue_objects.proofs.Counting.{counting_ends, counting_broken, counting_goes}
-- a record at a place, by its type; and what is too short for one
use Rattle.catalogue_objects.proofs.members_over.Goals as goal

module _ (octets : List ℕ) (at : ℕ) where
  record_there : at + 7 ≤ length octets → get_or octets at 0 ≤ 1 → is_entry Group (drop at octets) ≡ true
  unfolding is_entry
  record_there h t = λ k. le-leb 7 (length (drop at octets)) (omega (arith, length-drop at octets)) k && le-leb (get_or (drop at octets) 0 0) 1 (omega (arith, first_of octets at)) k

  reserved : at + 7 ≤ length octets → 1 < get_or octets at 0 → entries_of Group (drop at octets) ≡ no_entries false
  unfolding is_entry
  reserved h t =
      entries_stop Group (drop at octets) (omega (arith, length-drop at octets))
      (λ k. le-leb 7 (length (drop at octets)) (omega (arith, length-drop at octets)) k && lt-leb (get_or (drop at octets) 0 0) 1 (omega (arith, first_of octets at)) k)

  cut_short : at < length octets → length octets < at + 7 → entries_of Group (drop at octets) ≡ no_entries false
  unfolding is_entry
  cut_short h t =
      entries_stop Group (drop at octets) (omega (arith, length-drop at octets)) (λ k. lt-leb 7 (length (drop at octets)) (omega (arith, length-drop at octets)) k && leb (get_or (drop at octets) 0 0) 1)

pub returns-then-octets-at-gt-GROUP : goal.returns-then-octets-at-gt-GROUP
returns-then-octets-at-gt-GROUP c =
    counting_broken c.loop-i.invariant (reserved c.args.octets.now (c.loop-i.i * 7) (omega (arith, c.loop-i-test.true)) c.if-octets-at-gt-GROUP.true)

pub loop-i-preserved : goal.loop-i-preserved
loop-i-preserved c =
    let s = c.args.octets.now in
    let at = c.loop-i.i * 7 in
    let fits : at + 7 ≤ length s = omega (arith, c.loop-i-test.true) in
    let step : (c.loop-i.i + 1) * 7 ≡ at + 7 = omega arith in
    rw step (counting_goes c.loop-i.invariant (omega arith) (record_there s at fits c.if-octets-at-gt-GROUP.false) refl)

pub returns-then-octets-ne0 : goal.returns-then-octets-ne0
returns-then-octets-ne0 c =
    counting_broken c.loop-i.invariant (cut_short c.args.octets.now (c.loop-i.i * 7) (omega (arith, c.if-octets-ne0.true, c.loop-i-test.false, c.loop-i.auto.i-end)) (omega (arith, c.loop-i-test.false)))

pub returns : goal.returns
returns c =
    let all : length c.args.octets.now ≤ c.loop-i.i * 7 = omega (arith, c.if-octets-ne0.false, c.loop-i-test.false) in
    let end = counting_ends c.loop-i.invariant all in
    (end.0, omega (arith, end.1, c.loop-i-test.false, c.loop-i.auto.i-end))
