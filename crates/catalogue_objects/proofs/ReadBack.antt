-- What `write_group` and `write_segments` wrote, `read` gives back (SCOPE 7.9). It is stated over any outcomes that meet the contracts as the check reads them
-- (`Reads.Post`).
-- Assumes nothing.
use mathlib.Core.Path.{◌≡◌, refl, sym, ap, ◌∙◌}
use mathlib.Core.Bool.{Bool, true}
use mathlib.Core.List.{List, [], ◌∷◌}
use Prim.Native.Nat.{ℕ, ◌*◌, ◌≤◌}
use borrow.Author.Tests.{not-false, ltb-true}
use contract.Lifetimes.{Lfts}
use denote.Ref.{Bor, MutBor}
use lib.Dec.{ltb}
use lib.ListN.{length, get_or, take, drop}
use lib.Seq.{take_at}
use Rattle.ground.specs.Lists.{filled, table_after}
use Rattle.ground.specs.Refusals.{Said, granted, Row, count_said}
use Rattle.ground.proofs.Cases.{and_left}
use Rattle.ground.proofs.Rows.{NoneApplies, kept, through}
use Rattle.catalogue_tables.specs.Tables.{Tables, tables, track_count, segments_in, starts_of}
use Rattle.catalogue_tables.specs.declared.GroupNo.{GroupNo}
use Rattle.catalogue_tables.specs.declared.TrackNo.{TrackNo}
use Rattle.catalogue_check.specs.Catalogue.{catalogue_row, Right}
use Rattle.catalogue_check.proofs.Laws.{is_right}
use Rattle.std.specs.Prelude.{Ok, Result}
use Rattle.ground.specs.declared.Refusal.{Refusal}
use Rattle.catalogue_objects.specs.declared.Kind.{Kind}
use Rattle.catalogue_objects.specs.declared.Kind.TheVariants.{Group, Segments}
use Rattle.catalogue_objects.specs.Entries.{members_of, all_octets}
use Rattle.catalogue_objects.specs.Objects.{group_octets, segments_octets, has_group, has_segments, write_rows, write_said}
use Rattle.catalogue_objects.specs.Reading.{width_of, Entries, entries_of, read_said}
use Rattle.catalogue_objects.proofs.Answers.{all_read}
use Rattle.catalogue_objects.proofs.RoundTrip.{whole, member_words, right_group_read, right_segments_read}
use Rattle.ground.proofs.Settled.{count_settles}
use Rattle.catalogue_objects.proofs.Settled.{MeetsGroup, MeetsSegments, MeetsRead}

-- a write that was granted: the catalogue is right, the object is there, and stands in front
module _ (k : Tables) (there : Bool) (octets old new : List ℕ) (n : ℕ) (said : granted (n ∷ []) ≡ write_said k there octets (length old)) (left : new ≡ filled octets old) where
  abbrev rows : List Row
  rows = catalogue_row k ∷ write_rows there octets (length old)

  none : NoneApplies rows
  unfolding write_said
  none = kept rows (granted (length octets ∷ [])) (λ i. (sym said i).is_granted)

  was_right : Right k
  was_right = is_right k (not-false _ none.0)

  was_there : there ≡ true
  was_there = not-false _ none.1.0

  in_front : take n new ≡ octets
  unfolding write_said
  in_front =
      let many : n ≡ length octets = ap (λ (s : Said). get_or s.values 0 0) (said ∙ sym (through (λ s. s) rows none refl)) in
      ap (take n) left ∙ take_at octets (drop (length octets) old) n (sym many)

-- a read of whole entries into words that have room
reads_whole : (kind : Kind) (s old : List ℕ) (count : ℕ) (words : List ℕ) → entries_of kind s ≡ whole count words → count * width_of kind ≤ length old
    → (a : Result ℕ Refusal) (new : List ℕ) → count_said a ≡ read_said kind s (length old) → new ≡ table_after (count_said a) (entries_of kind s).words old
    → (a ≡ Ok count) × (new ≡ filled words old)
reads_whole kind s old count words is room a new said left =
    let many = ap (λ (e : Entries). e.count) is in
    let fits = rw (sym many) at room in
    let same : count_said a ≡ granted (count ∷ []) = said ∙ sym (all_read kind s (length old) (ap (λ (e : Entries). e.whole) is) fits count (sym many)) in
    (count_settles a (Ok count) same, left ∙ (λ i. table_after (same i) (is i).words old))

module _ (κs : Lfts 5) (groups tracks segments text : Bor (List ℕ)) (out : MutBor (List ℕ)) (n : ℕ) (new : List ℕ) (κs' : Lfts 2) (octets : Bor (List ℕ)) (words : MutBor (List ℕ)) (lent : octets.now ≡ take n new)
    (a : Result ℕ Refusal) (after : List ℕ) where
  abbrev k : Tables
  k = tables groups.now tracks.now segments.now text.now

  -- the group's records, as type, low 32 and high 16 bits
  pub group_comes_back : (g : GroupNo) → MeetsGroup κs groups tracks segments text out g (Ok n) new → MeetsRead κs' octets words Group a after
      → let members = members_of groups.now g.0 in
      length members * 3 ≤ length words.now → (a ≡ Ok (length members)) × (after ≡ filled (all_octets member_words members) words.now)
  group_comes_back g m r room =
      let object = group_octets groups.now g.0 in
      let there = has_group k g.0 in
      let right = was_right k there object out.now new n m.0 m.1 in
      let exists = ltb-true _ _ (was_there k there object out.now new n m.0 m.1) in
      let is = ap (entries_of Group) (lent ∙ in_front k there object out.now new n m.0 m.1) ∙ right_group_read k right g.0 exists in
      reads_whole Group octets.now words.now _ _ is room a after r.0 r.1

  -- the starts of the track's segments
  pub segments_come_back : (t : TrackNo) → MeetsSegments κs groups tracks segments text out t (Ok n) new → MeetsRead κs' octets words Segments a after
      → let count = segments_in tracks.now t.0 in
      count * 1 ≤ length words.now → (a ≡ Ok count) × (after ≡ filled (starts_of tracks.now segments.now t.0) words.now)
  segments_come_back t m r room =
      let object = segments_octets tracks.now segments.now t.0 in
      let there = has_segments k t.0 in
      let right = was_right k there object out.now new n m.0 m.1 in
      let both = was_there k there object out.now new n m.0 m.1 in
      let exists = ltb-true _ _ (and_left (ltb t.0 (track_count tracks.now)) (ltb 0 (segments_in tracks.now t.0)) both) in
      let is = ap (entries_of Segments) (lent ∙ in_front k there object out.now new n m.0 m.1) ∙ right_segments_read k right t.0 exists in
      reads_whole Segments octets.now words.now _ _ is room a after r.0 r.1
