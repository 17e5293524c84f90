-- Reading back what was written gives the entries (SCOPE 7.9): the members of a Group object, and the labels of a Track Segments object, with or without names.
-- Assumes nothing.
use mathlib.Core.Path.{◌≡◌, refl, sym, ap, ◌∙◌}
use mathlib.Core.Bool.{true}
use mathlib.Core.List.{List, [], ◌∷◌, ◌++◌, append_assoc, map}
use Prim.Native.Nat.{ℕ, ◌+◌, ◌-◌, ◌/◌, ◌%◌, ◌<◌, ◌≤◌}
use native.Mathlib.Nat.{add-zero}
use native.Mathlib.Omega.{arith}
use borrow.Author.Tests.{lt-ltb, le-leb}
use lib.Dec.{ltb}
use lib.ListN.{length, get_or, drop, length-append, length-map}
use lib.Seq.{take_at, drop_at}
use Rattle.ground.specs.Limits.{most_groups, most_tracks}
use Rattle.ground.specs.Lists.{Each, part, span}
use Rattle.ground.specs.Words.{word_at, half_at, octets_of_word, words, octets_of}
use Rattle.ground.proofs.Cases.{and_both}
use Rattle.ground.proofs.Words.{word_drop, words_octets, six_low, six_high}
use Rattle.text.specs.Grammar.{Text}
use Rattle.text.specs.Grammar.Text.{end}
use Rattle.text.specs.Utf8.{text_of, is_fine}
use Rattle.text.proofs.Law.{fine_is_text}
use Rattle.catalogue_tables.specs.Tables.{Tables, group_count, track_count, first_track_of, tracks_in, segments_in, starts_of}
use Rattle.catalogue_check.specs.Catalogue.{Right}
use Rattle.catalogue_check.proofs.Laws.{few_groups, few_tracks, track_run_inside, starts_length, end_bounded, starts_below}
use Rattle.catalogue_objects.specs.declared.Kind.{Kind}
use Rattle.catalogue_objects.specs.declared.Kind.TheVariants.{Group, Segments}
use Rattle.catalogue_objects.specs.Entries.{Member, group_member, track_member, is_child, children_of, tracks_of, members_of, Label, nameless, labels_of, member_octets, label_octets, all_octets}
use Rattle.catalogue_objects.specs.Objects.{group_octets, segments_octets}
use Rattle.catalogue_objects.specs.Reading.{label_head, size_of, label_sound, is_entry, words_of, Entries, behind, entries_of}
use Rattle.catalogue_objects.proofs.Each.{each_map, each_same, each_append, each_at, each_span, each_those}
use Rattle.catalogue_objects.proofs.Octets.{member_long}
use Rattle.catalogue_objects.proofs.Steps.{some_octets, entries_end, entries_next, long_enough}
use Rattle.catalogue_objects.proofs.Stores.{half_of}

-- octets that are read as an entry with these words, whatever follows
pub record ReadAs (kind : Kind) (octets words : List ℕ) : Type 0 where
  pub is : (rest : List ℕ) → is_entry kind (octets ++ rest) ≡ true
  pub long : (rest : List ℕ) → size_of kind (octets ++ rest) ≡ length octets
  pub means : (rest : List ℕ) → words_of kind (octets ++ rest) ≡ words

-- so many whole entries, with these words
abbrev pub whole : ℕ → List ℕ → Entries
whole count words = record { whole = true; count = count; words = words }

-- THE law: what is read so one by one is read so one behind the other
pub read_back : (kind : Kind) {A : Type 0} (octets words : A → List ℕ) (s : List A) → Each (λ x. ReadAs kind (octets x) (words x)) s
    → entries_of kind (all_octets octets s) ≡ whole (length s) (all_octets words s)
unfolding all_octets
read_back kind octets words [] e = entries_end kind [] refl
read_back kind octets words (x ∷ s) e =
    let rest = all_octets octets s in
    let r = e.0 in
    let some : 0 < length (octets x ++ rest) = omega (arith, some_octets kind (octets x ++ rest), r.long rest, length-append (octets x) rest) in
    entries_next kind (octets x ++ rest) some (r.is rest)
    ∙ (λ i. behind (r.means rest i) (entries_of kind (drop_at (octets x) rest _ (sym (r.long rest)) i)))
    ∙ ap (behind (words x)) (read_back kind octets words s e.1)

-- a record: its type is not reserved, and its object's number has 48 bits
pub record MemberFits (m : Member) : Type 0 where
  pub type : m.kind ≤ 1
  pub number : m.object < 281474976710656

abbrev pub member_words : Member → List ℕ
member_words m = m.kind ∷ m.object % 4294967296 ∷ m.object / 4294967296 ∷ []

pub member_read : (m : Member) → MemberFits m → ReadAs Group (member_octets m) (member_words m)
unfolding member_octets words_of
member_read m f =
    record {
      is = λ rest.
          let s = member_octets m ++ rest in
          let fits : 7 ≤ length s = omega (arith, length-append (member_octets m) rest, member_long m) in
          long_enough Group s fits ∙ le-leb m.kind 1 f.type;
      long = λ rest. sym (member_long m);
      means = λ rest.
          let s = member_octets m ++ rest in
          let low : word_at s 1 ≡ m.object % 4294967296 = sym (word_drop s 1 0) ∙ six_low m.object rest in
          let high : half_at s 5 ≡ m.object / 4294967296 = sym (half_of s 1 4) ∙ six_high m.object rest f.number in
          λ i. m.kind ∷ low i ∷ high i ∷ [];
    }

-- a label: its name is UTF-8 and has a length of one octet, its position is not negative
pub record LabelFits (l : Label) : Type 0 where
  pub named : Text l.name
  pub short : length l.name ≤ 255
  pub positive : l.position < 0x8000_0000

abbrev pub label_words : Label → List ℕ
label_words l = l.position ∷ []

-- where its name and its position stand
module _ (l : Label) (rest : List ℕ) where
  abbrev tail : List ℕ
  tail = octets_of_word l.position ++ rest

  abbrev written : List ℕ
  written = label_octets l ++ rest

  apart : written ≡ (length l.name ∷ l.name) ++ tail
  unfolding label_octets
  apart = ap (λ (s : List ℕ). length l.name ∷ s) (append_assoc l.name (octets_of_word l.position) rest)

  head : label_head written ≡ length l.name + 1
  unfolding label_octets
  head = refl

  name_there : part written 1 (label_head written) ≡ l.name
  unfolding label_octets
  name_there =
      let n : length l.name ≡ length l.name + 1 - 1 = omega arith in
      ap (λ (s : List ℕ). part s 1 (length l.name + 1)) apart ∙ take_at l.name tail (length l.name + 1 - 1) n

  position_there : word_at written (label_head written) ≡ l.position
  unfolding word_at words octets_of
  position_there =
      let n = length l.name + 1 in
      let long : length (length l.name ∷ l.name) ≡ n = omega arith in
      ap (word_at written) (head ∙ sym (add-zero n))
      ∙ sym (word_drop written n 0)
      ∙ ap (λ (s : List ℕ). word_at s 0) (ap (drop n) apart ∙ drop_at (length l.name ∷ l.name) tail n long)
      ∙ ap (λ (s : List ℕ). get_or s 0 0) (words_octets (l.position ∷ []))

  size : label_head written + 4 ≡ length (label_octets l)
  unfolding label_octets
  size = omega (arith, head, length-append l.name (octets_of_word l.position))

pub label_read : (l : Label) → LabelFits l → ReadAs Segments (label_octets l) (label_words l)
unfolding words_of label_sound
label_read l f =
    record {
      is = λ rest.
          let s = written l rest in
          let fits : label_head s + 4 ≤ length s = omega (arith, size l rest, length-append (label_octets l) rest) in
          let named = ap (λ (name : List ℕ). is_fine (text_of name)) (name_there l rest) ∙ ap is_fine ((fine_is_text l.name).1 f.named) in
          let positive = ap (λ (x : ℕ). ltb x 0x8000_0000) (position_there l rest) ∙ lt-ltb _ _ f.positive in
          long_enough Segments s fits ∙ and_both named positive;
      long = λ rest. size l rest;
      means = λ rest. ap (λ (x : ℕ). x ∷ []) (position_there l rest);
    }

-- a number of a group or a track
abbrev Low : ℕ → Type 0
Low x = x < 65536

-- the records of a group within the limits
pub members_fit : (groups : List ℕ) (g : ℕ) → group_count groups ≤ most_groups → first_track_of groups g + tracks_in groups g ≤ most_tracks → Each MemberFits (members_of groups g)
unfolding members_of children_of tracks_of
members_fit groups g h k =
    let first = first_track_of groups g in
    let count = tracks_in groups g in
    let children = each_those Low (is_child groups g) (span 0 (group_count groups)) (each_span Low 0 (group_count groups) (λ x l. omega arith)) in
    let tracks = each_span Low first count (λ x l. omega arith) in
    each_append MemberFits (map group_member (children_of groups g)) (map track_member (span first count))
    (each_map Low MemberFits group_member (λ x l. record { type = omega arith; number = omega arith }) (children_of groups g) children)
    (each_map Low MemberFits track_member (λ x l. record { type = omega arith; number = omega arith }) (span first count) tracks)

pub members_read : (s : List Member) → Each MemberFits s → entries_of Group (all_octets member_octets s) ≡ whole (length s) (all_octets member_words s)
members_read s e = read_back Group member_octets member_words s (each_same member_read s e)

pub group_read : (groups : List ℕ) (g : ℕ) → group_count groups ≤ most_groups → first_track_of groups g + tracks_in groups g ≤ most_tracks
    → entries_of Group (group_octets groups g) ≡ whole (length (members_of groups g)) (all_octets member_words (members_of groups g))
unfolding group_octets
group_read groups g h k = members_read (members_of groups g) (members_fit groups g h k)

-- labels with any names
positions : (s : List Label) → all_octets label_words s ≡ map (λ l. l.position) s
unfolding all_octets
positions [] = refl
positions (l ∷ s) = ap (λ (w : List ℕ). l.position ∷ w) (positions s)

pub labels_read : (s : List Label) → Each LabelFits s → entries_of Segments (all_octets label_octets s) ≡ whole (length s) (map (λ l. l.position) s)
labels_read s e = read_back Segments label_octets label_words s (each_same label_read s e) ∙ ap (whole (length s)) (positions s)

module _ (k : Tables) (right : Right k) where
  -- the objects of a right catalogue
  pub right_group_read : (g : ℕ) → g < group_count k.groups
      → entries_of Group (group_octets k.groups g) ≡ whole (length (members_of k.groups g)) (all_octets member_words (members_of k.groups g))
  right_group_read g h = group_read k.groups g (few_groups k right) (omega (arith, track_run_inside k right g h, few_tracks k right))

  pub right_segments_read : (t : ℕ) → t < track_count k.tracks
      → entries_of Segments (segments_octets k.tracks k.segments t) ≡ whole (segments_in k.tracks t) (starts_of k.tracks k.segments t)
  unfolding segments_octets labels_of
  right_segments_read t h =
      let starts = starts_of k.tracks k.segments t in
      let fit = each_map (λ x. x < 0x8000_0000) LabelFits nameless (λ x l. record { named = end; short = omega arith; positive = l }) starts
      (each_at (λ x. x < 0x8000_0000) 0 starts (λ i l. omega (arith, starts_below k right t h i l, end_bounded k right t h))) in
      labels_read (map nameless starts) fit
      ∙ (λ i. whole ((length-map starts nameless ∙ starts_length k right t h) i) (back starts i))
    where
      back : (starts : List ℕ) → map (λ l. l.position) (map nameless starts) ≡ starts
      back [] = refl
      back (x ∷ starts) = ap (λ (s : List ℕ). x ∷ s) (back starts)
