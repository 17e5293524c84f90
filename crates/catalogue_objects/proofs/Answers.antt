-- What the calls say: by the room, by what the catalogue check says, by whether the object is there, and by what the octets are. Assumes nothing.
use mathlib.Core.Path.{◌≡◌, sym, ap, ◌∙◌}
use mathlib.Core.Bool.{Bool, true, false, not}
use mathlib.Core.List.{List, [], ◌∷◌}
use Prim.Native.Nat.{ℕ, ◌*◌, ◌/◌, ◌<◌, ◌≤◌}
use native.Mathlib.Omega.{arith}
use borrow.Author.Tests.{lt-ltb, le-ltb}
use lib.Dec.{ltb}
use lib.ListN.{length}
use Rattle.ground.specs.Refusals.{Said, granted, refused, row, said_through}
use Rattle.ground.proofs.Cases.{past, here}
use Rattle.ground.proofs.Rows.{shut}
use Rattle.catalogue_tables.specs.Tables.{Tables}
use Rattle.catalogue_check.specs.Catalogue.{catalogue_row, check_said, Right}
use Rattle.catalogue_check.proofs.Laws.{passed}
use Rattle.catalogue_objects.specs.declared.Kind.{Kind}
use Rattle.catalogue_objects.specs.declared.Kind.TheVariants.{Group, Segments}
use Rattle.catalogue_objects.specs.Objects.{write_rows, write_said}
use Rattle.catalogue_objects.specs.Reading.{width_of, entries_of, read_said}

-- what is said by the room alone
abbrev pub room_said : List ℕ → ℕ → Said
room_said octets room = said_through (row 223 (ltb room (length octets)) ∷ []) (granted (length octets ∷ []))

module _ (octets : List ℕ) (room : ℕ) where
  pub no_room : room < length octets → (said : Said) → said ≡ refused 223 → said ≡ room_said octets room
  no_room h said e = here _ (lt-ltb _ _ h) e

  pub has_room : (n : ℕ) → n ≡ length octets → length octets ≤ room → granted (n ∷ []) ≡ room_said octets room
  has_room n e h = past _ (le-ltb _ _ h) (ap (λ (m : ℕ). granted (m ∷ [])) e)

module _ (k : Tables) (there : Bool) (octets : List ℕ) (room : ℕ) where
  -- 200: nothing behind it is asked
  pub says_catalogue : (said : Said) → said ≡ check_said k → said.is_granted ≡ false → said ≡ write_said k there octets room
  unfolding check_said write_said
  says_catalogue said e h =
      e
      ∙ shut (λ s. s) (catalogue_row k ∷ []) (said_through (write_rows there octets room) (granted (length octets ∷ [])))
      (sym (ap (λ (s : Said). s.is_granted) e) ∙ h)

  -- 0x13, and where the object is there, the room decides
  pub says_absent : Right k → there ≡ false → (said : Said) → said ≡ refused 0x13 → said ≡ write_said k there octets room
  unfolding write_said
  says_absent right t said e = past _ (ap not (passed k right)) (here _ (ap not t) e)

  pub says_room : Right k → there ≡ true → (said : Said) → said ≡ room_said octets room → said ≡ write_said k there octets room
  unfolding write_said
  says_room right t said e = past _ (ap not (passed k right)) (past _ (ap not t) e)

-- as many words as entries are read into, counted by how many entries have room
pub too_few_words : (kind : Kind) (room count width : ℕ) → width ≡ width_of kind → room / width < count → room < count * width_of kind
too_few_words Group room count width e h = let three = rw e at h in omega arith
too_few_words Segments room count width e h = let one = rw e at h in omega arith

-- what a call that reads says: 222, 223, or how many entries there are
module _ (kind : Kind) (octets : List ℕ) (room : ℕ) where
  pub bad_entries : (entries_of kind octets).whole ≡ false → (said : Said) → said ≡ refused 222 → said ≡ read_said kind octets room
  unfolding read_said
  bad_entries w said e = here _ (ap not w) e

  module _ (w : (entries_of kind octets).whole ≡ true) where
    pub no_words : room < (entries_of kind octets).count * width_of kind → (said : Said) → said ≡ refused 223 → said ≡ read_said kind octets room
    unfolding read_said
    no_words h said e = past _ (ap not w) (here _ (lt-ltb _ _ h) e)

    pub all_read : (entries_of kind octets).count * width_of kind ≤ room → (n : ℕ) → n ≡ (entries_of kind octets).count → granted (n ∷ []) ≡ read_said kind octets room
    unfolding read_said
    all_read h n e = past _ (ap not w) (past _ (le-ltb _ _ h) (ap (λ (m : ℕ). granted (m ∷ [])) e))
