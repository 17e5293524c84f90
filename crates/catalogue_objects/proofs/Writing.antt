-- A loop that writes the words of entries: what is left is whole, and the words of the entries before the place are laid. Assumes nothing.
use mathlib.Core.Path.{◌≡◌, refl, sym, ap, ◌∙◌}
use mathlib.Core.Bool.{true}
use mathlib.Core.List.{List, ◌++◌}
use Prim.Native.Nat.{ℕ, ◌+◌, ◌*◌, ◌<◌, ◌≤◌, zero-le}
use native.Mathlib.Omega.{arith}
use lib.ListN.{length, drop, drop_of_length-le}
use Rattle.ground.specs.Lists.{filled, laid}
use Rattle.ground.proofs.Laying.{laid_front}
use Rattle.catalogue_objects.specs.declared.Kind.{Kind}
use Rattle.catalogue_objects.specs.Reading.{size_of, is_entry, words_of, width_of, Entries, behind, entries_of}
use Rattle.catalogue_objects.proofs.Pieces.{Pieces, pieces_start, pieces_end, pieces_room, pieces_go}
use Rattle.catalogue_objects.proofs.Steps.{words_wide, entries_end, whole_next, words_long, some_left, entry_inside, left_behind}

pub record Writing (kind : Kind) (octets old out : List ℕ) (at to : ℕ) : Type 0 where
  pub within : at ≤ length octets
  pub whole : (entries_of kind (drop at octets)).whole ≡ true
  pub pieces : Pieces (entries_of kind octets).words (entries_of kind (drop at octets)).words old out 0 to

pub writing_starts : (kind : Kind) (octets old : List ℕ) → (entries_of kind octets).whole ≡ true → (entries_of kind octets).count * width_of kind ≤ length old
    → Writing kind octets old old 0 0
writing_starts kind octets old whole room =
    record { within = zero-le; whole = whole; pieces = pieces_start old 0 refl (omega (arith, words_long kind octets)) }

module _ {kind : Kind} {octets old out : List ℕ} {at to : ℕ} (W : Writing kind octets old out at to) where
  pub writing_ends : length octets ≤ at → out ≡ filled (entries_of kind octets).words old
  writing_ends h = pieces_end W.pieces (ap (λ (e : Entries). e.words) (entries_end kind _ (drop_of_length-le octets h))) ∙ laid_front old _

  -- the entry at the place
  module _ (below : at < length octets) where
    whole_here : is_entry kind (drop at octets) ≡ true
    whole_here = whole_next kind _ (some_left kind octets at below) W.whole

    module _ {size : ℕ} (long : size ≡ size_of kind (drop at octets)) where
      pub entry_within : at + size ≤ length octets
      entry_within = entry_inside kind octets at below whole_here size long

      next : entries_of kind (drop at octets) ≡ behind (words_of kind (drop at octets)) (entries_of kind (drop (at + size) octets))
      next = left_behind kind octets at below whole_here size long

      next_words : (entries_of kind (drop at octets)).words ≡ words_of kind (drop at octets) ++ (entries_of kind (drop (at + size) octets)).words
      next_words = ap (λ (e : Entries). e.words) next

      words_room : to + width_of kind ≤ length out
      words_room = omega (arith, words_wide kind (drop at octets), pieces_room W.pieces (words_of kind (drop at octets)) (entries_of kind (drop (at + size) octets)).words next_words)

      pub writing_goes : {width : ℕ} (new : List ℕ) → width ≡ width_of kind → new ≡ laid out to (words_of kind (drop at octets))
          → Writing kind octets old new (at + size) (to + width)
      writing_goes {width} new wide e =
          record {
            within = entry_within;
            whole = sym (ap (λ (e : Entries). e.whole) next) ∙ W.whole;
            pieces = pieces_go W.pieces (words_of kind (drop at octets)) (entries_of kind (drop (at + size) octets)).words next_words new to (to + width)
                (omega arith) (omega (arith, words_wide kind (drop at octets), wide)) e;
          }

    pub words_fit : to + width_of kind ≤ length out
    words_fit = words_room refl
