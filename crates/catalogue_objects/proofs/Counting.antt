-- A loop that counts entries: what is left is whole exactly where all is, and what is counted and what is left make up all. Assumes nothing.
use mathlib.Core.Path.{◌≡◌, sym, ap, ◌∙◌}
use mathlib.Core.Bool.{true, false}
use mathlib.Core.List.{List}
use Prim.Native.Nat.{ℕ, ◌+◌, ◌<◌, ◌≤◌}
use native.Mathlib.Omega.{arith}
use lib.ListN.{length, drop, drop_of_length-le}
use Rattle.catalogue_objects.specs.declared.Kind.{Kind}
use Rattle.catalogue_objects.specs.Reading.{size_of, is_entry, Entries, no_entries, entries_of}
use Rattle.catalogue_objects.proofs.Steps.{entries_end, some_left, entries_stop, left_behind}

pub record Counting (kind : Kind) (octets : List ℕ) (at count : ℕ) : Type 0 where
  pub whole : (entries_of kind (drop at octets)).whole ≡ (entries_of kind octets).whole
  pub total : count + (entries_of kind (drop at octets)).count ≡ (entries_of kind octets).count

module _ {kind : Kind} {octets : List ℕ} {at count : ℕ} (C : Counting kind octets at count) where
  -- at the end all are whole, and are counted
  pub counting_ends : length octets ≤ at → ((entries_of kind octets).whole ≡ true) × (count ≡ (entries_of kind octets).count)
  counting_ends h =
      let none = entries_end kind _ (drop_of_length-le octets h) in
      (sym C.whole ∙ ap (λ (e : Entries). e.whole) none, omega (arith, ap (λ (e : Entries). e.count) none, C.total))

  -- what is left is not whole
  pub counting_broken : entries_of kind (drop at octets) ≡ no_entries false → (entries_of kind octets).whole ≡ false
  counting_broken e = sym C.whole ∙ ap (λ (e : Entries). e.whole) e

  module _ (below : at < length octets) where
    pub counting_stops : is_entry kind (drop at octets) ≡ false → (entries_of kind octets).whole ≡ false
    counting_stops e = counting_broken (entries_stop kind (drop at octets) (some_left kind octets at below) e)

    pub counting_goes : is_entry kind (drop at octets) ≡ true → {size : ℕ} → size ≡ size_of kind (drop at octets) → Counting kind octets (at + size) (count + 1)
    counting_goes is {size} long =
        let next = left_behind kind octets at below is size long in
        record {
          whole = sym (ap (λ (e : Entries). e.whole) next) ∙ C.whole;
          total = omega (arith, ap (λ (e : Entries). e.count) next, C.total);
        }
