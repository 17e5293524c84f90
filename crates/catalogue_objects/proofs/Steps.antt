-- Entries read one by one: what stands in front of others, and what is left behind it. Assumes nothing.
use mathlib.Core.Path.{◌≡◌, refl, sym, ap, ◌∙◌}
use mathlib.Core.Bool.{Bool, true, false}
use mathlib.Core.List.{List, [], ◌∷◌}
use Prim.Native.Nat.{ℕ, zero, suc, ◌+◌, ◌*◌, ◌≤◌, ◌<◌}
use native.Mathlib.Nat.{zero-mul, suc-mul}
use native.Mathlib.Omega.{arith}
use borrow.Author.Tests.{eq-eqb, ne_eqb, lt-leb, le-leb, leb-true}
use lib.Dec.{leb}
use lib.ListN.{length, drop, length-append, length-drop}
use lib.Seq.{drop-drop}
use Rattle.ground.specs.Cases.{pick}
use Rattle.ground.proofs.Cases.{past, clash, and_left, and_right}
use Rattle.catalogue_objects.specs.declared.Kind.{Kind}
use Rattle.catalogue_objects.specs.declared.Kind.TheVariants.{Group, Segments}
use Rattle.catalogue_objects.specs.Reading.{size_of, is_sound, is_entry, words_of, width_of, Entries, no_entries, behind, is_empty, entries_in, entries_of}

-- an entry has octets
pub some_octets : (kind : Kind) (s : List ℕ) → 0 < size_of kind s
some_octets Group s = omega arith
some_octets Segments s = omega arith

-- and it is read into as many words as its kind has
pub words_wide : (kind : Kind) (s : List ℕ) → length (words_of kind s) ≡ width_of kind
unfolding words_of
words_wide Group s = refl
words_wide Segments s = refl

module _ (kind : Kind) where
  shorter : (n : ℕ) (s : List ℕ) → length s ≤ suc n → length (drop (size_of kind s) s) ≤ n
  shorter n s h = omega (arith, some_octets kind s, length-drop (size_of kind s) s)

  no_octets : (s : List ℕ) → length s ≤ 0 → is_empty s ≡ true
  no_octets s h = let z : length s ≡ 0 = omega arith in eq-eqb _ _ z

  -- any bound on the number of entries that is high enough gives the same
  enough : (n m : ℕ) (s : List ℕ) → length s ≤ n → length s ≤ m → entries_in kind n s ≡ entries_in kind m s
  unfolding entries_in
  enough zero zero s h k = refl
  enough zero (suc m) s h k = rw (no_octets s h)
  enough (suc n) zero s h k = rw (no_octets s k)
  enough (suc n) (suc m) s h k =
      ap (λ (e : Entries). pick (is_empty s) (no_entries true) (pick (is_entry kind s) (behind (words_of kind s) e) (no_entries false)))
      (enough n m (drop (size_of kind s) s) (shorter n s h) (shorter m s k))

  pub entries_end : (s : List ℕ) → s ≡ [] → entries_of kind s ≡ no_entries true
  unfolding entries_of entries_in
  entries_end s e = ap (entries_of kind) e

  pub entries_open : (s : List ℕ) → 0 < length s
      → entries_of kind s ≡ pick (is_entry kind s) (behind (words_of kind s) (entries_of kind (drop (size_of kind s) s))) (no_entries false)
  unfolding entries_of entries_in
  entries_open [] h = absurd (omega arith)
  entries_open (x ∷ t) h =
      let s = x ∷ t in
      let rest = drop (size_of kind s) s in
      sym
      (past (no_entries true) (ne_eqb (length s) 0 (λ q. omega arith))
      (ap (λ (e : Entries). pick (is_entry kind s) (behind (words_of kind s) e) (no_entries false))
      (enough (length rest) (length t) rest (omega arith) (shorter (length t) s (omega arith)))))

  module _ (s : List ℕ) (some : 0 < length s) where
    pub entries_next : is_entry kind s ≡ true → entries_of kind s ≡ behind (words_of kind s) (entries_of kind (drop (size_of kind s) s))
    entries_next e = entries_open s some ∙ rw e

    pub entries_stop : is_entry kind s ≡ false → entries_of kind s ≡ no_entries false
    entries_stop e = entries_open s some ∙ rw e

    pub whole_next : (entries_of kind s).whole ≡ true → is_entry kind s ≡ true
    whole_next w = by (is_entry kind s) refl
      where
        by : (t : Bool) → is_entry kind s ≡ t → t ≡ true
        by true e = refl
        by false e = clash (sym (ap (λ (x : Entries). x.whole) (entries_stop e)) ∙ w)

  -- the words of all entries
  abbrev Even : Entries → Type 0
  Even e = length e.words ≡ e.count * width_of kind

  none_even : (whole : Bool) → Even (no_entries whole)
  none_even whole = sym (zero-mul (width_of kind))

  words_in : (n : ℕ) (s : List ℕ) → Even (entries_in kind n s)
  unfolding entries_in
  words_in zero s = none_even (is_empty s)
  words_in (suc n) s = by (is_empty s) (is_entry kind s) (entries_in kind n (drop (size_of kind s) s)) (words_in n (drop (size_of kind s) s))
    where
      by : (t u : Bool) (rest : Entries) → Even rest → Even (pick t (no_entries true) (pick u (behind (words_of kind s) rest) (no_entries false)))
      by true u rest even = none_even true
      by false true rest even = omega (arith, length-append (words_of kind s) rest.words, words_wide kind s, even, suc-mul rest.count (width_of kind))
      by false false rest even = none_even false

  pub words_long : (s : List ℕ) → length (entries_of kind s).words ≡ (entries_of kind s).count * width_of kind
  unfolding entries_of
  words_long s = words_in (length s) s

-- whether a whole entry stands in front, by whether its octets do
pub too_short : (kind : Kind) (s : List ℕ) → length s < size_of kind s → is_entry kind s ≡ false
unfolding is_entry
too_short kind s h = rw (lt-leb (size_of kind s) (length s) h)

pub long_enough : (kind : Kind) (s : List ℕ) → size_of kind s ≤ length s → is_entry kind s ≡ is_sound kind s
unfolding is_entry
long_enough kind s h = rw (le-leb (size_of kind s) (length s) h)

pub entry_fits : (kind : Kind) (s : List ℕ) → is_entry kind s ≡ true → size_of kind s ≤ length s
unfolding is_entry
entry_fits kind s e = leb-true _ _ (and_left (leb (size_of kind s) (length s)) (is_sound kind s) e)

pub entry_sound : (kind : Kind) (s : List ℕ) → is_entry kind s ≡ true → is_sound kind s ≡ true
unfolding is_entry
entry_sound kind s e = and_right (leb (size_of kind s) (length s)) (is_sound kind s) e

-- the entry at a place, and what is left behind it
module _ (kind : Kind) (octets : List ℕ) (at : ℕ) (in-octets : at < length octets) where
  pub some_left : 0 < length (drop at octets)
  some_left = omega (arith, length-drop at octets)

  module _ (is : is_entry kind (drop at octets) ≡ true) (size : ℕ) (long : size ≡ size_of kind (drop at octets)) where
    pub entry_inside : at + size ≤ length octets
    entry_inside = omega (arith, length-drop at octets, entry_fits kind (drop at octets) is)

    pub left_behind : entries_of kind (drop at octets) ≡ behind (words_of kind (drop at octets)) (entries_of kind (drop (at + size) octets))
    left_behind =
        let s = drop at octets in
        entries_next kind s some_left is
        ∙ ap (λ (rest : List ℕ). behind (words_of kind s) (entries_of kind rest)) (drop-drop (size_of kind s) at octets ∙ ap (λ (k : ℕ). drop (at + k) octets) (sym long))
