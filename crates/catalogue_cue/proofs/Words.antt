-- Words at the front of a line, and what the first octet tells. Assumes nothing.
use mathlib.Core.Path.{◌≡◌, refl, sym}
use mathlib.Core.Bool.{Bool, true, false, ◌&&◌, ◌||◌}
use mathlib.Core.List.{List, [], ◌∷◌}
use Prim.Native.Nat.{ℕ}
use native.Mathlib.Omega.{arith}
use borrow.Author.Tests.{ne_eqb}
use lib.Dec.{eqb}
use Rattle.std.specs.Prelude.{nat_eq}
use Rattle.std.specs.List.{starts_with}
use Rattle.std.proofs.lemmas.Cmp.{nat_eq_equiv}
use lib.ListN.{length, get_or}
use Rattle.ground.specs.Cases.{pick}
use Rattle.catalogue_cue.specs.Sheet.{octets, begins, is_other_index, is_passed}

-- `starts_with` at octets is `begins`
pub starts_begins : (word line : List ℕ) → starts_with nat_eq line word ≡ begins word line
unfolding begins
starts_begins [] line = refl
starts_begins (w ∷ word) [] = refl
starts_begins (w ∷ word) (x ∷ line) = λ i. nat_eq_equiv.symm w x i && starts_begins word line i

-- what the first octet leaves of the words that are passed over
abbrev pub left_by : ℕ → List ℕ → Bool
left_by first line =
    eqb (length line) 0
    || pick (eqb first 73) (is_other_index line) false
    || pick (eqb first 82) (begins (octets "REM") line) false
    || pick (eqb first 84) (begins (octets "TITLE") line) false
    || pick (eqb first 80) (begins (octets "PERFORMER") line) false
    || pick (eqb first 70) (begins (octets "FILE") line) false
    || pick (eqb first 84) (begins (octets "TRACK") line) false

module _ (line : List ℕ) (first : ℕ) (e : get_or line 0 0 ≡ first) where
  other : (w : ℕ) (word : List ℕ) → eqb first w ≡ false → begins (w ∷ word) line ≡ false
  unfolding begins
  other w word f = by line e
    where
      by : (l : List ℕ) → get_or l 0 0 ≡ first → begins (w ∷ word) l ≡ false
      by [] h = refl
      by (x ∷ l) h = rw (h, f)

  word_by : (w : ℕ) (word : List ℕ) → begins (w ∷ word) line ≡ pick (eqb first w) (begins (w ∷ word) line) false
  word_by w word = by (eqb first w) refl
    where
      by : (t : Bool) → eqb first w ≡ t → begins (w ∷ word) line ≡ pick t (begins (w ∷ word) line) false
      by true f = refl
      by false f = other w word f

  index_by : is_other_index line ≡ pick (eqb first 73) (is_other_index line) false
  unfolding is_other_index
  index_by = by (eqb first 73) refl
    where
      by : (t : Bool) → eqb first 73 ≡ t → is_other_index line ≡ pick t (is_other_index line) false
      by true f = refl
      by false f = rw (other 73 (octets "NDEX ") f)

  pub passed_by : is_passed line ≡ left_by first line
  unfolding is_passed
  passed_by =
      λ i.
      eqb (length line) 0
      || index_by i
      || word_by 82 (octets "EM") i
      || word_by 84 (octets "ITLE") i
      || word_by 80 (octets "ERFORMER") i
      || word_by 70 (octets "ILE") i
      || word_by 84 (octets "RACK") i

  pub filled_line : (first ≡ 0 → ⊥) → eqb (length line) 0 ≡ false
  filled_line h = by line e
    where
      by : (l : List ℕ) → get_or l 0 0 ≡ first → eqb (length l) 0 ≡ false
      by [] k = absurd (h (sym k))
      by (x ∷ l) k = ne_eqb (length (x ∷ l)) 0 (λ q. omega arith)
