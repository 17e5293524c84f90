-- What C is told is what is said, where that fits words of 32 bits. Assumes nothing.
use mathlib.Core.Path.{◌≡◌, ap, ◌∙◌}
use mathlib.Core.Bool.{Bool}
use mathlib.Core.List.{List, [], ◌∷◌}
use Prim.Native.Nat.{ℕ, zero, suc, ◌<◌}
use native.Mathlib.Omega.{arith}
use lib.Dec.{lit≤}
use lib.ListN.{get_or}
use Rattle.ground.specs.Cases.{pick}
use Rattle.ground.specs.Lists.{table_after}
use Rattle.ground.specs.Refusals.{Said}
use Rattle.mcs_told.specs.declared.Told.{Told}
use Rattle.mcs_told.specs.Calls.{AllWords, low_word, carries, carries_two, told_of, told_after, said_words, words_after, carried_after, track_after, offset_after}

-- each of numbers that are below 2^32
pub at_word : (xs : List ℕ) (i : ℕ) → AllWords xs → get_or xs i 0 < 4294967296
at_word [] i h = lit≤ tt
at_word (x ∷ xs) zero h = h.0
at_word (x ∷ xs) (suc i) h = at_word xs i h.1

pub low : (n : ℕ) → n < 4294967296 → low_word n ≡ n
low n h = omega arith

-- what is told is what is said
pub told_by_places : (on : Bool) (said : Said) (old : List ℕ) → ((i : ℕ) → get_or said.values i 0 < 4294967296)
    → told_after on (told_of said).values old ≡ told_after on (said_words said) old
told_by_places on said old h =
    let v : List ℕ = said.values in
    λ k. told_after on (low (get_or v 0 0) (h 0) k ∷ low (get_or v 1 0) (h 1) k ∷ low (get_or v 2 0) (h 2) k ∷ low (get_or v 3 0) (h 3) k ∷ []) old

pub track_as_said : (said : Said) (old : List ℕ) → AllWords said.values → told_after (told_of said).titled (told_of said).values old ≡ track_after said old
track_as_said said old h = told_by_places (carries_two said) said old (λ i. at_word said.values i h)

pub offset_as_said : (said : Said) (old : List ℕ) → AllWords said.values
    → told_after (told_of said).carries (pick (told_of said).titled (get_or (told_of said).values 1 0) (get_or (told_of said).values 0 0) ∷ []) old ≡ offset_after said old
offset_as_said said old h =
    let v : List ℕ = said.values in
    λ k. told_after (carries said) (pick (carries_two said) (low (get_or v 1 0) (at_word v 1 h) k) (low (get_or v 0 0) (at_word v 0 h) k) ∷ []) old

-- the words for where a title is wrong, of what is told
pub place_as_said : (t : Told) (said : Said) → t ≡ told_of said → AllWords said.values → (track octet track' octet' : List ℕ)
    → (track' ≡ told_after t.titled t.values track) × (octet' ≡ told_after t.carries (pick t.titled (get_or t.values 1 0) (get_or t.values 0 0) ∷ []) octet)
    → (track' ≡ track_after said track) × (octet' ≡ offset_after said octet)
place_as_said t said told small track octet track' octet' e = (
  e.0 ∙ ap (λ (x : Told). told_after x.titled x.values track) told ∙ track_as_said said track small,
  e.1
      ∙ ap (λ (x : Told). told_after x.carries (pick x.titled (get_or x.values 1 0) (get_or x.values 0 0) ∷ []) octet) told
      ∙ offset_as_said said octet small,
)

pub carried_as_said : (said : Said) (old : List ℕ) → AllWords said.values → told_after (told_of said).carries (told_of said).values old ≡ carried_after said old
carried_as_said said old h = told_by_places (carries said) said old (λ i. at_word said.values i h)

pub told_as_said : (said : Said) (old : List ℕ) → AllWords said.values → told_after (told_of said).granted (told_of said).values old ≡ words_after said old
told_as_said said old h = told_by_places said.is_granted said old (λ i. at_word said.values i h)

-- what is said of an answer is said of the call
pub front_as_said : (of said : Said) → of ≡ said → (front out out' count count' : List ℕ) (n : ℕ) → out' ≡ table_after of front out
    → (n ≡ of.number) × (count' ≡ words_after of count) → (n ≡ said.number) × ((out' ≡ table_after said front out) × (count' ≡ words_after said count))
front_as_said of said told front out out' count count' n put e = (
  e.0 ∙ ap (λ (x : Said). x.number) told,
  (put ∙ ap (λ (x : Said). table_after x front out) told, e.1 ∙ ap (λ (x : Said). words_after x count) told),
)
