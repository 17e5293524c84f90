-- A loop that stores f of each element of an array over it, from the front, as over the four clients: the invariant is `out ≡ up_to f 0 i out₀`.
-- Assumes nothing.
use mathlib.Core.Path.{◌≡◌, refl, ap, sym, ◌∙◌}
use mathlib.Core.List.{List, [], ◌∷◌, ◌++◌, map, append_assoc}
use Prim.Native.Nat.{ℕ, zero, suc, ◌+◌, ◌≤◌, ◌<◌}
use native.Mathlib.Nat.{add-zero, add-suc, suc-add, zero-add, le_of_suc-le-suc, not-suc-le-zero}
use native.Mathlib.Numerals.{add-one}
use native.Mathlib.Omega.{arith}
use lib.ListN.{length, get_or, set, take, drop, length-take}
use lib.Seq.{drop-cons, drop-length, take-suc, take-length, set_at}
use Rattle.ground.specs.Lists.{map_from}

module _ {A : Type 0} (f : ℕ → A → A) where
  -- f over the first k elements, the first of which has the place i
  abbrev pub up_to : ℕ → ℕ → List A → List A
  up_to i zero xs = xs
  up_to i (suc k) [] = []
  up_to i (suc k) (x ∷ xs) = f i x ∷ up_to (suc i) k xs

  reads : (i k : ℕ) (xs : List A) (d : A) → get_or (up_to i k xs) k d ≡ get_or xs k d
  reads i zero xs d = refl
  reads i (suc k) [] d = refl
  reads i (suc k) (x ∷ xs) d = reads (suc i) k xs d

  steps : (i k : ℕ) (xs : List A) (d : A) → k < length xs → set (up_to i k xs) k (f (i + k) (get_or xs k d)) ≡ up_to i (suc k) xs
  steps i k [] d h = absurd (not-suc-le-zero h)
  steps i zero (x ∷ xs) d h = ap (λ (n : ℕ). f n x ∷ xs) (add-zero i)
  steps i (suc k) (x ∷ xs) d h =
      ap (λ (l : List A). f i x ∷ l)
      (ap (λ (n : ℕ). set (up_to (suc i) k xs) k (f n (get_or xs k d))) (add-suc i k ∙ sym (suc-add i k))
      ∙ steps (suc i) k xs d (le_of_suc-le-suc h))

  ends : (i k : ℕ) (xs : List A) → length xs ≤ k → up_to i k xs ≡ map_from f i xs
  ends i zero [] h = refl
  ends i zero (x ∷ xs) h = absurd (not-suc-le-zero h)
  ends i (suc k) [] h = refl
  ends i (suc k) (x ∷ xs) h = ap (λ (l : List A). f i x ∷ l) (ends (suc i) k xs (le_of_suc-le-suc h))

  -- a turn of the loop: what is stored at k is f of what was read there
  pub turn : (k : ℕ) (xs out : List A) (d r : A) → k < length xs → out ≡ up_to 0 k xs → r ≡ f k (get_or out k d) → set out k r ≡ up_to 0 (k + 1) xs
  turn k xs out d r h o e =
      rw (e, o, reads 0 k xs d, add-one)
      (ap (λ (n : ℕ). set (up_to 0 k xs) k (f n (get_or xs k d))) (sym (zero-add k)) ∙ steps 0 k xs d h)

  -- the loop's end
  pub swept : (k : ℕ) (xs out : List A) → length xs ≤ k → out ≡ up_to 0 k xs → out ≡ map_from f 0 xs
  swept k xs out h o = o ∙ ends 0 k xs h

-- the n elements from the place i on, spelled out: at numerals it computes to a list of `get_or`s
module _ {A : Type 0} (d : A) (xs : List A) where
  abbrev pub spell : ℕ → ℕ → List A
  spell i zero = []
  spell i (suc n) = get_or xs i d ∷ spell (suc i) n

  pub spelled : (i n : ℕ) → length xs ≡ i + n → spell i n ≡ drop i xs
  spelled i zero h =
      let e : length xs ≡ i = omega arith in
      sym (rw e at (drop-length xs))
  spelled i (suc n) h =
      let k : i < length xs = omega arith in
      rw (drop-cons xs i d) (ap (λ (l : List A). get_or xs i d ∷ l) (spelled (suc i) n (omega arith)))

-- a loop that copies s over the front of d: after i turns
module _ {A : Type 0} (s d : List A) where
  abbrev pub copied : ℕ → List A
  copied i = take i s ++ drop i d

  pub copy_turn : (i : ℕ) (out : List A) (e : A) → i < length s → i < length d → out ≡ copied i → set out i (get_or s i e) ≡ copied (i + 1)
  copy_turn i out e h k o =
      let f : length (take i s) ≡ i = simp length-take (omega arith) in
      rw (o, drop-cons d i e)
      (rw (set_at (take i s) (get_or d i e) (drop (suc i) d) (get_or s i e) i f, add-one i, take-suc s i e, append_assoc))

  pub copy_end : (i : ℕ) (out : List A) → i ≡ length s → out ≡ copied i → out ≡ s ++ drop (length s) d
  copy_end i out h o = rw (o, h, take-length)

-- The length of a field that is an array of structs. What owning the struct tells is the length of the mapped list, which is the same.
pub long_mapped : (X Y : Type 0) (f : X → Y) (l : List X) (n : ℕ) → length (map f l) ≡ n → length l ≡ n
long_mapped X Y f l n h = sym (long l) ∙ h
  where
    long : (k : List X) → length (map f k) ≡ length k
    long [] = refl
    long (x ∷ k) = ap suc (long k)
