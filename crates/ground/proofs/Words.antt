-- Laws of `words` and `octets_of`: how many there are, the word at a place, and that the octets of words are those words again. Assumes nothing.
use Prim.Native.Nat.{ℕ, zero, suc, ◌+◌, ◌*◌, ◌/◌, ◌%◌, ◌≤◌, ◌<◌, zero-le, suc-le-suc}
use mathlib.Core.Path.{◌≡◌, refl, sym, ap, ◌∙◌}
use mathlib.Core.List.{List, [], ◌∷◌, ◌++◌}
use native.Mathlib.Nat.{add_assoc}
use native.Mathlib.Numerals.{add-one}
use native.Mathlib.Omega.{arith}
use lib.ListN.{length, get_or, take, drop}
use lib.Seq.{get_or-drop, length-take-le, take-length, take-nil, take-suc}
use Rattle.ground.specs.Words.{word_of, half_at, word_at, six_octets, six_at, words, octets_of_word, octets_of}

-- a word that starts four octets further on
word_past : (a b c d : ℕ) (s : List ℕ) (k : ℕ) → word_at (a ∷ b ∷ c ∷ d ∷ s) (k + 4) ≡ word_at s k
unfolding word_at
word_past a b c d s k =
    let e0 : k + 4 ≡ suc (suc (suc (suc k))) = omega arith in
    let e1 : k + 4 + 1 ≡ suc (suc (suc (suc (k + 1)))) = omega arith in
    let e2 : k + 4 + 2 ≡ suc (suc (suc (suc (k + 2)))) = omega arith in
    let e3 : k + 4 + 3 ≡ suc (suc (suc (suc (k + 3)))) = omega arith in
    rw (e1, e2, e3, e0)

-- of 4 n octets there are n words
pub words_length : (s : List ℕ) (n : ℕ) → n * 4 ≤ length s → n ≤ length (words s)
unfolding words
words_length s zero h = zero-le
words_length [] (suc n) h = omega arith
words_length (a ∷ []) (suc n) h = omega arith
words_length (a ∷ b ∷ []) (suc n) h = omega arith
words_length (a ∷ b ∷ c ∷ []) (suc n) h = omega arith
words_length (a ∷ b ∷ c ∷ d ∷ s) (suc n) h = suc-le-suc (words_length s n (omega arith))

pub words_at : (s : List ℕ) (i : ℕ) → i * 4 + 4 ≤ length s → get_or (words s) i 0 ≡ word_at s (i * 4)
unfolding words word_at
words_at [] i h = omega arith
words_at (a ∷ []) i h = omega arith
words_at (a ∷ b ∷ []) i h = omega arith
words_at (a ∷ b ∷ c ∷ []) i h = omega arith
words_at (a ∷ b ∷ c ∷ d ∷ s) zero h = refl
words_at (a ∷ b ∷ c ∷ d ∷ s) (suc i) h =
    let e : suc i * 4 ≡ i * 4 + 4 = omega arith in
    words_at s i (omega arith) ∙ sym (rw (e, word_past a b c d s (i * 4)))

-- a word of what is left behind a place
pub word_drop : (s : List ℕ) (f k : ℕ) → word_at (drop f s) k ≡ word_at s (f + k)
unfolding word_at
word_drop s f k = simp (get_or-drop, add_assoc)

-- the words of the first j octets are the first j / 4 words
pub words_take_lem : (j : ℕ) (s : List ℕ) → words (take j s) ≡ take (j / 4) (words s)
unfolding words
words_take_lem zero s = refl
words_take_lem (suc zero) [] = refl
words_take_lem (suc zero) (a ∷ s) = refl
words_take_lem (suc (suc zero)) [] = refl
words_take_lem (suc (suc zero)) (a ∷ []) = refl
words_take_lem (suc (suc zero)) (a ∷ b ∷ s) = refl
words_take_lem (suc (suc (suc zero))) [] = refl
words_take_lem (suc (suc (suc zero))) (a ∷ []) = refl
words_take_lem (suc (suc (suc zero))) (a ∷ b ∷ []) = refl
words_take_lem (suc (suc (suc zero))) (a ∷ b ∷ c ∷ s) = refl
words_take_lem (suc (suc (suc (suc j)))) [] = sym (take-nil (suc (suc (suc (suc j))) / 4))
words_take_lem (suc (suc (suc (suc j)))) (a ∷ []) = sym (take-nil (suc (suc (suc (suc j))) / 4))
words_take_lem (suc (suc (suc (suc j)))) (a ∷ b ∷ []) = sym (take-nil (suc (suc (suc (suc j))) / 4))
words_take_lem (suc (suc (suc (suc j)))) (a ∷ b ∷ c ∷ []) = sym (take-nil (suc (suc (suc (suc j))) / 4))
words_take_lem (suc (suc (suc (suc j)))) (a ∷ b ∷ c ∷ d ∷ s) =
    let e : suc (suc (suc (suc j))) / 4 ≡ suc (j / 4) = omega arith in
    rw e (ap (λ (l : List ℕ). word_of a b c d ∷ l) (words_take_lem j s))

-- all words that octets make, and how many they are
pub words_whole : (s : List ℕ) → take (length s / 4) (words s) ≡ words s
words_whole s = sym (words_take_lem (length s) s) ∙ ap words (take-length s)

pub words_count : (s : List ℕ) → length (words s) ≡ length s / 4
words_count s =
    let h : length s / 4 * 4 ≤ length s = omega arith in
    sym (ap length (words_whole s)) ∙ length-take-le (length s / 4) (words s) (words_length s (length s / 4) h)

pub octets_append : (s t : List ℕ) → octets_of (s ++ t) ≡ octets_of s ++ octets_of t
unfolding octets_of
octets_append [] t = refl
octets_append (w ∷ s) t = ap (λ (l : List ℕ). octets_of_word w ++ l) (octets_append s t)

-- one word more
pub octets_more : (s : List ℕ) (i : ℕ) → i < length s → octets_of (take (i + 1) s) ≡ octets_of (take i s) ++ octets_of_word (get_or s i 0)
unfolding octets_of
octets_more s i h = rw (add-one i, take-suc s i 0 h) (octets_append (take i s) (get_or s i 0 ∷ []))

pub octets_length : (s : List ℕ) → length (octets_of s) ≡ length s * 4
unfolding octets_of
octets_length [] = refl
octets_length (w ∷ s) = omega (arith, octets_length s)

-- the octets of a word are that word again, and so are those of words
word_back : (w : ℕ) → word_of (w % 256) (w / 256 % 256) (w / 65536 % 256) (w / 16777216) ≡ w
word_back w = omega arith

pub words_octets : (s : List ℕ) → words (octets_of s) ≡ s
unfolding words octets_of
words_octets [] = refl
words_octets (w ∷ s) = λ i. word_back w i ∷ words_octets s i

-- the low 32 and the high 16 bits of a number of 48 bits, out of its octets
pub six_low : (n : ℕ) (r : List ℕ) → word_at (six_octets n ++ r) 0 ≡ n % 4294967296
unfolding six_octets word_at
six_low n r = by_parts (n / 4294967296) (n % 4294967296) n (omega arith) (omega arith)
  where
    past : (k x : ℕ) → (k * 256 + x) % 256 ≡ x % 256
    past k x = omega arith

    by_parts : (q w m : ℕ) → m ≡ q * 4294967296 + w → w < 4294967296 → word_of (m % 256) (m / 256 % 256) (m / 65536 % 256) (m / 16777216 % 256) ≡ w
    by_parts q w m split h =
        let a : m % 256 ≡ w % 256 = omega arith in
        let b : m / 256 ≡ q * 65536 * 256 + w / 256 = omega arith in
        let c : m / 65536 ≡ q * 256 * 256 + w / 65536 = omega arith in
        let d : m / 16777216 ≡ q * 256 + w / 16777216 = omega arith in
        let top : w / 16777216 % 256 ≡ w / 16777216 = omega arith in
        let b' = ap (λ x. x % 256) b ∙ past (q * 65536) (w / 256) in
        let c' = ap (λ x. x % 256) c ∙ past (q * 256) (w / 65536) in
        let d' = ap (λ x. x % 256) d ∙ past q (w / 16777216) ∙ top in
        (λ i. word_of (a i) (b' i) (c' i) (d' i)) ∙ word_back w

pub six_high : (n : ℕ) (r : List ℕ) → n < 281474976710656 → half_at (six_octets n ++ r) 4 ≡ n / 4294967296
unfolding six_octets
six_high n r h = omega arith

-- the number of six octets is the number again
pub six_back : (n : ℕ) (r : List ℕ) → n < 281474976710656 → six_at (six_octets n ++ r) 0 ≡ n
unfolding six_at
six_back n r h =
    let low = six_low n r in
    let high = six_high n r h in
    omega arith

-- so numbers with the same octets are the same
pub six_same : (n m : ℕ) → n < 281474976710656 → m < 281474976710656 → six_octets n ≡ six_octets m → n ≡ m
six_same n m hn hm same = sym (six_back n [] hn) ∙ ap (λ s. six_at (s ++ []) 0) same ∙ six_back m [] hm
