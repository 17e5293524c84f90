-- Lists of octets: their parts, and that the words of octets give the octets back. Assumes nothing.
use mathlib.Core.Path.{◌≡◌, refl, ap, ◌∙◌}
use mathlib.Core.List.{List, [], ◌∷◌}
use Prim.Native.Nat.{ℕ, zero, suc, ◌+◌, ◌*◌, ◌/◌, ◌%◌, ◌<◌}
use native.Mathlib.Omega.{arith}
use lib.ListN.{length, get_or, take, drop}
use Rattle.ground.specs.Words.{Octs, half_of, word_of, word_at, six_octets, six_at, words, octets_of}
use Rattle.ground.specs.Words.Octs.{no_octets, octet}

pub octs_take : (n : ℕ) {s : List ℕ} → Octs s → Octs (take n s)
octs_take zero o = no_octets
octs_take (suc n) no_octets = no_octets
octs_take (suc n) (octet h o) = octet h (octs_take n o)

pub octs_drop : (n : ℕ) {s : List ℕ} → Octs s → Octs (drop n s)
octs_drop zero o = o
octs_drop (suc n) no_octets = no_octets
octs_drop (suc n) (octet h o) = octs_drop n o

pub octets_words : {s : List ℕ} (n : ℕ) → Octs s → length s ≡ n * 4 → octets_of (words s) ≡ s
unfolding octets_of words
octets_words n no_octets l = refl
octets_words n (octet a no_octets) l = absurd (let z : ⊥ = omega arith in z)
octets_words n (octet a (octet b no_octets)) l = absurd (let z : ⊥ = omega arith in z)
octets_words n (octet a (octet b (octet c no_octets))) l = absurd (let z : ⊥ = omega arith in z)
octets_words zero (octet a (octet b (octet c (octet d o)))) l = absurd (let z : ⊥ = omega arith in z)
octets_words (suc n) (octet {x = a} ha (octet {x = b} hb (octet {x = c} hc (octet {x = d} hd o)))) l =
    let e0 : word_of a b c d % 256 ≡ a = omega arith in
    let f1 : word_of a b c d / 256 ≡ b + c * 256 + d * 65536 = omega arith in
    let f2 : word_of a b c d / 65536 ≡ c + d * 256 = omega arith in
    let g1 : (b + c * 256 + d * 65536) % 256 ≡ b = omega arith in
    let g2 : (c + d * 256) % 256 ≡ c = omega arith in
    let e1 : word_of a b c d / 256 % 256 ≡ b = ap (λ (y : ℕ). y % 256) f1 ∙ g1 in
    let e2 : word_of a b c d / 65536 % 256 ≡ c = ap (λ (y : ℕ). y % 256) f2 ∙ g2 in
    let e3 : word_of a b c d / 16777216 ≡ d = omega arith in
    λ i. e0 i ∷ e1 i ∷ e2 i ∷ e3 i ∷ octets_words n o (omega arith) i

-- the elements of a slice are octets, and behind its end stands 0
pub octs_of : (s : List ℕ) → ((i : ℕ) → get_or s i 0 < 256) → Octs s
octs_of [] o = no_octets
octs_of (x ∷ s) o = octet (o 0) (octs_of s (λ i. o (suc i)))

-- six octets are the octets of the number that they make
pub six_octets_lem : {s : List ℕ} → Octs s → length s ≡ 6 → six_octets (six_at s 0) ≡ s
unfolding six_octets six_at word_at
six_octets_lem no_octets l = absurd (let z : ⊥ = omega arith in z)
six_octets_lem (octet a no_octets) l = absurd (let z : ⊥ = omega arith in z)
six_octets_lem (octet a (octet b no_octets)) l = absurd (let z : ⊥ = omega arith in z)
six_octets_lem (octet a (octet b (octet c no_octets))) l = absurd (let z : ⊥ = omega arith in z)
six_octets_lem (octet a (octet b (octet c (octet d no_octets)))) l = absurd (let z : ⊥ = omega arith in z)
six_octets_lem (octet a (octet b (octet c (octet d (octet e no_octets))))) l = absurd (let z : ⊥ = omega arith in z)
six_octets_lem (octet a (octet b (octet c (octet d (octet e (octet f (octet g o))))))) l = absurd (let z : ⊥ = omega arith in z)
six_octets_lem (octet {x = a} ha (octet {x = b} hb (octet {x = c} hc (octet {x = d} hd (octet {x = e} he (octet {x = f} hf no_octets)))))) l =
    let n : ℕ = word_of a b c d + half_of e f * 4294967296 in
    let f1 : n / 256 ≡ b + c * 256 + d * 65536 + e * 16777216 + f * 4294967296 = omega arith in
    let f2 : n / 65536 ≡ c + d * 256 + e * 65536 + f * 16777216 = omega arith in
    let f3 : n / 16777216 ≡ d + e * 256 + f * 65536 = omega arith in
    let f4 : n / 4294967296 ≡ e + f * 256 = omega arith in
    let f5 : n / 1099511627776 ≡ f = omega arith in
    let g0 : n % 256 ≡ a = omega arith in
    let g1 : (b + c * 256 + d * 65536 + e * 16777216 + f * 4294967296) % 256 ≡ b = omega arith in
    let g2 : (c + d * 256 + e * 65536 + f * 16777216) % 256 ≡ c = omega arith in
    let g3 : (d + e * 256 + f * 65536) % 256 ≡ d = omega arith in
    let g4 : (e + f * 256) % 256 ≡ e = omega arith in
    let g5 : f % 256 ≡ f = omega arith in
    let low : (x y z : ℕ) → x ≡ y → y % 256 ≡ z → x % 256 ≡ z = λ x y z p q. ap (λ (w : ℕ). w % 256) p ∙ q in
    λ i. g0 i ∷ low _ _ _ f1 g1 i ∷ low _ _ _ f2 g2 i ∷ low _ _ _ f3 g3 i ∷ low _ _ _ f4 g4 i ∷ low _ _ _ f5 g5 i ∷ []
