-- Parts of one kind, one behind the other: their octets, and what is read out of them. Assumes nothing.
use mathlib.Core.Path.{◌≡◌, refl, ap, sym, ◌∙◌}
use mathlib.Core.List.{List, [], ◌∷◌, ◌++◌, append_assoc, append-nil}
use Prim.Native.Nat.{ℕ, zero, suc, ◌+◌, ◌*◌, ◌<◌}
use native.Mathlib.Nat.{add_assoc, add-zero, add_comm, zero-mul, suc-mul, add-sub_cancel_left}
use native.Mathlib.Omega.{arith}
use lib.ListN.{length, get_or, take, drop, length-append}
use lib.Seq.{take_at, drop_at, take-add, drop-drop}
use Rattle.ground.specs.Lists.{part}
use Rattle.mcs_state.specs.Codec.{each_from, each_octets, Kept}

-- each is read again out of what is written of it
pub data AllKept {A : Type 0} (read : List ℕ → A) (write : A → List ℕ) (size : ℕ) : List A → Type 0 where
  none : AllKept read write size []
  more : {x : A} {xs : List A} → Kept read write size x → AllKept read write size xs → AllKept read write size (x ∷ xs)

-- n parts of s from the place at on are each what is written of what they mean
pub data AllPlain {A : Type 0} (read : List ℕ → A) (write : A → List ℕ) (size : ℕ) (s : List ℕ) : ℕ → ℕ → Type 0 where
  over : {at : ℕ} → AllPlain read write size s at 0
  onward : {at n : ℕ} → write (read (part s at (at + size))) ≡ part s at (at + size) → AllPlain read write size s (at + size) n → AllPlain read write size s at (suc n)

-- a part, by its size
sized : (s : List ℕ) (at size : ℕ) → part s at (at + size) ≡ take size (drop at s)
sized s at size = ap (λ (k : ℕ). take k (drop at s)) (add-sub_cancel_left at size)

module _ {A : Type 0} (read : List ℕ → A) (write : A → List ℕ) (size : ℕ) where
  pub each_long : {xs : List A} → AllKept read write size xs → length (each_octets write xs) ≡ length xs * size
  each_long none = sym (zero-mul size)
  each_long (more {x} {xs} k ks) =
      length-append (write x) (each_octets write xs)
      ∙ (λ i. k.long i + each_long ks i)
      ∙ add_comm size (length xs * size)
      ∙ sym (suc-mul (length xs) size)

  -- what is written behind f, and before t, is read again
  pub each_again : {xs : List A} → AllKept read write size xs → (f t : List ℕ) (at : ℕ) → length f ≡ at
      → each_from read size (f ++ (each_octets write xs ++ t)) at (length xs) ≡ xs
  each_again none f t at h = refl
  each_again (more {x} {xs} k ks) f t at h =
      let all = f ++ (write x ++ each_octets write xs ++ t) in
      let behind = append_assoc (write x) (each_octets write xs) t in
      let mine : part all at (at + size) ≡ write x =
      sized all at size
      ∙ ap (take size) (drop_at f (write x ++ each_octets write xs ++ t) at h ∙ behind)
      ∙ take_at (write x) (each_octets write xs ++ t) size k.long in
      let moved : all ≡ f ++ write x ++ (each_octets write xs ++ t) =
      ap (λ (l : List ℕ). f ++ l) behind ∙ sym (append_assoc f (write x) (each_octets write xs ++ t)) in
      let rest : each_from read size all (at + size) (length xs) ≡ xs =
      ap (λ (l : List ℕ). each_from read size l (at + size) (length xs)) moved
      ∙ each_again ks (f ++ write x) t (at + size) (length-append f (write x) ∙ (λ i. h i + k.long i)) in
      λ i. (ap read mine ∙ k.back) i ∷ rest i

  -- what is written of the parts that are read is the octets themselves
  pub each_plain : (s : List ℕ) (at n : ℕ) → AllPlain read write size s at n → each_octets write (each_from read size s at n) ≡ take (n * size) (drop at s)
  each_plain s at zero over = sym (ap (λ (k : ℕ). take k (drop at s)) (zero-mul size))
  each_plain s at (suc n) (onward p ps) =
      (λ i. (p ∙ sized s at size) i ++ (each_plain s (at + size) n ps ∙ ap (take (n * size)) (sym (drop-drop size at s))) i)
      ∙ sym (take-add size (n * size) (drop at s))
      ∙ ap (λ (k : ℕ). take k (drop at s)) (add_comm size (n * size) ∙ sym (suc-mul n size))

-- the part at place i is read out of its octets
pub each_at : {A : Type 0} (read : List ℕ → A) (size : ℕ) (blank : A) (s : List ℕ) (at n i : ℕ) → i < n
    → get_or (each_from read size s at n) i blank ≡ read (part s (at + i * size) (at + i * size + size))
each_at read size blank s at zero i h = absurd (let z : ⊥ = omega (arith, h) in z)
each_at read size blank s at (suc n) zero h = ap (λ (k : ℕ). read (part s k (k + size))) (let z : at ≡ at + zero * size = sym (ap (λ (k : ℕ). at + k) (zero-mul size) ∙ add-zero at) in z)
each_at read size blank s at (suc n) (suc i) h =
    each_at read size blank s (at + size) n i (omega (arith, h))
    ∙ ap (λ (k : ℕ). read (part s k (k + size))) (add_assoc at size (i * size) ∙ ap (λ (k : ℕ). at + k) (add_comm size (i * size) ∙ sym (suc-mul i size)))

-- the octets of each, laid one after the other behind f
module _ {A : Type 0} (write : A → List ℕ) where
  abbrev pub behind : List ℕ → List A → List ℕ
  behind f [] = f
  behind f (x ∷ xs) = behind (f ++ write x) xs

  pub behind_is : (f : List ℕ) (xs : List A) → behind f xs ≡ f ++ each_octets write xs
  behind_is f [] = sym (append-nil f)
  behind_is f (x ∷ xs) = behind_is (f ++ write x) xs ∙ append_assoc f (write x) (each_octets write xs)
