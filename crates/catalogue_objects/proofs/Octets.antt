-- Octets, or words, of things one behind the other: what two lists give, and how many there are where each gives as many. Assumes nothing.
use mathlib.Core.Path.{◌≡◌, refl, sym, ap, ◌∙◌}
use mathlib.Core.List.{List, [], ◌∷◌, ◌++◌, append_assoc, map}
use Prim.Native.Nat.{ℕ, ◌*◌}
use native.Mathlib.Nat.{zero-mul, suc-mul}
use native.Mathlib.Omega.{arith}
use lib.ListN.{length, length-append, length-map}
use Rattle.ground.specs.Words.{six_octets}
use Rattle.catalogue_objects.specs.Entries.{Member, nameless, member_octets, label_octets, all_octets}

module _ {A : Type 0} (f : A → List ℕ) where
  pub all_append : (s t : List A) → all_octets f (s ++ t) ≡ all_octets f s ++ all_octets f t
  unfolding all_octets
  all_append [] t = refl
  all_append (x ∷ s) t = ap (λ (l : List ℕ). f x ++ l) (all_append s t) ∙ sym (append_assoc (f x) (all_octets f s) (all_octets f t))

  pub all_long : (w : ℕ) → ((x : A) → length (f x) ≡ w) → (s : List A) → length (all_octets f s) ≡ length s * w
  unfolding all_octets
  all_long w each [] = sym (zero-mul w)
  all_long w each (x ∷ s) = omega (arith, length-append (f x) (all_octets f s), each x, all_long w each s, suc-mul (length s) w)

-- a record has seven octets, a label without a name five
pub member_long : (m : Member) → length (member_octets m) ≡ 7
unfolding member_octets six_octets
member_long m = refl

pub label_long : (start : ℕ) → length (label_octets (nameless start)) ≡ 5
unfolding label_octets
label_long start = refl

-- so for many of them
pub members_long : (f : ℕ → Member) (s : List ℕ) → length (all_octets member_octets (map f s)) ≡ length s * 7
members_long f s = all_long member_octets 7 member_long (map f s) ∙ ap (λ (n : ℕ). n * 7) (length-map s f)

pub labels_long : (starts : List ℕ) → length (all_octets label_octets (map nameless starts)) ≡ length starts * 5
unfolding all_octets
labels_long [] = refl
labels_long (start ∷ starts) = omega (arith, length-append (label_octets (nameless start)) (all_octets label_octets (map nameless starts)), label_long start, labels_long starts)
