-- Laws of `laid`: a store, two stores, a part that is written, and one list laid directly behind another. Assumes nothing.
use mathlib.Core.Path.{◌≡◌, sym, ap, ◌∙◌}
use mathlib.Core.List.{List, [], ◌∷◌, ◌++◌, append_assoc}
use Prim.Native.Nat.{ℕ, suc, ◌+◌, ◌-◌, ◌≤◌, ◌<◌}
use native.Mathlib.Nat.{add-zero, zero-add}
use native.Mathlib.Numerals.{add-one}
use native.Mathlib.Omega.{arith}
use borrow.Rule.Slice.PartMut.{put_mid}
use lib.ListN.{length, set, take, drop, length-append, length-take, length-drop, take-append-drop}
use lib.Seq.{length-take-le, take_at, drop_at, drop-drop, set_split, sets-eq}
use Rattle.ground.specs.Lists.{filled, laid}

module _ {A : Type 0} (d : List A) where
  pub laid_nothing : (at : ℕ) → d ≡ laid d at []
  unfolding laid
  laid_nothing at = rw (add-zero at) (sym (take-append-drop at d))

  pub laid_one : (at : ℕ) (x : A) → at < length d → set d at x ≡ laid d at (x ∷ [])
  unfolding laid
  laid_one at x h = rw (add-one at) (set_split d at x h)

  pub laid_two : (at : ℕ) (a b : A) → at + 2 ≤ length d → set (set d at a) (suc at) b ≡ laid d at (a ∷ b ∷ [])
  unfolding laid
  laid_two at a b h = sets-eq (a ∷ b ∷ []) d at h ∙ append_assoc (take at d) (a ∷ b ∷ []) (drop (at + 2) d)

  module _ (at : ℕ) (s : List A) (h : at + length s ≤ length d) where
    front_long : length (take at d ++ s) ≡ at + length s
    front_long = omega (arith, length-append (take at d) s, length-take-le at d (omega arith))

    pub laid_length : length (laid d at s) ≡ length d
    unfolding laid
    laid_length =
        omega (
          arith,
          length-append (take at d) (s ++ drop (at + length s) d),
          length-append s (drop (at + length s) d),
          length-drop (at + length s) d,
          length-take-le at d (omega arith),
        )

    -- THE law: what is laid directly behind is laid with it
    pub laid_behind : (m : ℕ) (t : List A) → m ≡ at + length s → m + length t ≤ length d → laid (laid d at s) m t ≡ laid d at (s ++ t)
    unfolding laid
    laid_behind m t e k =
        let rest = drop (at + length s) d in
        let f : take at d ++ (s ++ rest) ≡ (take at d ++ s) ++ rest = sym (append_assoc (take at d) s rest) in
        let l : length (take at d ++ s) ≡ m = front_long ∙ sym e in
        let a : take m (take at d ++ (s ++ rest)) ≡ take at d ++ s = ap (take m) f ∙ take_at (take at d ++ s) rest m l in
        let n : at + length s + length t ≡ at + length (s ++ t) = omega (arith, length-append s t) in
        let b : drop (m + length t) (take at d ++ (s ++ rest)) ≡ drop (at + length (s ++ t)) d =
        sym (drop-drop (length t) m (take at d ++ (s ++ rest)))
        ∙ ap (λ (x : List A). drop (length t) (drop m x)) f
        ∙ ap (drop (length t)) (drop_at (take at d ++ s) rest m l)
        ∙ drop-drop (length t) (at + length s) d
        ∙ ap (λ (x : ℕ). drop x d) n in
        (λ i. a i ++ (t ++ b i))
        ∙ append_assoc (take at d) s (t ++ drop (at + length (s ++ t)) d)
        ∙ ap (λ (x : List A). take at d ++ x) (sym (append_assoc s t (drop (at + length (s ++ t)) d)))

-- what a write to a part of a slice leaves: the k elements from a on are now zs
pub part_laid : {A : Type 0} (a k : ℕ) (xs ys zs : List A) → ys ≡ zs → k ≡ length zs → put_mid a k xs ys ≡ laid xs a zs
unfolding laid
part_laid a k xs ys zs e q = ap (λ l. take a xs ++ l) (λ i. e i ++ (drop-drop k a xs ∙ ap (λ m. drop (a + m) xs) q) i)

-- a loop's turn: what is laid is all so far, and t behind it
pub turn : {A : Type 0} (old : List A) (at : ℕ) (s t dst new : List A) (m : ℕ)
    → dst ≡ laid old at s → new ≡ laid dst m t → m ≡ at + length s → m + length t ≤ length old → new ≡ laid old at (s ++ t)
turn {A} old at s t dst new m p q e k =
    q ∙ ap (λ (x : List A). laid x m t) p ∙ laid_behind old at s (omega arith) m t e k

pub part_length : {A : Type 0} (src : List A) (from n : ℕ) → from + n ≤ length src → length (take (from + n - from) (drop from src)) ≡ n
part_length {A} src from n h = simp (length-take, length-drop) (omega arith)

-- what is laid from the place 0 on fills the front
pub laid_front : (old s : List ℕ) → laid old 0 s ≡ filled s old
unfolding laid
laid_front old s = rw (zero-add (length s))
