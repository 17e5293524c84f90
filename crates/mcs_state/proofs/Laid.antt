-- Parts that are laid one behind the other over a list, from a place on. Assumes nothing.
use mathlib.Core.Path.{◌≡◌, ap, sym, ◌∙◌}
use mathlib.Core.List.{List, ◌++◌, append_assoc}
use Prim.Native.Nat.{ℕ, ◌+◌, ◌≤◌}
use native.Mathlib.Nat.{add_assoc}
use native.Mathlib.Omega.{arith}
use lib.ListN.{length, take, drop, length-append}
use lib.Seq.{paste, length_paste_head, take_all, take_at, drop_at, drop-drop}

-- s is s₀ with f over it, n octets of it, from the place at on
pub record Laid (s₀ : List ℕ) (at : ℕ) (f s : List ℕ) (n : ℕ) : Type 0 where
  pub is : s ≡ paste s₀ at f n
  pub long : length f ≡ n

-- the next part is pasted behind what is there
pub lay : {s₀ f s : List ℕ} {at n : ℕ} (s' v : List ℕ) (k : ℕ) → at ≤ length s₀ → Laid s₀ at f s n → length v ≡ k → s' ≡ paste s (at + n) v k
    → Laid s₀ at (f ++ v) s' (n + k)
lay {s₀} {f} {s} {at} {n} s' v k fits l h e =
    let head : length (take at s₀ ++ take n f) ≡ at + n = length_paste_head s₀ at f n fits (omega (arith, l.long)) in
    let front : take (at + n) s ≡ take at s₀ ++ take n f = ap (take (at + n)) l.is ∙ take_at (take at s₀ ++ take n f) (drop (at + n) s₀) (at + n) head in
    let behind : drop (at + n) s ≡ drop (at + n) s₀ = ap (drop (at + n)) l.is ∙ drop_at (take at s₀ ++ take n f) (drop (at + n) s₀) (at + n) head in
    let back : drop (at + n + k) s ≡ drop (at + n + k) s₀ = sym (drop-drop k (at + n) s) ∙ ap (drop k) behind ∙ drop-drop k (at + n) s₀ in
    let long : length (f ++ v) ≡ n + k = simp length-append (omega (arith, l.long, h)) in
    let whole : take n f ++ take k v ≡ take (n + k) (f ++ v) =
    (λ i. take_all n f (omega (arith, l.long)) i ++ take_all k v (omega (arith, h)) i) ∙ sym (take_all (n + k) (f ++ v) (omega (arith, long))) in
    record {
      is =
          e
          ∙ (λ i. front i ++ take k v ++ back i)
          ∙ (λ i. append_assoc (take at s₀) (take n f) (take k v) i ++ drop (add_assoc at n k i) s₀)
          ∙ (λ i. take at s₀ ++ whole i ++ drop (at + (n + k)) s₀);
      long = long;
    }
