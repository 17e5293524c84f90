-- What is pasted over a part of lists that stand one behind the other changes that part alone. Assumes nothing.
use mathlib.Core.Path.{◌≡◌, ap, sym, ◌∙◌}
use mathlib.Core.List.{List, [], ◌++◌, append_assoc, append-nil}
use Prim.Native.Nat.{ℕ, zero, suc, ◌+◌, ◌*◌, ◌≤◌, ◌<◌}
use native.Mathlib.Nat.{add_assoc, add_comm, add-zero, zero-add, zero-mul, suc-mul, le_of_suc-le-suc, not-suc-le-zero}
use native.Mathlib.Omega.{arith}
use lib.ListN.{length, get_or, set, take, drop, drop_of_length-le}
use lib.Seq.{paste, take_all, take-append-le, drop-append-le, take-append-add, drop-append-add}
use Rattle.ground.specs.Lists.{part}
use Rattle.ground.proofs.Laying.{part_length}
use Rattle.mcs_state.specs.Codec.{each_from, each_octets, Kept}
use Rattle.mcs_state.proofs.Each.{AllKept, none, more}

-- k octets of v, within the first of two lists, within the second, and over the whole of one
module _ (v : List ℕ) (k : ℕ) where
  pub paste_left : (x t : List ℕ) (at : ℕ) → at + k ≤ length x → paste (x ++ t) at v k ≡ paste x at v k ++ t
  paste_left x t at h =
      (λ i. take-append-le at x t (omega arith) i ++ take k v ++ drop-append-le (at + k) x t h i)
      ∙ sym (append_assoc (take at x ++ take k v) (drop (at + k) x) t)

  pub paste_right : (f x : List ℕ) (n at : ℕ) → length f ≡ n → paste (f ++ x) (n + at) v k ≡ f ++ paste x at v k
  paste_right f x n at h =
      let front : take (n + at) (f ++ x) ≡ f ++ take at x = ap (λ (m : ℕ). take (m + at) (f ++ x)) (sym h) ∙ take-append-add f x at in
      let behind : drop (n + at + k) (f ++ x) ≡ drop (at + k) x =
      ap (λ (m : ℕ). drop m (f ++ x)) (add_assoc n at k ∙ ap (λ (m : ℕ). m + (at + k)) (sym h)) ∙ drop-append-add f x (at + k) in
      (λ i. front i ++ take k v ++ behind i)
      ∙ (λ i. append_assoc f (take at x) (take k v) i ++ drop (at + k) x)
      ∙ append_assoc f (take at x ++ take k v) (drop (at + k) x)

  pub paste_whole : (x : List ℕ) → length x ≡ k → length v ≡ k → paste x 0 v k ≡ v
  paste_whole x h l =
      let rest : drop (0 + k) x ≡ [] = drop_of_length-le x {i = 0 + k} (omega arith) in
      (λ i. take_all k v (omega arith) i ++ rest i) ∙ append-nil v

-- parts of one kind, each so many octets
module _ {A : Type 0} (read : List ℕ → A) (write : A → List ℕ) (size : ℕ) where
  -- those that were read are read again, where each of them is
  pub each_kept : ((o : List ℕ) → length o ≡ size → Kept read write size (read o)) → (s : List ℕ) (at n : ℕ) → at + n * size ≤ length s
      → AllKept read write size (each_from read size s at n)
  each_kept kept s at zero h = none
  each_kept kept s at (suc n) h =
      let e = suc-mul n size in
      more (kept (part s at (at + size)) (part_length s at size (omega arith))) (each_kept kept s (at + size) n (omega arith))

  pub kept_at : {xs : List A} → AllKept read write size xs → (i : ℕ) (e : A) → i < length xs → Kept read write size (get_or xs i e)
  kept_at none i e h = absurd (not-suc-le-zero h)
  kept_at (more k ks) zero e h = k
  kept_at (more k ks) (suc i) e h = kept_at ks i e (le_of_suc-le-suc h)

  pub kept_set : {xs : List A} → AllKept read write size xs → (i : ℕ) {y : A} → Kept read write size y → AllKept read write size (set xs i y)
  kept_set none i q = none
  kept_set (more k ks) zero q = more q ks
  kept_set (more k ks) (suc i) q = more k (kept_set ks i q)

  -- what makes the octets of y out of those of the part i makes y the part i
  pub each_pasted : {xs : List A} → AllKept read write size xs → (i : ℕ) (e y : A) (at k : ℕ) (v : List ℕ) → i < length xs → at + k ≤ size
      → paste (write (get_or xs i e)) at v k ≡ write y → paste (each_octets write xs) (i * size + at) v k ≡ each_octets write (set xs i y)
  each_pasted none i e y at k v h fits p = absurd (not-suc-le-zero h)
  each_pasted (more {x} {xs} q qs) zero e y at k v h fits p =
      let all = write x ++ each_octets write xs in
      ap (λ (m : ℕ). paste all m v k) (ap (λ (m : ℕ). m + at) (zero-mul size) ∙ zero-add at)
      ∙ paste_left v k (write x) (each_octets write xs) at (omega (arith, q.long))
      ∙ ap (λ (l : List ℕ). l ++ each_octets write xs) p
  each_pasted (more {x} {xs} q qs) (suc i) e y at k v h fits p =
      let all = write x ++ each_octets write xs in
      let place : suc i * size + at ≡ size + (i * size + at) =
      ap (λ (m : ℕ). m + at) (suc-mul i size ∙ add_comm (i * size) size) ∙ add_assoc size (i * size) at in
      ap (λ (m : ℕ). paste all m v k) place
      ∙ paste_right v k (write x) (each_octets write xs) size (i * size + at) q.long
      ∙ ap (λ (l : List ℕ). write x ++ l) (each_pasted qs i e y at k v (le_of_suc-le-suc h) fits p)

  -- what is written of y over the part i
  pub each_replaced : {xs : List A} → AllKept read write size xs → (i : ℕ) (e y : A) → i < length xs → length (write y) ≡ size
      → paste (each_octets write xs) (i * size) (write y) size ≡ each_octets write (set xs i y)
  each_replaced {xs} qs i e y h l =
      ap (λ (m : ℕ). paste (each_octets write xs) m (write y) size) (sym (add-zero (i * size)))
      ∙ each_pasted qs i e y 0 size (write y) h (omega arith) (paste_whole (write y) size (write (get_or xs i e)) (kept_at qs i e h).long l)
