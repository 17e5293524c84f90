-- A block of zeros with a head, its records laid in and its check octets laid in, is the block of SCOPE 3.2 and 3.16. Assumes nothing.
use mathlib.Core.Path.{◌≡◌, sym, ap, ◌∙◌}
use mathlib.Core.List.{List, [], ◌∷◌, ◌++◌, append_assoc}
use Prim.Native.Nat.{ℕ, zero, suc, ◌+◌, ◌-◌, ◌≤◌}
use native.Mathlib.Omega.{arith}
use lib.ListN.{length, take, drop, length-append, length-replicate, replicate-append-replicate, drop_of_length-le}
use lib.Seq.{take_at, drop-append-add}
use Rattle.ground.specs.Lists.{laid}
use Rattle.card_fill.specs.Filled.{head_of, zeros, front_of, checks_of, block_of}

drop_zeros : (m n : ℕ) → drop m (zeros n) ≡ zeros (n - m)
drop_zeros zero n = let e : n - 0 ≡ n = omega arith in rw e
drop_zeros (suc m) zero = let e : 0 - suc m ≡ 0 = omega arith in rw e
drop_zeros (suc m) (suc n) = let e : suc n - suc m ≡ n - m = omega arith in rw e (drop_zeros m n)

module _ (number kind count : ℕ) (records : List ℕ) (h : length records ≤ 505) where
  pub front_length : length (front_of number kind count records) ≡ 510
  unfolding front_of
  front_length =
      omega (
        arith,
        length-append records (zeros (505 - length records)),
        length-replicate {A = ℕ} (505 - length records) 0,
      )

  pub written_length : length (block_of number kind count records) ≡ 512
  unfolding block_of
  written_length =
      let f = front_of number kind count records in omega (arith, front_length, length-append f (checks_of f))

  filled_in : laid (head_of number kind count ++ zeros 507) 5 records ≡ front_of number kind count records ++ (0 ∷ 0 ∷ [])
  unfolding laid front_of
  filled_in =
      let m = length records in
      let e : 507 - m ≡ 505 - m + 2 = omega arith in
      let z : drop (5 + m) (head_of number kind count ++ zeros 507) ≡ zeros (505 - m) ++ (0 ∷ 0 ∷ []) =
      drop-append-add (head_of number kind count) (zeros 507) m
      ∙ drop_zeros m 507
      ∙ ap (λ (n : ℕ). zeros n) e
      ∙ sym (replicate-append-replicate {A = ℕ} (505 - m) 2 0) in
      ap (λ (l : List ℕ). head_of number kind count ++ (records ++ l)) z
      ∙ ap (λ (l : List ℕ). head_of number kind count ++ l) (sym (append_assoc records (zeros (505 - m)) (0 ∷ 0 ∷ [])))

  checked_in : (f : List ℕ) → length f ≡ 510 → laid (f ++ (0 ∷ 0 ∷ [])) 510 (checks_of (take 510 (f ++ (0 ∷ 0 ∷ [])))) ≡ f ++ checks_of f
  unfolding laid
  checked_in f l =
      let b = f ++ (0 ∷ 0 ∷ []) in
      let t : take 510 b ≡ f = take_at f (0 ∷ 0 ∷ []) 510 l in
      let n : length b ≤ 512 = omega (arith, length-append f (0 ∷ 0 ∷ [])) in
      let d : drop 512 b ≡ [] = drop_of_length-le b n in
      λ i. t i ++ (checks_of (t i) ++ d i)

  -- THE law: the code's three steps make the block
  pub made : (b c : List ℕ) → b ≡ laid (head_of number kind count ++ zeros 507) 5 records
      → c ≡ laid b 510 (checks_of (take 510 b)) → c ≡ block_of number kind count records
  unfolding block_of
  made b c p q =
      q
      ∙ ap (λ (l : List ℕ). laid l 510 (checks_of (take 510 l))) (p ∙ filled_in)
      ∙ checked_in (front_of number kind count records) front_length
