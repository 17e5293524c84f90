-- A block that is right by the reader's rules is the block of its own number, kind, count and records: no other block has them. Assumes nothing.
use mathlib.Core.Path.{◌≡◌, refl, sym, ap, ◌∙◌}
use mathlib.Core.Bool.{Bool, true}
use mathlib.Core.List.{List, [], ◌∷◌, ◌++◌}
use Prim.Native.Nat.{ℕ, ◌+◌, ◌*◌, ◌-◌, ◌/◌, ◌%◌, ◌≤◌, ◌<◌}
use native.Mathlib.Nat.{add-sub_cancel_left}
use native.Mathlib.Omega.{arith}
use borrow.Author.Tests.{eqb-true}
use lib.Dec.{eqb}
use lib.ListN.{length, get_or, take, drop, length-take, length-drop, take-append-drop, drop_of_length-le}
use lib.Seq.{drop-cons, drop-drop, take-add, length-take-le}
use Rattle.ground.specs.Lists.{part}
use Rattle.ground.proofs.Cases.{and_left, and_right}
use Rattle.card_block.specs.Sums.{sums_of}
use Rattle.card_block.specs.Block.{record_size, records_of, all_zero, check_rule, number_rule, padding_rule, block_rule}
use Rattle.card_block.proofs.Records.{keeps_of, block_count, records_room}
use Rattle.card_fill.specs.Filled.{zeros, front_of, checks_of, block_of}

all_zeros : (s : List ℕ) → all_zero s ≡ true → s ≡ zeros (length s)
unfolding all_zero
all_zeros [] h = refl
all_zeros (x ∷ s) h =
    let e : x ≡ 0 = eqb-true x 0 (and_left (eqb x 0) (all_zero s) h) in
    λ i. e i ∷ all_zeros s (and_right (eqb x 0) (all_zero s) h) i

module _ (number least : ℕ) (last : Bool) (a0 a1 a2 a3 a4 : ℕ) (r : List ℕ) (long : length r ≡ 507) (o0 : a0 < 256) (o3 : a3 < 256)
    (h : block_rule number least last (a0 ∷ a1 ∷ a2 ∷ a3 ∷ a4 ∷ r) ≡ true) where
  abbrev b : List ℕ
  b = a0 ∷ a1 ∷ a2 ∷ a3 ∷ a4 ∷ r

  number_is : a0 + a1 * 256 ≡ number
  unfolding number_rule
  number_is = eqb-true _ _ (keeps_of number least last b h).place

  checks_are : (get_or r 505 0 ≡ (sums_of (take 510 b)).plain) × (get_or r 506 0 ≡ (sums_of (take 510 b)).running)
  unfolding check_rule
  checks_are =
      let c = (keeps_of number least last b h).check in
      (eqb-true _ _ (and_left (eqb (get_or r 505 0) (sums_of (take 510 b)).plain) _ c), eqb-true _ _ (and_right (eqb (get_or r 505 0) (sums_of (take 510 b)).plain) _ c))

  room : (a3 + a4 * 256) * record_size a2 ≤ 505
  room = records_room a2 (a3 + a4 * 256) (block_count number least last b h)

  records_are : records_of (a0 ∷ a1 ∷ a2 ∷ a3 ∷ a4 ∷ r) ≡ take ((a3 + a4 * 256) * record_size a2) r
  records_are = ap (λ (k : ℕ). take k r) (add-sub_cancel_left 5 ((a3 + a4 * 256) * record_size a2))

  padding_is : take (505 - (a3 + a4 * 256) * record_size a2) (drop ((a3 + a4 * 256) * record_size a2) r) ≡ zeros (505 - (a3 + a4 * 256) * record_size a2)
  unfolding padding_rule
  padding_is =
      let m = (a3 + a4 * 256) * record_size a2 in
      let k = room in
      let z = (keeps_of number least last b h).padding in
      let q : 510 - (5 + m) ≡ 505 - m = omega arith in
      let e : part b (5 + m) 510 ≡ take (505 - m) (drop m r) = λ i. take (q i) (sym (drop-drop m 5 b) i) in
      let n : length (take (505 - m) (drop m r)) ≡ 505 - m = simp (length-take, length-drop) (omega arith) in
      all_zeros (take (505 - m) (drop m r)) (sym (ap all_zero e) ∙ z) ∙ ap zeros n

  front_is : (a0 ∷ a1 ∷ a2 ∷ a3 ∷ a4 ∷ take 505 r) ≡ front_of number a2 (a3 + a4 * 256) (records_of (a0 ∷ a1 ∷ a2 ∷ a3 ∷ a4 ∷ r))
  unfolding front_of
  front_is =
      let m = (a3 + a4 * 256) * record_size a2 in
      let k = room in
      let j = number_is in
      let h0 : a0 ≡ number % 256 = omega arith in
      let h1 : a1 ≡ number / 256 = omega arith in
      let h3 : a3 ≡ (a3 + a4 * 256) % 256 = omega arith in
      let h4 : a4 ≡ (a3 + a4 * 256) / 256 = omega arith in
      let q : 505 ≡ m + (505 - m) = omega arith in
      let n : length (records_of b) ≡ m = ap length records_are ∙ length-take-le m r (omega arith) in
      let t : take 505 r ≡ records_of b ++ zeros (505 - length (records_of b)) =
      ap (λ (x : ℕ). take x r) q
      ∙ take-add m (505 - m) r
      ∙ (λ i. sym records_are i ++ (padding_is ∙ ap (λ (x : ℕ). zeros (505 - x)) (sym n)) i) in
      λ i. h0 i ∷ h1 i ∷ a2 ∷ h3 i ∷ h4 i ∷ t i

  checks_end : drop 505 r ≡ checks_of (a0 ∷ a1 ∷ a2 ∷ a3 ∷ a4 ∷ take 505 r)
  checks_end =
      let d1 = drop-cons r 505 0 (omega arith) in
      let d2 = drop-cons r 506 0 (omega arith) in
      let n : length r ≤ 507 = omega arith in
      let d3 : drop 507 r ≡ [] = drop_of_length-le r n in
      d1 ∙ (λ i. get_or r 505 0 ∷ (d2 ∙ (λ j. get_or r 506 0 ∷ d3 j)) i) ∙ (λ i. checks_are.0 i ∷ checks_are.1 i ∷ [])

  pub block_is : (a0 ∷ a1 ∷ a2 ∷ a3 ∷ a4 ∷ r) ≡ block_of number a2 (a3 + a4 * 256) (records_of (a0 ∷ a1 ∷ a2 ∷ a3 ∷ a4 ∷ r))
  unfolding block_of
  block_is =
      let F = a0 ∷ a1 ∷ a2 ∷ a3 ∷ a4 ∷ take 505 r in
      (λ i. a0 ∷ a1 ∷ a2 ∷ a3 ∷ a4 ∷ sym (take-append-drop 505 r) i)
      ∙ ap (λ (l : List ℕ). F ++ l) checks_end
      ∙ ap (λ (l : List ℕ). l ++ checks_of l) front_is
