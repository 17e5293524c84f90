-- A written block is right by the reader's own rules, and its records are those that were written. Assumes nothing.
use mathlib.Core.Path.{◌≡◌, refl, sym, ap, ◌∙◌}
use mathlib.Core.Bool.{Bool, true}
use mathlib.Core.List.{List, [], ◌∷◌, ◌++◌, append_assoc}
use Prim.Native.Nat.{ℕ, zero, suc, ◌+◌, ◌*◌, ◌-◌, ◌/◌, ◌%◌, ◌≤◌}
use native.Mathlib.Nat.{add-sub_cancel_left}
use native.Mathlib.Omega.{arith}
use borrow.Author.Tests.{eq-eqb, le-leb}
use lib.ListN.{length, get_or, take, drop, length-replicate}
use lib.Seq.{take_at, drop_at, get_or_at, get_or-append-add, drop-drop}
use Rattle.ground.specs.Lists.{part}
use Rattle.ground.specs.Words.{half_of}
use Rattle.ground.proofs.Cases.{and_both}
use Rattle.card_block.specs.Sums.{sums_of}
use Rattle.card_block.specs.Block.{kind_of, count_of, record_size, most_records, records_end, records_of, all_zero, check_rule, number_rule, kind_rule, count_rule, full_rule, padding_rule, block_rule}
use Rattle.card_block.proofs.Records.{of_keeps, records_room}
use Rattle.card_fill.specs.Filled.{zeros, front_of, checks_of, block_of}
use Rattle.card_fill.proofs.Making.{front_length, written_length}

half_back : (n : ℕ) → half_of (n % 256) (n / 256) ≡ n
half_back n = omega arith

zeros_zero : (n : ℕ) → all_zero (zeros n) ≡ true
unfolding all_zero
zeros_zero zero = refl
zeros_zero (suc n) = zeros_zero n

module _ (number kind count : ℕ) (records : List ℕ) (most : count ≤ most_records kind) (fits : length records ≡ count * record_size kind) where
  room : length records ≤ 505
  room = omega (arith, records_room kind count most)

  pub block_length : length (block_of number kind count records) ≡ 512
  block_length = written_length number kind count records room

  pub block_kind : kind_of (block_of number kind count records) ≡ kind
  unfolding block_of front_of
  block_kind = refl

  pub block_count : count_of (block_of number kind count records) ≡ count
  unfolding block_of front_of
  block_count = half_back count

  check_right : check_rule (block_of number kind count records) ≡ true
  unfolding check_rule block_of
  check_right =
      let f = front_of number kind count records in
      let l = front_length number kind count records room in
      let t : take 510 (f ++ checks_of f) ≡ f = take_at f (checks_of f) 510 l in
      let p : get_or (f ++ checks_of f) 510 0 ≡ (sums_of f).plain = get_or_at f (sums_of f).plain ((sums_of f).running ∷ []) 0 510 l in
      let r : get_or (f ++ checks_of f) 511 0 ≡ (sums_of f).running =
      ap (λ (n : ℕ). get_or (f ++ checks_of f) (n + 1) 0) (sym l) ∙ get_or-append-add f (checks_of f) 1 0 in
      and_both
      (eq-eqb _ _ (p ∙ ap (λ (s : List ℕ). (sums_of s).plain) (sym t)))
      (eq-eqb _ _ (r ∙ ap (λ (s : List ℕ). (sums_of s).running) (sym t)))

  -- behind the head: the records, the padding, the check octets
  behind : drop 5 (block_of number kind count records) ≡ records ++ (zeros (505 - length records) ++ checks_of (front_of number kind count records))
  unfolding block_of front_of
  behind = append_assoc records (zeros (505 - length records)) _

  end : records_end (block_of number kind count records) ≡ 5 + length records
  end = λ i. 5 + (ap (λ (n : ℕ). n * record_size (kind_of (block_of number kind count records))) block_count ∙ ap (λ (k : ℕ). count * record_size k) block_kind ∙ sym fits) i

  -- reading the records gives them back
  pub block_records : records_of (block_of number kind count records) ≡ records
  block_records =
      let x = zeros (505 - length records) ++ checks_of (front_of number kind count records) in
      ap (λ (e : ℕ). take (e - 5) (drop 5 (block_of number kind count records))) end
      ∙ ap (λ (e : ℕ). take e (drop 5 (block_of number kind count records))) (add-sub_cancel_left 5 (length records))
      ∙ ap (take (length records)) behind
      ∙ take_at records x (length records) refl

  padding_right : padding_rule (block_of number kind count records) ≡ true
  unfolding padding_rule
  padding_right =
      let m = length records in
      let w = block_of number kind count records in
      let c = checks_of (front_of number kind count records) in
      let q : 510 - (5 + m) ≡ 505 - m = omega arith in
      let d : drop (5 + m) w ≡ zeros (505 - m) ++ c = sym (drop-drop m 5 w) ∙ ap (drop m) behind ∙ drop_at records (zeros (505 - m) ++ c) m refl in
      let e : part w (records_end w) 510 ≡ zeros (505 - m) =
      ap (λ (n : ℕ). part w n 510) end
      ∙ (λ i. take (q i) (d i))
      ∙ take_at (zeros (505 - m)) c (505 - m) (length-replicate {A = ℕ} (505 - m) 0) in
      ap all_zero e ∙ zeros_zero (505 - m)

  number_right : number_rule number (block_of number kind count records) ≡ true
  unfolding number_rule block_of front_of
  number_right = eq-eqb _ _ (half_back number)

  kind_right : (least : ℕ) → least ≤ kind → kind ≤ 4 → kind_rule least (block_of number kind count records) ≡ true
  unfolding kind_rule block_of front_of
  kind_right least lo hi = and_both (le-leb _ _ lo) (le-leb _ _ hi)

  count_right : 1 ≤ count → count_rule (block_of number kind count records) ≡ true
  unfolding count_rule block_of front_of
  count_right one = rw (half_back count) (and_both (le-leb _ _ one) (le-leb _ _ most))

  -- THE theorem of the block: it passes all rules of the reader, at its number and behind any kind that is not above its own, where it need not be full or is
  pub block_right : (least : ℕ) (last : Bool) → least ≤ kind → kind ≤ 4 → 1 ≤ count → full_rule last (block_of number kind count records) ≡ true
      → block_rule number least last (block_of number kind count records) ≡ true
  block_right least last lo hi one full =
      of_keeps number least last _
      record { check = check_right; place = number_right; kind = kind_right least lo hi; count = count_right one; full = full; padding = padding_right }
