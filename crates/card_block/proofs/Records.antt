-- The records of a block: a right count has room, and the words and octets that the records are. Assumes nothing.
use mathlib.Core.Path.{◌≡◌, sym, ap, ◌∙◌}
use mathlib.Core.Bool.{Bool, true, false}
use mathlib.Core.List.{List}
use Prim.Native.Nat.{ℕ, ◌*◌, ◌-◌, ◌/◌, ◌≤◌}
use native.Mathlib.Nat.{mul_assoc}
use native.Mathlib.Omega.{arith}
use borrow.Author.Tests.{leb-true, not-false}
use lib.Dec.{eqb, leb}
use lib.ListN.{length, take, drop, length-take, length-drop}
use lib.Seq.{take-length}
use Rattle.ground.specs.Cases.{pick}
use Rattle.ground.specs.Words.{words}
use Rattle.ground.proofs.Cases.{and_right}
use Rattle.ground.proofs.Rows.{none_of}
use Rattle.ground.proofs.Words.{words_whole, words_count}
use Rattle.card_block.specs.Block.{kind_of, count_of, record_size, most_records, records_end, records_of, check_rule, number_rule, kind_rule, count_rule, full_rule, padding_rule, block_rows, block_rule}

room_by : (a b c : Bool) (n : ℕ) → n ≤ pick a 42 (pick b 21 (pick c 126 505)) → n * pick a 12 (pick b 24 (pick c 4 1)) ≤ 505
room_by true b c n h = omega arith
room_by false true c n h = omega arith
room_by false false true n h = omega arith
room_by false false false n h = omega arith

-- as many records as a kind may have take 505 octets at most
pub records_room : (kind n : ℕ) → n ≤ most_records kind → n * record_size kind ≤ 505
unfolding most_records record_size
records_room kind n h = room_by (eqb kind 1) (eqb kind 2) (eqb kind 3) n h

pub count_room : (b : List ℕ) → count_rule b ≡ true → count_of b ≤ most_records (kind_of b)
unfolding count_rule
count_room b h = leb-true _ _ (and_right (leb 1 (count_of b)) _ h)

-- what a right block keeps, rule by rule; and the way back
pub record Keeps (number least : ℕ) (last : Bool) (b : List ℕ) : Type 0 where
  pub check : check_rule b ≡ true
  pub place : number_rule number b ≡ true
  pub kind : kind_rule least b ≡ true
  pub count : count_rule b ≡ true
  pub full : full_rule last b ≡ true
  pub padding : padding_rule b ≡ true

pub keeps_of : (number least : ℕ) (last : Bool) (b : List ℕ) → block_rule number least last b ≡ true → Keeps number least last b
unfolding block_rule
keeps_of number least last b h =
    let n = none_of (block_rows number least last b) h in
    record {
      check = not-false _ n.0;
      place = not-false _ n.1.0;
      kind = not-false _ n.1.1.0;
      count = not-false _ n.1.1.1.0;
      full = not-false _ n.1.1.1.1.0;
      padding = not-false _ n.1.1.1.1.1.0;
    }

pub of_keeps : (number least : ℕ) (last : Bool) (b : List ℕ) → Keeps number least last b → block_rule number least last b ≡ true
unfolding block_rule
of_keeps number least last b k = rw (k.check, k.place, k.kind, k.count, k.full, k.padding)

-- a right block has a right count
pub block_count : (number least : ℕ) (last : Bool) (b : List ℕ) → block_rule number least last b ≡ true → count_of b ≤ most_records (kind_of b)
block_count number least last b h = count_room b (keeps_of number least last b h).count

-- the first m of w are what f makes of a block's records
abbrev pub Cut : (List ℕ → List ℕ) → List ℕ → List ℕ → ℕ → Type 0
Cut f b w m = (take m w ≡ f (records_of b)) × (length (take m w) ≡ m)

-- the octets from octet 5 on, up to the end e of the records, and the words that they make
pub cut_octets : (b : List ℕ) (e : ℕ) → e ≡ records_end b → let r = take (e - 5) (drop 5 b) in Cut (λ s. s) b r (length r)
cut_octets b e q =
    let r = take (e - 5) (drop 5 b) in
    (take-length r ∙ ap (λ (k : ℕ). take (k - 5) (drop 5 b)) q, ap length (take-length r))

pub cut_words : (b : List ℕ) (e : ℕ) → e ≡ records_end b → let r = take (e - 5) (drop 5 b) in Cut words b (words r) (length r / 4)
cut_words b e q =
    let r = take (e - 5) (drop 5 b) in
    (words_whole r ∙ ap (λ (k : ℕ). words (take (k - 5) (drop 5 b))) q, ap length (words_whole r) ∙ words_count r)

module _ (b : List ℕ) (n : length b ≡ 512) (h : count_of b ≤ most_records (kind_of b)) where
  records_long : length (records_of b) ≡ count_of b * record_size (kind_of b)
  records_long = simp (length-take, length-drop) (omega (arith, n, records_room (kind_of b) (count_of b) h))

  -- how many words and octets they are
  pub records_words : (w : ℕ) → record_size (kind_of b) ≡ w * 4 → length (words (records_of b)) ≡ count_of b * w
  records_words w z =
      let e : count_of b * record_size (kind_of b) ≡ count_of b * w * 4 = ap (λ (m : ℕ). count_of b * m) z ∙ sym (mul_assoc (count_of b) w 4) in
      words_count (records_of b) ∙ omega (arith, records_long, e)

  pub records_octets : record_size (kind_of b) ≡ 1 → length (records_of b) ≡ count_of b * 1
  records_octets z = records_long ∙ ap (λ (m : ℕ). count_of b * m) z
