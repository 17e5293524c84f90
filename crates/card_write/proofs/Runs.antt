-- The blocks of one kind, in front of any others: they are right, they give the table back, and other kinds pass them by. Assumes nothing.
use mathlib.Core.Path.{◌≡◌, refl, sym, ap, ◌∙◌}
use mathlib.Core.Bool.{Bool, true}
use mathlib.Core.List.{List, [], ◌∷◌, ◌++◌, append_assoc}
use mathlib.Core.Logic.{⊎_elim}
use Prim.Native.Nat.{ℕ, zero, suc, ◌+◌, ◌*◌, ◌-◌, ◌/◌, ◌≤◌, ◌<◌}
use native.Mathlib.Nat.{add_assoc, add-mul, zero-mul, suc-mul, mul-div_cancel, mul-le-mul_right}
use native.Mathlib.Numerals.{add-one}
use native.Mathlib.Omega.{arith}
use borrow.Author.Tests.{eq-eqb, ne_eqb}
use lib.ListN.{length, take, drop, length-drop, take-append-drop}
use lib.Seq.{take_all, length-take-le}
use Rattle.ground.proofs.Cases.{le_or}
use Rattle.card_block.specs.Block.{kind_of, count_of, record_size, most_records, records_of, full_rule, block_rule}
use Rattle.card_load.specs.Card.{last_of_kind, blocks_rule, record_count, gather}
use Rattle.card_load.proofs.Lengths.{blocks_onto}
use Rattle.card_fill.specs.Filled.{block_of}
use Rattle.card_fill.proofs.Right.{block_length, block_kind, block_count, block_records, block_right}
use Rattle.card_write.specs.Card.{kind_blocks, FullButLast}

-- how the records of a kind are written and read
pub record Way (enc dec : List ℕ → List ℕ) (kind unit per : ℕ) : Type 0 where
  pub back : (s : List ℕ) → dec (enc s) ≡ s
  pub size : (s : List ℕ) (c : ℕ) → length s ≡ c * unit → length (enc s) ≡ c * record_size kind
  pub per_is : per ≡ most_records kind * unit
  pub unit_some : 1 ≤ unit
  pub most_some : 1 ≤ most_records kind
  pub kind_is : kind ≤ 4

-- a table of c records takes n blocks
pub record Takes (most c n : ℕ) : Type 0 where
  pub enough : c ≤ n * most
  pub needed : n * most < c + most

pub data Long : List (List ℕ) → Type 0 where
  none : Long []
  more : {b : List ℕ} {bs : List (List ℕ)} → length b ≡ 512 → Long bs → Long (b ∷ bs)

-- the first part of a table of c records, and what is left of it
pub record First (unit per most c n : ℕ) (table : List ℕ) : Type 0 where
  pub some : 1 ≤ length (take per table) / unit
  pub fits : length (take per table) / unit ≤ most
  pub whole : length (take per table) ≡ length (take per table) / unit * unit
  pub all : length (take per table) / unit + (c - most) ≡ c
  pub left : length (drop per table) ≡ (c - most) * unit
  pub on : Takes most (c - most) n

module _ (unit per most c n : ℕ) (table : List ℕ) (p : per ≡ most * unit) (u : 1 ≤ unit) (m : 1 ≤ most) (l : length table ≡ c * unit)
    (t : Takes most c (suc n)) where
  made : (q : ℕ) → length (take per table) ≡ q * unit → 1 ≤ q → q ≤ most → q + (c - most) ≡ c → length (drop per table) ≡ (c - most) * unit
      → First unit per most c n table
  made q x some fits all left =
      let e : length (take per table) / unit ≡ q = ap (λ (k : ℕ). k / unit) x ∙ mul-div_cancel q u in
      let s = suc-mul n most in
      record {
        some = rw e some;
        fits = rw e fits;
        whole = x ∙ ap (λ (k : ℕ). k * unit) (sym e);
        all = rw e all;
        left = left;
        on = record { enough = omega (arith, t.enough, s); needed = omega (arith, t.needed, s) };
      }

  pub first : First unit per most c n table
  first =
      let s = suc-mul n most in
      let some : 1 ≤ c = omega (arith, t.needed, s) in
      ⊎_elim
      (λ h.
      let k : c * unit ≤ most * unit = mul-le-mul_right unit h in
      let z : c - most ≡ 0 = omega arith in
      let d : length (drop per table) ≡ 0 = length-drop per table ∙ omega arith in
      made c (ap length (take_all per table (omega arith)) ∙ l) some h (omega arith) (d ∙ sym (rw (z, zero-mul unit))))
      (λ h.
      let e : c - most + most ≡ c = omega arith in
      let k : c * unit ≡ (c - most) * unit + most * unit = ap (λ (x : ℕ). x * unit) (sym e) ∙ add-mul (c - most) most unit in
      made most (length-take-le per table (omega arith) ∙ p) m (omega arith) (omega arith) (length-drop per table ∙ omega arith))
      (le_or c most)

-- what reading makes of the blocks bs, in front of any others
pub record Reads (dec : List ℕ → List ℕ) (kind c n number : ℕ) (table : List ℕ) (bs : List (List ℕ)) : Type 0 where
  pub right : (least : ℕ) → least ≤ kind → (rest : List (List ℕ)) → FullButLast (bs ++ rest)
      → ((low : ℕ) → low ≤ kind → blocks_rule (number + n) low rest ≡ true) → blocks_rule number least (bs ++ rest) ≡ true
  pub own : (rest : List (List ℕ)) → gather dec kind (bs ++ rest) ≡ table ++ gather dec kind rest
  pub own_count : (rest : List (List ℕ)) → record_count kind (bs ++ rest) ≡ c + record_count kind rest
  pub other : (f : List ℕ → List ℕ) (k : ℕ) (rest : List (List ℕ)) → (kind ≡ k → ⊥) → gather f k (bs ++ rest) ≡ gather f k rest
  pub other_count : (k : ℕ) (rest : List (List ℕ)) → (kind ≡ k → ⊥) → record_count k (bs ++ rest) ≡ record_count k rest
  pub long : (rest : List (List ℕ)) → Long rest → Long (bs ++ rest)

-- one block more in front
module _ (dec : List ℕ → List ℕ) (kind c n number : ℕ) (table left : List ℕ) (b : List ℕ) (bs : List (List ℕ)) (q : ℕ) (part : List ℕ)
    (R : Reads dec kind c n (suc number) left bs)
    (k : kind_of b ≡ kind) (x : count_of b ≡ q) (y : dec (records_of b) ≡ part) (z : length b ≡ 512)
    (r : (least : ℕ) (last : Bool) → least ≤ kind → full_rule last b ≡ true → block_rule number least last b ≡ true) (j : part ++ left ≡ table) where
  one_more : Reads dec kind (q + c) (suc n) number table (b ∷ bs)
  unfolding gather record_count
  one_more =
      record {
        right = λ least lo rest full h.
            let e : number + suc n ≡ suc number + n = omega arith in
            blocks_onto number least b (bs ++ rest) (r least (last_of_kind b (bs ++ rest)) lo full.0)
            (rw (add-one number, k) (R.right kind (omega arith) rest full.1 (λ low lo. rw e at (h low lo))));
        own = λ rest. rw (eq-eqb _ _ k, y, R.own rest) (sym (append_assoc part left (gather dec kind rest)) ∙ ap (λ (l : List ℕ). l ++ gather dec kind rest) j);
        own_count = λ rest. rw (eq-eqb _ _ k, x, R.own_count rest) (sym (add_assoc q c (record_count kind rest)));
        other = λ f o rest h. rw (ne_eqb _ _ (λ e. h (sym k ∙ e))) (R.other f o rest h);
        other_count = λ o rest h. rw (ne_eqb _ _ (λ e. h (sym k ∙ e))) (omega (arith, R.other_count o rest h));
        long = λ rest h. more z (R.long rest h);
      }

no_more : (dec : List ℕ → List ℕ) (kind number : ℕ) → Reads dec kind 0 0 number [] []
no_more dec kind number =
    record {
      right = λ least lo rest full h. let e : number + 0 ≡ number = omega arith in rw e at (h least lo);
      own = λ rest. refl;
      own_count = λ rest. omega arith;
      other = λ f k rest h. refl;
      other_count = λ k rest h. refl;
      long = λ rest h. h;
    }

empty : {A : Type 0} (s : List A) → length s ≡ 0 → s ≡ []
empty [] h = refl
empty (x ∷ s) h = absurd (let z : ⊥ = omega arith in z)

-- the blocks of a table of c records
module _ {enc dec : List ℕ → List ℕ} {kind unit per : ℕ} (W : Way enc dec kind unit per) where
  pub reads : (n c number : ℕ) (table : List ℕ) → length table ≡ c * unit → Takes (most_records kind) c n
      → Reads dec kind c n number table (kind_blocks enc kind unit per n number table)
  unfolding kind_blocks
  reads zero c number table l t =
      let z : c ≡ 0 = omega (arith, t.enough, zero-mul (most_records kind)) in
      let e : table ≡ [] = empty table (l ∙ ap (λ (k : ℕ). k * unit) z ∙ zero-mul unit) in
      rw (z, e) (no_more dec kind number)
  reads (suc n) c number table l t =
      let F = first unit per (most_records kind) c n table W.per_is W.unit_some W.most_some l t in
      let part = take per table in
      let q = length part / unit in
      let fits = W.size part q F.whole in
      let R = reads n (c - most_records kind) (suc number) (drop per table) F.left F.on in
      let B = block_of number kind q (enc part) in
      let M = one_more dec kind (c - most_records kind) n number table (drop per table) B (kind_blocks enc kind unit per n (suc number) (drop per table)) q part R
      (block_kind number kind q (enc part) F.fits fits)
      (block_count number kind q (enc part) F.fits fits)
      (ap dec (block_records number kind q (enc part) F.fits fits) ∙ W.back part)
      (block_length number kind q (enc part) F.fits fits)
      (λ least last lo full. block_right number kind q (enc part) F.fits fits least last lo W.kind_is F.some full)
      (take-append-drop per table) in
      rw F.all at M
