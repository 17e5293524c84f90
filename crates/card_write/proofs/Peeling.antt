-- The way back: the blocks of one kind at the front of a right card are the blocks of what they hold. Assumes nothing.
use mathlib.Core.Path.{◌≡◌, refl, sym, ap, ◌∙◌}
use mathlib.Core.Bool.{Bool, true, false, not}
use mathlib.Core.List.{List, [], ◌∷◌, ◌++◌, append-nil}
use mathlib.Core.Logic.{⊎_elim}
use Prim.Native.Nat.{ℕ, zero, suc, ◌+◌, ◌*◌, ◌-◌, ◌/◌, ◌≤◌, ◌<◌}
use native.Mathlib.Nat.{add-zero, zero-mul, suc-mul, mul-div_cancel, mul-le-mul_right, mul-le-mul, eq-or-lt_of_le}
use native.Mathlib.Numerals.{add-one}
use native.Mathlib.Omega.{arith}
use borrow.Author.Tests.{eqb-true, eqb-false, leb-true, le-leb, eq-eqb, ne_eqb}
use lib.Dec.{eqb, leb}
use lib.ListN.{length, take, drop, length-append, length-take, length-drop, drop_of_length-le}
use lib.Seq.{take_all, take_at, drop_at, length-take-le}
use Rattle.ground.specs.Words.{Octs}
use Rattle.ground.specs.Words.Octs.{no_octets, octet}
use Rattle.ground.proofs.Cases.{true_or, le_or, and_left, and_right, and_both}
use Rattle.ground.proofs.Octets.{octs_take, octs_drop}
use Rattle.card_block.specs.Block.{kind_of, count_of, record_size, most_records, records_end, records_of, kind_rule, count_rule, full_rule, block_rule}
use Rattle.card_block.proofs.Records.{keeps_of, of_keeps, block_count, records_room}
use Rattle.card_load.specs.Card.{blocks, last_of_kind, blocks_rows, blocks_rule, gather}
use Rattle.card_load.proofs.Lengths.{blocks_first, blocks_onto}
use Rattle.card_fill.specs.Filled.{block_of}
use Rattle.card_fill.proofs.Only.{block_is}
use Rattle.card_write.specs.Card.{kind_blocks}
use Rattle.card_write.proofs.Runs.{Way}

pub right_is : {b : List ℕ} → Octs b → length b ≡ 512 → (number least : ℕ) (last : Bool) → block_rule number least last b ≡ true
    → b ≡ block_of number (kind_of b) (count_of b) (records_of b)
right_is no_octets l number least last h = absurd (let z : ⊥ = omega arith in z)
right_is (octet a no_octets) l number least last h = absurd (let z : ⊥ = omega arith in z)
right_is (octet a (octet b no_octets)) l number least last h = absurd (let z : ⊥ = omega arith in z)
right_is (octet a (octet b (octet c no_octets))) l number least last h = absurd (let z : ⊥ = omega arith in z)
right_is (octet a (octet b (octet c (octet d no_octets)))) l number least last h = absurd (let z : ⊥ = omega arith in z)
right_is (octet {x = a0} h0 (octet {x = a1} h1 (octet {x = a2} h2 (octet {x = a3} h3 (octet {x = a4} {s = r} h4 o))))) l number least last h =
    block_is number least last a0 a1 a2 a3 a4 r (omega arith) h0 h3 h

-- the rule of a block's kind, out and in again at another kind before it
pub kind_low : (number least : ℕ) (last : Bool) (b : List ℕ) → block_rule number least last b ≡ true → (least ≤ kind_of b) × (kind_of b ≤ 4) × (1 ≤ count_of b)
unfolding kind_rule count_rule
kind_low number least last b h =
    let r = keeps_of number least last b h in (
      leb-true _ _ (and_left (leb least (kind_of b)) (leb (kind_of b) 4) r.kind),
      leb-true _ _ (and_right (leb least (kind_of b)) (leb (kind_of b) 4) r.kind),
      leb-true _ _ (and_left (leb 1 (count_of b)) _ r.count),
    )

raise : (number least low : ℕ) (last : Bool) (b : List ℕ) → block_rule number least last b ≡ true → low ≤ kind_of b → block_rule number low last b ≡ true
unfolding kind_rule
raise number least low last b h m =
    let r = keeps_of number least last b h in
    of_keeps number low last b
    record {
      check = r.check;
      place = r.place;
      kind = and_both (le-leb _ _ m) (and_right (leb least (kind_of b)) (leb (kind_of b) 4) r.kind);
      count = r.count;
      full = r.full;
      padding = r.padding;
    }

-- no block of a kind behind one of a higher kind
none_above : (f : List ℕ → List ℕ) (kind number least : ℕ) (bs : List (List ℕ)) → kind < least → blocks_rule number least bs ≡ true → gather f kind bs ≡ []
unfolding gather
none_above f kind number least [] k h = refl
none_above f kind number least (b ∷ bs) k h =
    let h2 = blocks_first number least b bs h in
    let low = kind_low number least (last_of_kind b bs) b h2.0 in
    rw (ne_eqb (kind_of b) kind (λ e. omega arith)) (none_above f kind (number + 1) (kind_of b) bs (omega (arith, low.0)) h2.1)

-- blocks of 512 octets
pub data Fine : List (List ℕ) → Type 0 where
  no_blocks : Fine []
  fine : {b : List ℕ} {bs : List (List ℕ)} → length b ≡ 512 → Octs b → Fine bs → Fine (b ∷ bs)

-- the blocks of a card
pub fine_of : (n : ℕ) (card : List ℕ) → n * 512 ≤ length card → Octs card → Fine (blocks n card)
unfolding blocks
fine_of zero card l o = no_blocks
fine_of (suc n) card l o =
    let m : 512 ≤ length card = omega arith in
    let d : n * 512 ≤ length (drop 512 card) = rw length-drop (omega arith) in
    fine (length-take-le 512 card m) (octs_take 512 o) (fine_of n (drop 512 card) d (octs_drop 512 o))

pub record WayBack (enc dec : List ℕ → List ℕ) (kind unit : ℕ) : Type 0 where
  pub forth : (s : List ℕ) (c : ℕ) → Octs s → length s ≡ c * record_size kind → enc (dec s) ≡ s
  pub counted : (s : List ℕ) (c : ℕ) → Octs s → length s ≡ c * record_size kind → length (dec s) ≡ c * unit

pub record Peeled (enc dec : List ℕ → List ℕ) (kind unit per number : ℕ) (bs : List (List ℕ)) : Type 0 where
  pub run : List (List ℕ)
  pub rest : List (List ℕ)
  pub parts : bs ≡ run ++ rest
  pub run_is : run ≡ kind_blocks enc kind unit per (length run) number (gather dec kind bs)
  pub enough : length (gather dec kind bs) ≤ length run * per
  pub needed : length run * per < length (gather dec kind bs) + per
  pub head : 1 ≤ length run → (b : List ℕ) → kind_of b ≡ kind → last_of_kind b bs ≡ false
  pub left : blocks_rule (number + length run) (suc kind) rest ≡ true
  pub left_fine : Fine rest
  pub other : (f : List ℕ → List ℕ) (k : ℕ) → (kind ≡ k → ⊥) → gather f k bs ≡ gather f k rest

module _ {enc dec : List ℕ → List ℕ} {kind unit per : ℕ} (W : Way enc dec kind unit per) (Z : WayBack enc dec kind unit) where
  per_some : 1 ≤ per
  per_some = omega (arith, W.per_is, mul-le-mul W.most_some W.unit_some)

  -- where the first block of a table is cut off
  cut : (D R : List ℕ) (n q : ℕ) → length D ≡ q * unit → q ≤ most_records kind → length R ≤ n * per → (1 ≤ n → q ≡ most_records kind)
      → (take per (D ++ R) ≡ D) × (drop per (D ++ R) ≡ R)
  cut D R zero q d m r f =
      let z : R ≡ [] = nothing R (omega (arith, zero-mul per)) in
      let l : length D ≤ per = omega (arith, W.per_is, mul-le-mul_right unit m) in
      let k : length (D ++ []) ≤ per = omega (arith, length-append D []) in
      rw z (take_all per (D ++ []) k ∙ append-nil D, drop_of_length-le (D ++ []) k)
    where
      nothing : (s : List ℕ) → length s ≤ 0 → s ≡ []
      nothing [] h = refl
      nothing (x ∷ s) h = absurd (let z : ⊥ = omega arith in z)
  cut D R (suc n) q d m r f =
      let l : length D ≡ per = d ∙ ap (λ (k : ℕ). k * unit) (f (omega arith)) ∙ sym W.per_is in
      (take_at D R per l, drop_at D R per l)

  -- one block more in front of a peeled run
  module _ (number : ℕ) (b : List ℕ) (bs : List (List ℕ)) (l : length b ≡ 512) (o : Octs b) (e : kind_of b ≡ kind)
      (r : block_rule number kind (last_of_kind b bs) b ≡ true) (P : Peeled enc dec kind unit per (suc number) bs) where
    held : length (records_of b) ≡ count_of b * record_size kind
    held =
        let m = count_of b * record_size (kind_of b) in
        let k : m ≤ 505 = records_room (kind_of b) (count_of b) (block_count number kind (last_of_kind b bs) b r) in
        let n : length (records_of b) ≡ m = simp (length-take, length-drop) (omega arith) in
        n ∙ ap (λ (x : ℕ). count_of b * record_size x) e

    octs : Octs (records_of b)
    octs = octs_take (records_end b - 5) (octs_drop 5 o)

    all : gather dec kind (b ∷ bs) ≡ dec (records_of b) ++ gather dec kind bs
    unfolding gather
    all = rw (eq-eqb (kind_of b) kind e)

    sized : length (dec (records_of b)) ≡ count_of b * unit
    sized = Z.counted (records_of b) (count_of b) octs held

    most : count_of b ≤ most_records kind
    most = rw e at (block_count number kind (last_of_kind b bs) b r)

    is_full : 1 ≤ length P.run → count_of b ≡ most_records kind
    unfolding full_rule
    is_full h =
        let full = (keeps_of number kind (last_of_kind b bs) b r).full in
        eqb-true _ _ (rw (P.head h b e) at full) ∙ ap most_records e

    cuts : (take per (dec (records_of b) ++ gather dec kind bs) ≡ dec (records_of b)) × (drop per (dec (records_of b) ++ gather dec kind bs) ≡ gather dec kind bs)
    cuts = cut (dec (records_of b)) (gather dec kind bs) (length P.run) (count_of b) sized most P.enough is_full

    is_block : b ≡ block_of number kind (length (dec (records_of b)) / unit) (enc (dec (records_of b)))
    is_block =
        let q : count_of b ≡ length (dec (records_of b)) / unit = sym (ap (λ (x : ℕ). x / unit) sized ∙ mul-div_cancel (count_of b) W.unit_some) in
        let s : records_of b ≡ enc (dec (records_of b)) = sym (Z.forth (records_of b) (count_of b) octs held) in
        right_is o l number kind (last_of_kind b bs) r ∙ (λ i. block_of number (e i) (q i) (s i))

    more_peeled : Peeled enc dec kind unit per number (b ∷ bs)
    unfolding kind_blocks gather last_of_kind
    more_peeled =
        let n = length P.run in
        let t : take per (gather dec kind (b ∷ bs)) ≡ dec (records_of b) = ap (take per) all ∙ cuts.0 in
        let d : drop per (gather dec kind (b ∷ bs)) ≡ gather dec kind bs = ap (drop per) all ∙ cuts.1 in
        let low = kind_low number kind (last_of_kind b bs) b r in
        let G = length-append (dec (records_of b)) (gather dec kind bs) in
        let A = ap length all in
        let S = suc-mul n per in
        let u : 1 * 1 ≤ count_of b * unit = mul-le-mul low.2 W.unit_some in
        let v : count_of b * unit ≤ most_records kind * unit = mul-le-mul_right unit most in
        record {
          run = b ∷ P.run;
          rest = P.rest;
          parts = ap (λ (x : List (List ℕ)). b ∷ x) P.parts;
          run_is =
              λ i. (is_block ∙ (λ j. block_of number kind (length (sym t j) / unit) (enc (sym t j)))) i
              ∷ (P.run_is ∙ ap (kind_blocks enc kind unit per n (suc number)) (sym d)) i;
          enough = omega (arith, P.enough, sized, W.per_is);
          needed =
              ⊎_elim
              (λ h.
              let x : length (dec (records_of b)) ≡ per = sized ∙ ap (λ (k : ℕ). k * unit) (is_full h) ∙ sym W.per_is in
              omega (arith, P.needed))
              (λ h.
              let z : n ≡ 0 = omega arith in
              let y : n * per ≡ 0 = ap (λ (k : ℕ). k * per) z ∙ zero-mul per in
              omega (arith, sized))
              (le_or 1 n);
          head = λ h c k. ap not (eq-eqb _ _ (e ∙ sym k));
          left = let j : number + suc n ≡ suc number + n = omega arith in rw j P.left;
          left_fine = P.left_fine;
          other = λ f k h. rw (ne_eqb (kind_of b) k (λ x. h (sym e ∙ x))) (P.other f k h);
        }

  pub peel : (number : ℕ) {bs : List (List ℕ)} → Fine bs → blocks_rule number kind bs ≡ true → Peeled enc dec kind unit per number bs
  unfolding blocks_rows gather kind_blocks
  peel number no_blocks h =
      record {
        run = [];
        rest = [];
        parts = refl;
        run_is = refl;
        enough = omega arith;
        needed = omega (arith, zero-mul per, per_some);
        head = λ k b e. absurd (let z : ⊥ = omega arith in z);
        left = refl;
        left_fine = no_blocks;
        other = λ f k e. refl;
      }
  peel number (fine {b} {bs} l o F) h =
      let r = (blocks_first number kind b bs h).0 in
      let s = (blocks_first number kind b bs h).1 in
      let low = kind_low number kind (last_of_kind b bs) b r in
      ⊎_elim
      (λ t.
      let e : kind_of b ≡ kind = eqb-true _ _ t in
      more_peeled number b bs l o e r (peel (suc number) F (rw (add-one number, e) at s)))
      (λ t.
      let k : kind < kind_of b = above (kind_of b) low.0 (eqb-false _ _ t) in
      let none : gather dec kind (b ∷ bs) ≡ [] = none_above dec kind number (suc kind) (b ∷ bs) (omega arith) (blocks_onto number (suc kind) b bs (raise number kind (suc kind) (last_of_kind b bs) b r k) s) in
      let len : length (gather dec kind (b ∷ bs)) ≡ 0 = ap length none in
      record {
        run = [];
        rest = b ∷ bs;
        parts = refl;
        run_is = refl;
        enough = omega (arith, zero-mul per);
        needed = omega (arith, zero-mul per, per_some);
        head = λ j c x. absurd (let z : ⊥ = omega arith in z);
        left = rw (add-zero number) (blocks_onto number (suc kind) b bs (raise number kind (suc kind) (last_of_kind b bs) b r k) s);
        left_fine = fine l o F;
        other = λ f j e. refl;
      })
      (true_or (eqb (kind_of b) kind))
    where
      above : (x : ℕ) → kind ≤ x → (x ≡ kind → ⊥) → kind < x
      above x h n = ⊎_elim (λ e. absurd (n (sym e))) (λ g. g) (eq-or-lt_of_le h)
