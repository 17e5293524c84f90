-- Blocks of 512 octets, joined and taken apart again. Assumes nothing.
use mathlib.Core.Path.{◌≡◌, refl, sym, ap, ◌∙◌}
use mathlib.Core.List.{List, [], ◌∷◌, ◌++◌, append_assoc, append-nil}
use Prim.Native.Nat.{ℕ, zero, suc, min, ◌+◌, ◌*◌, ◌-◌, ◌/◌, ◌≤◌, ◌<◌}
use native.Mathlib.Nat.{zero-mul, suc-mul, add-zero, add-sub_cancel_left, not-suc-le-zero}
use native.Mathlib.Numerals.{add-one}
use native.Mathlib.Omega.{arith}
use lib.ListN.{length, get_or, take, drop, length-append, length-take, length-drop}
use lib.Seq.{take_at, drop_at, take-suc, take_all, length-take-le, drop-drop}
use Rattle.card_load.specs.Card.{blocks, blocks_of, octets}
use Rattle.ground.specs.Lists.{laid}
use Rattle.ground.specs.Words.{octets_of}
use Rattle.card_fill.specs.Filled.{block_of}
use Rattle.ground.proofs.Laying.{laid_nothing, laid_length, turn}
use Rattle.ground.proofs.Words.{octets_length}
use Rattle.card_fill.proofs.Making.{written_length}
use Rattle.catalogue_tables.specs.Tables.{Tables}
use Rattle.card_write.specs.Card.{kind_blocks, words_take, octets_take, word_blocks, text_blocks, joined, tracks_from, segments_from, text_from, blocks_taken, catalogue_blocks, card_of}
use Rattle.card_write.proofs.Runs.{Long}
use Rattle.card_write.proofs.Runs.Long.{none, more}

pub joined_append : (a b : List (List ℕ)) → joined (a ++ b) ≡ joined a ++ joined b
unfolding joined
joined_append [] b = refl
joined_append (x ∷ a) b = ap (λ (l : List ℕ). x ++ l) (joined_append a b) ∙ sym (append_assoc x (joined a) (joined b))

pub joined_length : {bs : List (List ℕ)} → Long bs → length (joined bs) ≡ length bs * 512
unfolding joined
joined_length none = refl
joined_length (more {b} {bs} h l) = omega (arith, length-append b (joined bs), joined_length l)

blocks_joined : {bs : List (List ℕ)} → Long bs → blocks (length bs) (joined bs) ≡ bs
unfolding joined blocks
blocks_joined none = refl
blocks_joined (more {b} {bs} h l) =
    let t : take 512 (b ++ joined bs) ≡ b = take_at b (joined bs) 512 h in
    let d : drop 512 (b ++ joined bs) ≡ joined bs = drop_at b (joined bs) 512 h in
    λ i. t i ∷ (ap (blocks (length bs)) d ∙ blocks_joined l) i

pub blocks_back : {bs : List (List ℕ)} → Long bs → blocks_of (joined bs) ≡ bs
blocks_back {bs} l =
    let n : length (joined bs) / 512 ≡ length bs = omega (arith, joined_length l) in
    ap (λ (k : ℕ). blocks k (joined bs)) n ∙ blocks_joined l

pub kind_length : (enc : List ℕ → List ℕ) (kind unit per n number : ℕ) (table : List ℕ) → length (kind_blocks enc kind unit per n number table) ≡ n
unfolding kind_blocks
kind_length enc kind unit per zero number table = refl
kind_length enc kind unit per (suc n) number table = ap suc (kind_length enc kind unit per n (suc number) (drop per table))

kind_at : (enc : List ℕ → List ℕ) (kind unit per n number : ℕ) (table : List ℕ) (i : ℕ) → i < n
    → get_or (kind_blocks enc kind unit per n number table) i []
    ≡ block_of (number + i) kind (length (take per (drop (i * per) table)) / unit) (enc (take per (drop (i * per) table)))
unfolding kind_blocks
kind_at enc kind unit per zero number table i h = absurd (not-suc-le-zero h)
kind_at enc kind unit per (suc n) number table zero h = rw (zero-mul per, add-zero number)
kind_at enc kind unit per (suc n) number table (suc i) h =
    let e : per + i * per ≡ suc i * per = omega (arith, suc-mul i per) in
    let m : suc number + i ≡ number + suc i = omega arith in
    kind_at enc kind unit per n (suc number) (drop per table) i (omega arith)
    ∙ rw (m, drop-drop (i * per) per table, e)

-- the block that a loop makes of m elements from place i * per on is the next one
pub kind_next : (enc : List ℕ → List ℕ) (kind unit per n number : ℕ) (table : List ℕ) (i m : ℕ) → i < n → m ≡ min per (length table - i * per)
    → block_of (number + i) kind (m / unit) (enc (take (i * per + m - i * per) (drop (i * per) table)))
    ≡ get_or (kind_blocks enc kind unit per n number table) i []
kind_next enc kind unit per n number table i m h e =
    let w = drop (i * per) table in
    let l : length (take per w) ≡ m = length-take per w ∙ ap (min per) (length-drop (i * per) table) ∙ sym e in
    let t : take (i * per + m - i * per) w ≡ take per w =
    ap (λ (k : ℕ). take k w) (add-sub_cancel_left (i * per) m ∙ sym l) ∙ take_front per w in
    (λ j. block_of (number + i) kind (sym l j / unit) (enc (t j))) ∙ sym (kind_at enc kind unit per n number table i h)
  where
    take_front : (k : ℕ) (w : List ℕ) → take (length (take k w)) w ≡ take k w
    take_front zero w = refl
    take_front (suc k) [] = refl
    take_front (suc k) (x ∷ w) = ap (λ (l : List ℕ). x ∷ l) (take_front k w)

pub kind_long : (enc : List ℕ → List ℕ) (kind unit per : ℕ) → ((s : List ℕ) → length s ≤ per → length (enc s) ≤ 505)
    → (n number : ℕ) (table : List ℕ) → Long (kind_blocks enc kind unit per n number table)
unfolding kind_blocks
kind_long enc kind unit per f zero number table = none
kind_long enc kind unit per f (suc n) number table =
    let s = take per table in
    let k : length s ≤ per = rw length-take (omega arith) in
    more (written_length number kind (length s / unit) (enc s) (f s k)) (kind_long enc kind unit per f n (suc number) (drop per table))

long_take : {bs : List (List ℕ)} → Long bs → (i : ℕ) → Long (take i bs)
long_take l zero = none
long_take none (suc i) = none
long_take (more h l) (suc i) = more h (long_take l i)

long_at : {bs : List (List ℕ)} → Long bs → (i : ℕ) → i < length bs → length (get_or bs i []) ≡ 512
long_at none i h = absurd (not-suc-le-zero h)
long_at (more h l) zero k = h
long_at (more {b} {bs} h l) (suc i) k = long_at l i (omega arith)

joined_more : (bs : List (List ℕ)) (i : ℕ) → i < length bs → joined (take (i + 1) bs) ≡ joined (take i bs) ++ get_or bs i []
unfolding joined
joined_more bs i h =
    rw (add-one i, take-suc bs i [] h)
    (joined_append (take i bs) (get_or bs i [] ∷ []) ∙ ap (λ (l : List ℕ). joined (take i bs) ++ l) (append-nil (get_or bs i [])))

-- a loop that lays blocks over a card, from block first on: the first i of them are laid
pub record Laying (bs : List (List ℕ)) (first : ℕ) (old card : List ℕ) (i : ℕ) : Type 0 where
  pub same : length card ≡ length old
  pub laid_so_far : card ≡ laid old (first * 512) (joined (take i bs))

module _ (bs : List (List ℕ)) (first : ℕ) (old : List ℕ) where
  pub laying_start : Laying bs first old old 0
  unfolding joined
  laying_start = record { same = refl; laid_so_far = laid_nothing old (first * 512) }

  module _ (L : Long bs) (room : (first + length bs) * 512 ≤ length old) (card : List ℕ) (i : ℕ) (F : Laying bs first old card i) where
    pub laying_next : (b new : List ℕ) → i < length bs → b ≡ get_or bs i [] → new ≡ laid card ((first + i) * 512) b → Laying bs first old new (i + 1)
    laying_next b new h p q =
        let z : length b ≡ 512 = ap length p ∙ long_at L i h in
        let n : length (joined (take i bs)) ≡ i * 512 =
        joined_length (long_take L i) ∙ ap (λ (k : ℕ). k * 512) (length-take-le i bs (omega arith)) in
        record {
          same = ap length q ∙ laid_length card ((first + i) * 512) b (omega (arith, F.same)) ∙ F.same;
          laid_so_far =
              turn old (first * 512) (joined (take i bs)) b card new ((first + i) * 512) F.laid_so_far q (omega arith) (omega arith)
              ∙ ap (laid old (first * 512)) (ap (λ (l : List ℕ). joined (take i bs) ++ l) p ∙ sym (joined_more bs i h));
        }

    pub laying_end : length bs ≤ i → card ≡ laid old (first * 512) (joined bs)
    laying_end h = F.laid_so_far ∙ ap (λ (l : List (List ℕ)). laid old (first * 512) (joined l)) (take_all i bs h)

-- the same for a table of words and for a text
pub words_many : (kind unit number : ℕ) (table : List ℕ) → length (word_blocks kind unit number table) ≡ words_take (length table)
unfolding word_blocks
words_many kind unit number table = kind_length octets_of kind unit 126 (words_take (length table)) number table

pub words_long : (kind unit number : ℕ) (table : List ℕ) → Long (word_blocks kind unit number table)
unfolding word_blocks
words_long kind unit number table =
    kind_long octets_of kind unit 126 (λ s h. omega (arith, octets_length s)) (words_take (length table)) number table

pub words_next : (kind unit number : ℕ) (table : List ℕ) (i m : ℕ) → i < words_take (length table) → m ≡ min 126 (length table - i * 126)
    → block_of (number + i) kind (m / unit) (octets_of (take (i * 126 + m - i * 126) (drop (i * 126) table))) ≡ get_or (word_blocks kind unit number table) i []
unfolding word_blocks
words_next kind unit number table i m h e = kind_next octets_of kind unit 126 (words_take (length table)) number table i m h e

pub text_many : (number : ℕ) (text : List ℕ) → length (text_blocks number text) ≡ octets_take (length text)
unfolding text_blocks
text_many number text = kind_length octets 4 1 505 (octets_take (length text)) number text

pub text_long : (number : ℕ) (text : List ℕ) → Long (text_blocks number text)
unfolding text_blocks
text_long number text = kind_long octets 4 1 505 (λ s h. h) (octets_take (length text)) number text

pub text_next : (number : ℕ) (text : List ℕ) (i m : ℕ) → i < octets_take (length text) → m ≡ min 505 (length text - i * 505)
    → block_of (number + i) 4 m (take (i * 505 + m - i * 505) (drop (i * 505) text)) ≡ get_or (text_blocks number text) i []
unfolding text_blocks
text_next number text i m h e =
    let q : m ≡ m / 1 = omega arith in
    ap (λ (k : ℕ). block_of (number + i) 4 k (take (i * 505 + m - i * 505) (drop (i * 505) text))) q
    ∙ kind_next octets 4 1 505 (octets_take (length text)) number text i m h e

-- the four tables' blocks, laid one run behind the other
pub card_laid : (k : Tables) (old c1 c2 c3 c4 : List ℕ) → blocks_taken k * 512 ≤ length old
    → c1 ≡ laid old 0 (joined (word_blocks 1 3 0 k.groups))
    → c2 ≡ laid c1 (tracks_from k * 512) (joined (word_blocks 2 6 (tracks_from k) k.tracks))
    → c3 ≡ laid c2 (segments_from k * 512) (joined (word_blocks 3 1 (segments_from k) k.segments))
    → c4 ≡ laid c3 (text_from k * 512) (joined (text_blocks (text_from k) k.text))
    → c4 ≡ laid old 0 (card_of k)
unfolding card_of catalogue_blocks
card_laid k old c1 c2 c3 c4 room p1 p2 p3 p4 =
    let B1 = word_blocks 1 3 0 k.groups in
    let B2 = word_blocks 2 6 (tracks_from k) k.tracks in
    let B3 = word_blocks 3 1 (segments_from k) k.segments in
    let B4 = text_blocks (text_from k) k.text in
    let l1 = joined_length (words_long 1 3 0 k.groups) in
    let l2 = joined_length (words_long 2 6 (tracks_from k) k.tracks) in
    let l3 = joined_length (words_long 3 1 (segments_from k) k.segments) in
    let l4 = joined_length (text_long (text_from k) k.text) in
    let m1 = words_many 1 3 0 k.groups in
    let m2 = words_many 2 6 (tracks_from k) k.tracks in
    let m3 = words_many 3 1 (segments_from k) k.segments in
    let m4 = text_many (text_from k) k.text in
    let a1 = length-append (joined B1) (joined B2) in
    let a2 = length-append (joined B1 ++ joined B2) (joined B3) in
    let t2 = turn old 0 (joined B1) (joined B2) c1 c2 (tracks_from k * 512) p1 p2 (omega arith) (omega arith) in
    let t3 = turn old 0 (joined B1 ++ joined B2) (joined B3) c2 c3 (segments_from k * 512) t2 p3 (omega arith) (omega arith) in
    let t4 = turn old 0 (joined B1 ++ joined B2 ++ joined B3) (joined B4) c3 c4 (text_from k * 512) t3 p4 (omega arith) (omega arith) in
    t4 ∙ ap (laid old 0) (sym (simp (joined_append, append_assoc)))
