-- In the card of a catalogue every block but the last of its kind is full (SCOPE 3.15). Assumes nothing.
use mathlib.Core.Path.{◌≡◌, refl, sym, ap, ◌∙◌}
use mathlib.Core.Bool.{Bool, true, false, not, ◌||◌}
use mathlib.Core.List.{List, [], ◌∷◌, ◌++◌, append-nil}
use Prim.Native.Nat.{ℕ, zero, suc, ◌+◌, ◌*◌, ◌-◌, ◌/◌}
use native.Mathlib.Nat.{suc-mul}
use native.Mathlib.Omega.{arith}
use borrow.Author.Tests.{eqb-true, eq-eqb}
use lib.Dec.{eqb}
use lib.ListN.{length, take, drop}
use Rattle.ground.specs.Words.{octets_of}
use Rattle.card_block.specs.Block.{kind_of, count_of, most_records, full_rule}
use Rattle.card_load.specs.Card.{last_of_kind, octets}
use Rattle.catalogue_tables.specs.Tables.{Tables}
use Rattle.card_fill.specs.Filled.{front_of, block_of}
use Rattle.card_fill.proofs.Right.{block_count}
use Rattle.card_write.specs.Card.{kind_blocks, words_take, octets_take, word_blocks, text_blocks, tracks_from, segments_from, text_from, catalogue_blocks, FullButLast}
use Rattle.card_write.proofs.Runs.{Way, Takes, first}
use Rattle.card_write.proofs.Loading.{Sized, groups_way, tracks_way, segments_way, text_way, groups_take, tracks_take, segments_take, text_take}

-- the kind of the first block, 0 where there is none
abbrev next_kind : List (List ℕ) → ℕ
next_kind [] = 0
next_kind (b ∷ bs) = kind_of b

-- a block that is full if one of its kind stands behind it
full_by : (b : List ℕ) (bs : List (List ℕ)) → (next_kind bs ≡ kind_of b → count_of b ≡ most_records (kind_of b)) → full_rule (last_of_kind b bs) b ≡ true
unfolding full_rule last_of_kind
full_by b [] h = refl
full_by b (c ∷ bs) h = at (eqb (kind_of c) (kind_of b)) refl
  where
    at : (t : Bool) → eqb (kind_of c) (kind_of b) ≡ t → (not t || eqb (count_of b) (most_records (kind_of b))) ≡ true
    at true e = eq-eqb _ _ (h (eqb-true _ _ e))
    at false e = refl

kind_of_lem : (number kind count : ℕ) (records : List ℕ) → kind_of (block_of number kind count records) ≡ kind
unfolding block_of front_of
kind_of_lem number kind count records = refl

-- a run of another kind begins with that kind, or is none
begins : (enc : List ℕ → List ℕ) (kind unit per n number : ℕ) (table : List ℕ) (rest : List (List ℕ)) (other : ℕ)
    → (kind ≡ other → ⊥) → (next_kind rest ≡ other → ⊥) → next_kind (kind_blocks enc kind unit per n number table ++ rest) ≡ other → ⊥
unfolding kind_blocks
begins enc kind unit per zero number table rest other h r e = r e
begins enc kind unit per (suc n) number table rest other h r e = h (sym (kind_of_lem number kind _ _) ∙ e)

module _ {enc dec : List ℕ → List ℕ} {kind unit per : ℕ} (W : Way enc dec kind unit per) where
  -- a block with another of the run behind it is full
  full_if : (n c number : ℕ) (table : List ℕ) (q : ℕ) (rest : List (List ℕ)) → (next_kind rest ≡ kind → ⊥) → Takes (most_records kind) c (suc n) → q + (c - most_records kind) ≡ c
      → next_kind (kind_blocks enc kind unit per n number table ++ rest) ≡ kind → q ≡ most_records kind
  unfolding kind_blocks
  full_if zero c number table q rest r t a e = absurd (r e)
  full_if (suc n) c number table q rest r t a e =
      omega (arith, t.needed, suc-mul (suc n) (most_records kind), suc-mul n (most_records kind))

  full_run : (n c number : ℕ) (table : List ℕ) → length table ≡ c * unit → Takes (most_records kind) c n
      → (rest : List (List ℕ)) → (next_kind rest ≡ kind → ⊥) → FullButLast rest → FullButLast (kind_blocks enc kind unit per n number table ++ rest)
  unfolding kind_blocks
  full_run zero c number table l t rest r f = f
  full_run (suc n) c number table l t rest r f =
      let F = first unit per (most_records kind) c n table W.per_is W.unit_some W.most_some l t in
      let part = take per table in
      let q = length part / unit in
      let K = kind_of_lem number kind q (enc part) in
      let C = block_count number kind q (enc part) F.fits (W.size part q F.whole) in (
        full_by (block_of number kind q (enc part)) _ (λ e. C ∙ full_if n c (suc number) (drop per table) q rest r t F.all (e ∙ K) ∙ ap most_records (sym K)),
        full_run n (c - most_records kind) (suc number) (drop per table) F.left F.on rest r f,
      )

module _ (k : Tables) (g t s x : ℕ) (H : Sized k g t s x) where
  pub blocks_full : FullButLast (catalogue_blocks k)
  unfolding catalogue_blocks word_blocks text_blocks
  blocks_full =
      let n2 = words_take (length k.tracks) in
      let n3 = words_take (length k.segments) in
      let n4 = octets_take (length k.text) in
      let B4 = text_blocks (text_from k) k.text in
      let B3 = word_blocks 3 1 (segments_from k) k.segments in
      let none : (kind : ℕ) → (0 ≡ kind → ⊥) → (4 ≡ kind → ⊥) → next_kind B4 ≡ kind → ⊥ =
      λ kind z h. (let r : next_kind (B4 ++ []) ≡ kind → ⊥ = begins octets 4 1 505 n4 (text_from k) k.text [] kind h z in rw (append-nil B4) at r) in
      let f4 : FullButLast B4 = rw (append-nil B4) at (full_run text_way n4 x (text_from k) k.text H.text_is (text_take k g t s x H) [] (λ e. omega arith) tt) in
      let f3 = full_run segments_way n3 s (segments_from k) k.segments H.segments_are (segments_take k g t s x H) B4 (none 3 (λ e. omega arith) (λ e. omega arith)) f4 in
      let f2 = full_run tracks_way n2 t (tracks_from k) k.tracks H.tracks_are (tracks_take k g t s x H) (B3 ++ B4)
      (begins octets_of 3 1 126 n3 (segments_from k) k.segments B4 2 (λ e. omega arith) (none 2 (λ e. omega arith) (λ e. omega arith))) f3 in
      full_run groups_way (words_take (length k.groups)) g 0 k.groups H.groups_are (groups_take k g t s x H) _
      (begins octets_of 2 6 126 n2 (tracks_from k) k.tracks (B3 ++ B4) 1 (λ e. omega arith)
      (begins octets_of 3 1 126 n3 (segments_from k) k.segments B4 1 (λ e. omega arith) (none 1 (λ e. omega arith) (λ e. omega arith)))) f2
