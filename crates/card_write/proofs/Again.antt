-- Writing what was loaded gives the card back, for every right card. Assumes nothing.
use mathlib.Core.Path.{◌≡◌, refl, sym, ap, ◌∙◌}
use mathlib.Core.Bool.{true}
use mathlib.Core.List.{List, [], ◌∷◌, ◌++◌, append-nil}
use Prim.Native.Nat.{ℕ, zero, suc, ◌+◌, ◌*◌, ◌/◌, ◌%◌}
use native.Mathlib.Nat.{mul_assoc}
use native.Mathlib.Omega.{arith}
use borrow.Author.Tests.{eqb-true}
use lib.Dec.{eqb, leb}
use lib.ListN.{length, take, drop, length-drop, take-append-drop}
use Rattle.ground.specs.Words.{Octs, words, octets_of}
use Rattle.ground.proofs.Cases.{and_left}
use Rattle.card_block.specs.Block.{record_size}
use Rattle.card_load.specs.Card.{blocks, length_rule, blocks_of, last_of_kind, blocks_rule, gather, octets}
use Rattle.card_load.proofs.Lengths.{blocks_first}
use Rattle.ground.proofs.Words.{octets_length}
use Rattle.catalogue_tables.specs.Tables.{Tables, tables}
use Rattle.card_write.specs.Card.{kind_blocks, words_take, octets_take, word_blocks, text_blocks, joined, catalogue_blocks, card_of}
use Rattle.card_write.proofs.Loading.{groups_way, tracks_way, segments_way, text_way}
use Rattle.ground.proofs.Octets.{octets_words}
use Rattle.card_write.proofs.Peeling.{Fine, fine_of, WayBack, Peeled, peel, kind_low}

words_back : (kind unit : ℕ) → record_size kind ≡ unit * 4 → WayBack octets_of words kind unit
words_back kind unit e =
    record {
      forth = forth;
      counted = λ s c o h. omega (arith, octets_length (words s), ap length (forth s c o h), size s c h);
    }
  where
    size : (s : List ℕ) (c : ℕ) → length s ≡ c * record_size kind → length s ≡ c * unit * 4
    size s c h = h ∙ ap (λ (n : ℕ). c * n) e ∙ sym (mul_assoc c unit 4)

    forth : (s : List ℕ) (c : ℕ) → Octs s → length s ≡ c * record_size kind → octets_of (words s) ≡ s
    forth s c o h = octets_words (c * unit) o (h ∙ ap (λ (n : ℕ). c * n) e ∙ sym (mul_assoc c unit 4))

text_back : WayBack octets octets 4 1
unfolding record_size
text_back = record { forth = λ s c o h. refl; counted = λ s c o h. h }

module _ {kind unit number : ℕ} {bs : List (List ℕ)} (P : Peeled octets_of words kind unit 126 number bs) (table : List ℕ) (t : table ≡ gather words kind bs) where
  run_many : words_take (length table) ≡ length P.run
  run_many = omega (arith, P.enough, P.needed, ap length t)

  run_words : (from : ℕ) → from ≡ number → word_blocks kind unit from table ≡ P.run
  unfolding word_blocks
  run_words from n = (λ i. kind_blocks octets_of kind unit 126 (run_many i) (n i) (t i)) ∙ sym P.run_is

run_text : {number : ℕ} {bs : List (List ℕ)} (P : Peeled octets octets 4 1 505 number bs) (text : List ℕ) → text ≡ gather octets 4 bs
    → (from : ℕ) → from ≡ number → text_blocks from text ≡ P.run
unfolding text_blocks
run_text P text t from n =
    let m : octets_take (length text) ≡ length P.run = omega (arith, P.enough, P.needed, ap length t) in
    (λ i. kind_blocks octets 4 1 505 (m i) (n i) (t i)) ∙ sym P.run_is

none_five : (number : ℕ) (bs : List (List ℕ)) → blocks_rule number 5 bs ≡ true → bs ≡ []
none_five number [] h = refl
none_five number (b ∷ bs) h =
    let low = kind_low number 5 (last_of_kind b bs) b (blocks_first number 5 b bs h).0 in
    absurd (let z : ⊥ = omega (arith, low.0, low.1) in z)

joined_blocks : (n : ℕ) (card : List ℕ) → length card ≡ n * 512 → joined (blocks n card) ≡ card
unfolding joined blocks
joined_blocks zero [] h = refl
joined_blocks zero (x ∷ card) h = absurd (let z : ⊥ = omega arith in z)
joined_blocks (suc n) card h =
    ap (λ (l : List ℕ). take 512 card ++ l) (joined_blocks n (drop 512 card) (length-drop 512 card ∙ omega arith))
    ∙ take-append-drop 512 card

-- the tables that blocks hold
abbrev pub held_by : List (List ℕ) → Tables
held_by bs = tables (gather words 1 bs) (gather words 2 bs) (gather words 3 bs) (gather octets 4 bs)

blocks_again : (bs : List (List ℕ)) → Fine bs → blocks_rule 0 1 bs ≡ true
    → catalogue_blocks (held_by bs) ≡ bs
unfolding catalogue_blocks record_size
blocks_again bs F h =
    let P1 = peel groups_way (words_back 1 3 refl) 0 F h in
    let P2 = peel tracks_way (words_back 2 6 refl) _ P1.left_fine P1.left in
    let P3 = peel segments_way (words_back 3 1 refl) _ P2.left_fine P2.left in
    let P4 = peel text_way text_back _ P3.left_fine P3.left in
    let t2 : gather words 2 bs ≡ gather words 2 P1.rest = P1.other words 2 (λ e. omega arith) in
    let t3 : gather words 3 bs ≡ gather words 3 P2.rest = P1.other words 3 (λ e. omega arith) ∙ P2.other words 3 (λ e. omega arith) in
    let t4 : gather octets 4 bs ≡ gather octets 4 P3.rest =
    P1.other octets 4 (λ e. omega arith) ∙ P2.other octets 4 (λ e. omega arith) ∙ P3.other octets 4 (λ e. omega arith) in
    let m1 = run_many P1 (gather words 1 bs) refl in
    let m2 = run_many P2 (gather words 2 bs) t2 in
    let m3 = run_many P3 (gather words 3 bs) t3 in
    let r1 = run_words P1 (gather words 1 bs) refl 0 refl in
    let r2 = run_words P2 (gather words 2 bs) t2 (words_take (length (gather words 1 bs))) (omega arith) in
    let r3 = run_words P3 (gather words 3 bs) t3 (words_take (length (gather words 1 bs)) + words_take (length (gather words 2 bs))) (omega arith) in
    let r4 = run_text P4 (gather octets 4 bs) t4
    (words_take (length (gather words 1 bs)) + words_take (length (gather words 2 bs)) + words_take (length (gather words 3 bs))) (omega arith) in
    let z : P4.rest ≡ [] = none_five _ P4.rest P4.left in
    (λ i. r1 i ++ (r2 i ++ (r3 i ++ r4 i)))
    ∙ sym (P1.parts
    ∙ ap (λ (l : List (List ℕ)). P1.run ++ l) (P2.parts
    ∙ ap (λ (l : List (List ℕ)). P2.run ++ l) (P3.parts
    ∙ ap (λ (l : List (List ℕ)). P3.run ++ l) (P4.parts ∙ ap (λ (l : List (List ℕ)). P4.run ++ l) z ∙ append-nil P4.run))))

-- THE way back: a card that the reader's rules pass is the card of the tables that it holds
pub card_again : (card : List ℕ) → Octs card → length_rule card ≡ true → blocks_rule 0 1 (blocks_of card) ≡ true
    → card_of (held_by (blocks_of card)) ≡ card
unfolding card_of length_rule
card_again card o l h =
    let n = length card / 512 in
    let m : length card % 512 ≡ 0 = eqb-true _ _ (and_left (eqb (length card % 512) 0) (leb (length card) 65536) l) in
    let e : length card ≡ n * 512 = omega arith in
    ap joined (blocks_again (blocks_of card) (fine_of n card (omega arith) o) h) ∙ joined_blocks n card e
