-- The round trip: loading the card of four tables gives them back. Assumes nothing.
use mathlib.Core.Path.{◌≡◌, refl, sym, ap, ◌∙◌}
use mathlib.Core.Bool.{true}
use mathlib.Core.List.{List, [], ◌∷◌, ◌++◌, append-nil}
use Prim.Native.Nat.{ℕ, ◌+◌, ◌*◌, ◌/◌, ◌%◌, ◌≤◌}
use native.Mathlib.Nat.{mul_assoc, zero-add}
use native.Mathlib.Omega.{arith}
use borrow.Author.Tests.{eq-eqb, le-leb}
use lib.ListN.{length, length-append}
use Rattle.ground.specs.Refusals.{granted}
use Rattle.ground.specs.Words.{words, octets_of}
use Rattle.ground.proofs.Cases.{and_both}
use Rattle.card_block.specs.Block.{record_size, most_records}
use Rattle.card_load.specs.Card.{length_rule, blocks_of, blocks_rows, blocks_rule, record_count, gather, octets}
use Rattle.card_load.specs.Load.{room_rule, load_said}
use Rattle.card_load.proofs.Answers.{says_done}
use Rattle.ground.proofs.Words.{octets_length, words_octets}
use Rattle.catalogue_tables.specs.Tables.{Tables}
use Rattle.card_write.specs.Card.{words_take, octets_take, word_blocks, text_blocks, tracks_from, segments_from, text_from, blocks_taken, catalogue_blocks, card_of, FullButLast}
use Rattle.card_write.proofs.Runs.{Way, Takes, Reads, Long, reads}
use Rattle.card_write.proofs.Runs.Long.{none}
use Rattle.card_write.proofs.Joining.{joined_length, blocks_back, kind_length}

words_size : (kind unit : ℕ) → record_size kind ≡ unit * 4 → (s : List ℕ) (c : ℕ) → length s ≡ c * unit → length (octets_of s) ≡ c * record_size kind
words_size kind unit e s c h =
    octets_length s ∙ ap (λ (n : ℕ). n * 4) h ∙ mul_assoc c unit 4 ∙ ap (λ (n : ℕ). c * n) (sym e)

-- how the records of each of the four kinds are written and read (SCOPE 3.3)
pub groups_way : Way octets_of words 1 3 126
unfolding record_size most_records
groups_way =
    record { back = words_octets; size = words_size 1 3 refl; per_is = refl; unit_some = omega arith; most_some = omega arith; kind_is = omega arith }

pub tracks_way : Way octets_of words 2 6 126
unfolding record_size most_records
tracks_way =
    record { back = words_octets; size = words_size 2 6 refl; per_is = refl; unit_some = omega arith; most_some = omega arith; kind_is = omega arith }

pub segments_way : Way octets_of words 3 1 126
unfolding record_size most_records
segments_way =
    record { back = words_octets; size = words_size 3 1 refl; per_is = refl; unit_some = omega arith; most_some = omega arith; kind_is = omega arith }

pub text_way : Way octets octets 4 1 505
unfolding record_size most_records
text_way =
    record { back = λ s. refl; size = λ s c h. h; per_is = refl; unit_some = omega arith; most_some = omega arith; kind_is = omega arith }

-- blocks that are full but for the last of each kind are so behind any of them
full_behind : (bs rest : List (List ℕ)) → FullButLast (bs ++ rest) → FullButLast rest
full_behind [] rest f = f
full_behind (b ∷ bs) rest f = full_behind bs rest f.1

-- four runs of blocks, one behind the other
module _ (n1 n2 n3 n4 g t s x : ℕ) (groups tracks segments text : List ℕ) (B1 B2 B3 B4 : List (List ℕ))
    (G : Reads words 1 g n1 0 groups B1) (T : Reads words 2 t n2 n1 tracks B2)
    (S : Reads words 3 s n3 (n1 + n2) segments B3) (X : Reads octets 4 x n4 (n1 + n2 + n3) text B4) where
  runs_right : FullButLast (B1 ++ (B2 ++ (B3 ++ B4))) → blocks_rule 0 1 (B1 ++ (B2 ++ (B3 ++ B4))) ≡ true
  unfolding blocks_rows
  runs_right full1 =
      let full2 = full_behind B1 (B2 ++ (B3 ++ B4)) full1 in
      let full3 = full_behind B2 (B3 ++ B4) full2 in
      let full4 : FullButLast (B4 ++ []) = rw (append-nil B4) (full_behind B3 B4 full3) in
      G.right 1 (omega arith) (B2 ++ (B3 ++ B4)) full1
      (λ low1 h1. rw (zero-add n1) (T.right low1 (omega arith) (B3 ++ B4) full2
      (λ low2 h2. S.right low2 (omega arith) B4 full3
      (λ low3 h3. rw (append-nil B4) at (X.right low3 (omega arith) [] full4 (λ low4 h4. refl))))))

  runs_long : Long (B1 ++ (B2 ++ (B3 ++ B4)))
  runs_long = G.long _ (T.long _ (S.long _ (rw (append-nil B4) at (X.long [] none))))

  none_of_text : (f : List ℕ → List ℕ) (k : ℕ) → (4 ≡ k → ⊥) → gather f k B4 ≡ []
  unfolding gather
  none_of_text f k h = rw (append-nil B4) at (X.other f k [] h)

  none_counted : (k : ℕ) → (4 ≡ k → ⊥) → record_count k B4 ≡ 0
  unfolding record_count
  none_counted k h = rw (append-nil B4) at (X.other_count k [] h)

  runs_groups : gather words 1 (B1 ++ (B2 ++ (B3 ++ B4))) ≡ groups
  runs_groups =
      G.own (B2 ++ (B3 ++ B4))
      ∙ ap (λ (l : List ℕ). groups ++ l)
      (T.other words 1 (B3 ++ B4) (λ e. omega arith) ∙ S.other words 1 B4 (λ e. omega arith) ∙ none_of_text words 1 (λ e. omega arith))
      ∙ append-nil groups

  runs_tracks : gather words 2 (B1 ++ (B2 ++ (B3 ++ B4))) ≡ tracks
  runs_tracks =
      G.other words 2 (B2 ++ (B3 ++ B4)) (λ e. omega arith)
      ∙ T.own (B3 ++ B4)
      ∙ ap (λ (l : List ℕ). tracks ++ l) (S.other words 2 B4 (λ e. omega arith) ∙ none_of_text words 2 (λ e. omega arith))
      ∙ append-nil tracks

  runs_segments : gather words 3 (B1 ++ (B2 ++ (B3 ++ B4))) ≡ segments
  runs_segments =
      G.other words 3 (B2 ++ (B3 ++ B4)) (λ e. omega arith)
      ∙ T.other words 3 (B3 ++ B4) (λ e. omega arith)
      ∙ S.own B4
      ∙ ap (λ (l : List ℕ). segments ++ l) (none_of_text words 3 (λ e. omega arith))
      ∙ append-nil segments

  runs_text : gather octets 4 (B1 ++ (B2 ++ (B3 ++ B4))) ≡ text
  unfolding gather
  runs_text =
      G.other octets 4 (B2 ++ (B3 ++ B4)) (λ e. omega arith)
      ∙ T.other octets 4 (B3 ++ B4) (λ e. omega arith)
      ∙ S.other octets 4 B4 (λ e. omega arith)
      ∙ (rw (append-nil B4) at (X.own []))
      ∙ append-nil text

  runs_counts : (record_count 1 (B1 ++ (B2 ++ (B3 ++ B4))) ≡ g) × (record_count 2 (B1 ++ (B2 ++ (B3 ++ B4))) ≡ t)
      × (record_count 3 (B1 ++ (B2 ++ (B3 ++ B4))) ≡ s) × (record_count 4 (B1 ++ (B2 ++ (B3 ++ B4))) ≡ x)
  unfolding record_count
  runs_counts =
      let r3 = B3 ++ B4 in
      let r2 = B2 ++ (B3 ++ B4) in
      let x4 : record_count 4 B4 ≡ x + 0 = rw (append-nil B4) at (X.own_count []) in (
        omega (arith, G.own_count r2, T.other_count 1 r3 (λ e. omega arith), S.other_count 1 B4 (λ e. omega arith), none_counted 1 (λ e. omega arith)),
        omega (arith, G.other_count 2 r2 (λ e. omega arith), T.own_count r3, S.other_count 2 B4 (λ e. omega arith), none_counted 2 (λ e. omega arith)),
        omega (arith, G.other_count 3 r2 (λ e. omega arith), T.other_count 3 r3 (λ e. omega arith), S.own_count B4, none_counted 3 (λ e. omega arith)),
        omega (arith, G.other_count 4 r2 (λ e. omega arith), T.other_count 4 r3 (λ e. omega arith), S.other_count 4 B4 (λ e. omega arith), x4),
      )

-- four tables of g groups, t tracks, s segments and x octets of text, within the limits
pub record Sized (k : Tables) (g t s x : ℕ) : Type 0 where
  pub groups_are : length k.groups ≡ g * 3
  pub tracks_are : length k.tracks ≡ t * 6
  pub segments_are : length k.segments ≡ s * 1
  pub text_is : length k.text ≡ x * 1
  pub groups_few : g ≤ 64
  pub tracks_few : t ≤ 256
  pub segments_few : s ≤ 1024
  pub text_short : x ≤ 32768

-- what loading a card makes of the four tables
pub record Loads (card : List ℕ) (k : Tables) (g t s x : ℕ) : Type 0 where
  pub said : (a b c d : ℕ) → length k.groups ≤ a → length k.tracks ≤ b → length k.segments ≤ c → length k.text ≤ d
      → granted (g ∷ t ∷ s ∷ x ∷ []) ≡ load_said card a b c d
  pub groups_back : gather words 1 (blocks_of card) ≡ k.groups
  pub tracks_back : gather words 2 (blocks_of card) ≡ k.tracks
  pub segments_back : gather words 3 (blocks_of card) ≡ k.segments
  pub text_back : gather octets 4 (blocks_of card) ≡ k.text

module _ (k : Tables) (g t s x : ℕ) (H : Sized k g t s x) where
  -- as many blocks as its records need
  pub groups_take : Takes (most_records 1) g (words_take (length k.groups))
  unfolding most_records
  groups_take = record { enough = omega (arith, H.groups_are); needed = omega (arith, H.groups_are) }

  pub tracks_take : Takes (most_records 2) t (words_take (length k.tracks))
  unfolding most_records
  tracks_take = record { enough = omega (arith, H.tracks_are); needed = omega (arith, H.tracks_are) }

  pub segments_take : Takes (most_records 3) s (words_take (length k.segments))
  unfolding most_records
  segments_take = record { enough = omega (arith, H.segments_are); needed = omega (arith, H.segments_are) }

  pub text_take : Takes (most_records 4) x (octets_take (length k.text))
  unfolding most_records
  text_take = record { enough = omega (arith, H.text_is); needed = omega (arith, H.text_is) }

  G : Reads words 1 g (words_take (length k.groups)) 0 k.groups (word_blocks 1 3 0 k.groups)
  unfolding word_blocks
  G =
      reads groups_way (words_take (length k.groups)) g 0 k.groups H.groups_are
      groups_take

  T : Reads words 2 t (words_take (length k.tracks)) (tracks_from k) k.tracks (word_blocks 2 6 (tracks_from k) k.tracks)
  unfolding word_blocks
  T =
      reads tracks_way (words_take (length k.tracks)) t (tracks_from k) k.tracks H.tracks_are
      tracks_take

  S : Reads words 3 s (words_take (length k.segments)) (segments_from k) k.segments (word_blocks 3 1 (segments_from k) k.segments)
  unfolding word_blocks
  S =
      reads segments_way (words_take (length k.segments)) s (segments_from k) k.segments H.segments_are
      segments_take

  X : Reads octets 4 x (octets_take (length k.text)) (text_from k) k.text (text_blocks (text_from k) k.text)
  unfolding text_blocks
  X =
      reads text_way (octets_take (length k.text)) x (text_from k) k.text H.text_is
      text_take

  pub blocks_long : Long (catalogue_blocks k)
  unfolding catalogue_blocks
  blocks_long = runs_long _ _ _ _ g t s x k.groups k.tracks k.segments k.text _ _ _ _ G T S X

  pub blocks_many : length (catalogue_blocks k) ≡ blocks_taken k
  unfolding catalogue_blocks word_blocks text_blocks
  blocks_many = simp (length-append, kind_length) (omega arith)

  pub card_length : length (card_of k) ≡ blocks_taken k * 512
  unfolding card_of
  card_length = joined_length blocks_long ∙ ap (λ (n : ℕ). n * 512) blocks_many

  pub blocks_read : blocks_of (card_of k) ≡ catalogue_blocks k
  unfolding card_of
  blocks_read = blocks_back blocks_long

  length_right_lem : length_rule (card_of k) ≡ true
  unfolding length_rule
  length_right_lem =
      let n = card_length in
      let l : length (card_of k) ≤ 65536 = omega (arith, H.groups_are, H.tracks_are, H.segments_are, H.text_is) in
      let m : length (card_of k) % 512 ≡ 0 = omega arith in
      and_both (eq-eqb _ _ m) (le-leb _ _ l)

  counts : (record_count 1 (catalogue_blocks k) ≡ g) × (record_count 2 (catalogue_blocks k) ≡ t)
      × (record_count 3 (catalogue_blocks k) ≡ s) × (record_count 4 (catalogue_blocks k) ≡ x)
  unfolding catalogue_blocks
  counts = runs_counts _ _ _ _ g t s x k.groups k.tracks k.segments k.text _ _ _ _ G T S X

  room_right : (a b c d : ℕ) → length k.groups ≤ a → length k.tracks ≤ b → length k.segments ≤ c → length k.text ≤ d
      → room_rule (catalogue_blocks k) a b c d ≡ true
  unfolding room_rule
  room_right a b c d ha hb hc hd =
      let ka : g ≤ a / 3 = omega (arith, H.groups_are) in
      let kb : t ≤ b / 6 = omega (arith, H.tracks_are) in
      let kc : s ≤ c = omega (arith, H.segments_are) in
      let kd : x ≤ d = omega (arith, H.text_is) in
      rw (counts.0, counts.1, counts.2, counts.3)
      (and_both (and_both (and_both
      (and_both (le-leb _ _ H.groups_few) (le-leb _ _ ka))
      (and_both (le-leb _ _ H.tracks_few) (le-leb _ _ kb)))
      (and_both (le-leb _ _ H.segments_few) (le-leb _ _ kc)))
      (and_both (le-leb _ _ H.text_short) (le-leb _ _ kd)))

  -- THE round trip
  pub card_loads : FullButLast (catalogue_blocks k) → Loads (card_of k) k g t s x
  unfolding catalogue_blocks
  card_loads full =
      let e = blocks_read in
      let card = card_of k in
      record {
        said = λ a b c d ha hb hc hd.
            says_done card a b c d length_right_lem
            (rw e (runs_right _ _ _ _ g t s x k.groups k.tracks k.segments k.text _ _ _ _ G T S X full))
            (rw e (room_right a b c d ha hb hc hd))
            (sym (ap (record_count 1) e ∙ counts.0)) (sym (ap (record_count 2) e ∙ counts.1))
            (sym (ap (record_count 3) e ∙ counts.2)) (sym (ap (record_count 4) e ∙ counts.3));
        groups_back = ap (gather words 1) e ∙ runs_groups _ _ _ _ g t s x k.groups k.tracks k.segments k.text _ _ _ _ G T S X;
        tracks_back = ap (gather words 2) e ∙ runs_tracks _ _ _ _ g t s x k.groups k.tracks k.segments k.text _ _ _ _ G T S X;
        segments_back = ap (gather words 3) e ∙ runs_segments _ _ _ _ g t s x k.groups k.tracks k.segments k.text _ _ _ _ G T S X;
        text_back = ap (gather octets 4) e ∙ runs_text _ _ _ _ g t s x k.groups k.tracks k.segments k.text _ _ _ _ G T S X;
      }
