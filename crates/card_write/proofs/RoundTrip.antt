-- Both halves of the round trip (SCOPE 3.18): loading what was written gives the tables back; writing what was loaded gives the card back, for every card that
-- is accepted and whose tables pass 200. Both are stated over any outcome of `card_write::write` and of `card_load::load` that meets its contract as the check
-- reads it (`Reads.Post`). Assumes nothing.
use mathlib.Core.Path.{◌≡◌, refl, sym, ap, ◌∙◌}
use mathlib.Core.Bool.{true, false, not}
use mathlib.Core.List.{List, [], ◌∷◌}
use Prim.Native.Nat.{ℕ, ◌*◌, ◌/◌, ◌≤◌, ◌<◌}
use native.Mathlib.Omega.{arith}
use borrow.Author.Tests.{not-false, le-ltb}
use contract.Lifetimes.{Lfts}
use denote.Ref.{Bor, MutBor}
use lib.Dec.{ltb}
use lib.ListN.{length, get_or, take, drop}
use lib.Seq.{take_at}
use Rattle.ground.specs.Refusals.{Said, granted, count_said, Row, said_through}
use Rattle.ground.specs.Lists.{filled, table_after}
use Rattle.ground.specs.Words.{words}
use Rattle.ground.proofs.Octets.{octs_of}
use Rattle.ground.proofs.Rows.{NoneApplies, kept, parted, of_none, through}
use Rattle.card_block.specs.Block.{record_size}
use Rattle.card_block.proofs.Records.{records_words, records_octets}
use Rattle.card_load.specs.declared.Counts.{Counts}
use Rattle.card_load.specs.Card.{length_rule, blocks_of, blocks_rows, blocks_rule, record_count, gather, octets, CountsFit}
use Rattle.card_load.specs.Load.{said_of as loadSaidOf, load_rows, load_said}
use Rattle.card_load.proofs.Lengths.{counts_fit, gather_length}
use Rattle.catalogue_tables.specs.Tables.{Tables, tables, group_count, track_count}
use Rattle.catalogue_check.specs.Catalogue.{Right}
use Rattle.catalogue_check.proofs.Laws.{passed, is_right}
use Rattle.std.specs.Prelude.{Ok}
use Rattle.card_write.specs.Card.{blocks_taken, card_of, FullButLast}
use Rattle.card_write.specs.Write.{write_rows, write_said}
use Rattle.card_write.proofs.Answers.{right_sized}
use Rattle.card_write.proofs.Loading.{card_length, blocks_read, card_loads}
use Rattle.card_write.proofs.Full.{blocks_full}
use Rattle.card_write.proofs.Again.{held_by, card_again}
use Rattle.card_load.proofs.Outcome as load
use Rattle.card_write.proofs.Outcome as write

-- what is granted behind rows: none of them applies, and the values are the work's
granted_behind : (rows : List Row) (values work : List ℕ) → granted values ≡ said_through rows (granted work) → NoneApplies rows × (values ≡ work)
granted_behind rows values work e =
    let none = kept rows (granted work) (λ j. (sym e j).is_granted) in
    (none, ap (λ (s : Said). s.values) (e ∙ sym (through (λ s. s) rows none refl)))

-- a table that was filled, and its front
filled_is : {said : Said} {v found table after : List ℕ} (old : List ℕ) → said ≡ granted v → found ≡ table → after ≡ table_after said found old → after ≡ filled table old
filled_is old e f p = p ∙ (λ i. table_after (e i) (f i) old)

front_is : (table old : List ℕ) (n : ℕ) → length table ≡ n → take n (filled table old) ≡ table
front_is table old n h = take_at table (drop (length table) old) n h

times_one : (n : ℕ) → n ≡ n * 1
times_one n = omega arith

-- a write that was granted
module _ (κs : Lfts 5) (groups tracks segments text : Bor (List ℕ)) (card : MutBor (List ℕ)) (o : write.Outcome) (m : write.Meets κs groups tracks segments text card o)
    (blocks : ℕ) (done : o.answer ≡ Ok blocks) where
  abbrev k : Tables
  k = tables groups.now tracks.now segments.now text.now

  told : NoneApplies (write_rows k (length card.now)) × ((blocks ∷ []) ≡ (blocks_taken k ∷ []))
  unfolding write_said
  told = granted_behind (write_rows k (length card.now)) (blocks ∷ []) (blocks_taken k ∷ []) (sym (ap count_said done) ∙ m.0)

  right : Right k
  right = is_right k (not-false _ told.0.0)

  -- the front of the card, which is what is loaded
  pub written_front : take (blocks * 512) o.card ≡ card_of k
  written_front =
      let n : blocks ≡ blocks_taken k = ap (λ (v : List ℕ). get_or v 0 0) told.1 in
      let l : length (card_of k) ≡ blocks * 512 = card_length k _ _ _ _ (right_sized k right) ∙ ap (λ (x : ℕ). x * 512) (sym n) in
      ap (take (blocks * 512)) (filled_is {found = card_of k} card.now (ap count_said done) refl m.1) ∙ front_is (card_of k) card.now (blocks * 512) l

  -- every block of it but the last of its kind is full
  pub written_full : FullButLast (blocks_of (take (blocks * 512) o.card))
  written_full =
      let sized = right_sized k right in
      rw (written_front, blocks_read k _ _ _ _ sized) (blocks_full k _ _ _ _ sized)

  -- THE first half (SCOPE 3.18): what was written loads into tables with room, with the counts as they were, and the front of each table is the table that was
  -- written
  pub load_of_write : (ls : Lfts 5) (lent : Bor (List ℕ)) (gs ts ss xs : MutBor (List ℕ)) (p : load.Outcome) → load.Meets ls lent gs ts ss xs p
      → lent.now ≡ take (blocks * 512) o.card
      → length groups.now ≤ length gs.now → length tracks.now ≤ length ts.now
      → length segments.now ≤ length ss.now → length text.now ≤ length xs.now
      → (loadSaidOf p.answer ≡ granted (group_count groups.now ∷ track_count tracks.now ∷ length segments.now ∷ length text.now ∷ []))
      × (p.groups ≡ filled groups.now gs.now) × (p.tracks ≡ filled tracks.now ts.now)
      × (p.segments ≡ filled segments.now ss.now) × (p.text ≡ filled text.now xs.now)
  load_of_write ls lent gs ts ss xs p q e hg ht hs hx =
      let L = card_loads k _ _ _ _ (right_sized k right) (blocks_full k _ _ _ _ (right_sized k right)) in
      let E : lent.now ≡ card_of k = e ∙ written_front in
      let said =
      q.0
      ∙ ap (λ (c : List ℕ). load_said c (length gs.now) (length ts.now) (length ss.now) (length xs.now)) E
      ∙ sym (L.said (length gs.now) (length ts.now) (length ss.now) (length xs.now) hg ht hs hx) in (
        said,
        filled_is gs.now said (ap (λ (c : List ℕ). gather words 1 (blocks_of c)) E ∙ L.groups_back) q.1.0,
        filled_is ts.now said (ap (λ (c : List ℕ). gather words 2 (blocks_of c)) E ∙ L.tracks_back) q.1.1.0,
        filled_is ss.now said (ap (λ (c : List ℕ). gather words 3 (blocks_of c)) E ∙ L.segments_back) q.1.1.1.0,
        filled_is xs.now said (ap (λ (c : List ℕ). gather octets 4 (blocks_of c)) E ∙ L.text_back) q.1.1.1.1,
      )

-- a load that was granted, of a card of octets
module _ (ls : Lfts 5) (lent : Bor (List ℕ)) (gs ts ss xs : MutBor (List ℕ)) (p : load.Outcome) (m : load.Meets ls lent gs ts ss xs p)
    (c : Counts) (done : p.answer ≡ Ok c)
    (octet : (i : ℕ) → get_or lent.now i 0 < 256) where
  abbrev bs : List (List ℕ)
  bs = blocks_of lent.now

  abbrev values : List ℕ
  values = c.groups ∷ c.tracks ∷ c.segments ∷ c.text ∷ []

  abbrev counts : List ℕ
  counts = record_count 1 bs ∷ record_count 2 bs ∷ record_count 3 bs ∷ record_count 4 bs ∷ []

  said : loadSaidOf p.answer ≡ granted values
  said = ap loadSaidOf done

  loaded : NoneApplies (load_rows lent.now (length gs.now) (length ts.now) (length ss.now) (length xs.now)) × (values ≡ counts)
  unfolding load_said
  loaded =
      granted_behind (load_rows lent.now (length gs.now) (length ts.now) (length ss.now) (length xs.now)) values counts
      (sym said ∙ m.0)

  whole : length_rule lent.now ≡ true
  whole = not-false _ loaded.0.0

  ruled : blocks_rule 0 1 bs ≡ true
  ruled = of_none (blocks_rows 0 1 bs) (parted (blocks_rows 0 1 bs) _ loaded.0.1).0

  fit : CountsFit (length lent.now / 512) lent.now
  fit = counts_fit (length lent.now / 512) lent.now ruled

  long : length lent.now / 512 * 512 ≤ length lent.now
  long = omega arith

  -- the front of a table that was filled is what the blocks hold
  front : (f : List ℕ → List ℕ) (kind w n : ℕ) (old after : List ℕ) → length (gather f kind bs) ≡ record_count kind bs * w → n ≡ record_count kind bs
      → after ≡ table_after (loadSaidOf p.answer) (gather f kind bs) old → take (n * w) after ≡ gather f kind bs
  front f kind w n old after l e a =
      ap (take (n * w)) (filled_is {found = gather f kind bs} old said refl a) ∙ front_is (gather f kind bs) old (n * w) (l ∙ ap (λ (x : ℕ). x * w) (sym e))

  pub groups_held : take (c.groups * 3) p.groups ≡ gather words 1 bs
  unfolding record_size
  groups_held =
      front words 1 3 c.groups gs.now p.groups
      (gather_length words 1 3 (length lent.now / 512) lent.now long fit (λ b z y j. records_words b z y 3 (ap record_size j)))
      (ap (λ (v : List ℕ). get_or v 0 0) loaded.1) m.1.0

  pub tracks_held : take (c.tracks * 6) p.tracks ≡ gather words 2 bs
  unfolding record_size
  tracks_held =
      front words 2 6 c.tracks ts.now p.tracks
      (gather_length words 2 6 (length lent.now / 512) lent.now long fit (λ b z y j. records_words b z y 6 (ap record_size j)))
      (ap (λ (v : List ℕ). get_or v 1 0) loaded.1) m.1.1.0

  pub segments_held : take c.segments p.segments ≡ gather words 3 bs
  unfolding record_size
  segments_held =
      ap (λ (n : ℕ). take n p.segments) (times_one c.segments)
      ∙ front words 3 1 c.segments ss.now p.segments
      (gather_length words 3 1 (length lent.now / 512) lent.now long fit (λ b z y j. records_words b z y 1 (ap record_size j)))
      (ap (λ (v : List ℕ). get_or v 2 0) loaded.1) m.1.1.1.0

  pub text_held : take c.text p.text ≡ gather octets 4 bs
  unfolding record_size
  text_held =
      ap (λ (n : ℕ). take n p.text) (times_one c.text)
      ∙ front octets 4 1 c.text xs.now p.text
      (gather_length octets 4 1 (length lent.now / 512) lent.now long fit (λ b z y j. records_octets b z y (ap record_size j)))
      (ap (λ (v : List ℕ). get_or v 3 0) loaded.1) m.1.1.1.1

  -- THE second half (SCOPE 3.18): where the loaded tables pass 200, writing them into as much room says how many blocks the card has, and gives the card back
  pub write_of_load : (κs : Lfts 5) (groups tracks segments text : Bor (List ℕ)) (card : MutBor (List ℕ)) (o : write.Outcome) → write.Meets κs groups tracks segments text card o
      → groups.now ≡ take (c.groups * 3) p.groups → tracks.now ≡ take (c.tracks * 6) p.tracks
      → segments.now ≡ take c.segments p.segments → text.now ≡ take c.text p.text
      → Right (tables groups.now tracks.now segments.now text.now)
      → length lent.now ≤ length card.now
      → (count_said o.answer ≡ granted (length lent.now / 512 ∷ [])) × (o.card ≡ filled lent.now card.now)
  unfolding write_said
  write_of_load κs groups tracks segments text card o q eg et es ex right room =
      let k = tables groups.now tracks.now segments.now text.now in
      let E : k ≡ held_by bs = λ j. tables ((eg ∙ groups_held) j) ((et ∙ tracks_held) j) ((es ∙ segments_held) j) ((ex ∙ text_held) j) in
      let same : card_of k ≡ lent.now = ap card_of E ∙ card_again lent.now (octs_of lent.now octet) whole ruled in
      let l : blocks_taken k * 512 ≡ length lent.now = sym (card_length k _ _ _ _ (right_sized k right)) ∙ ap length same in
      let n : blocks_taken k ≡ length lent.now / 512 = omega arith in
      let enough : ltb (length card.now) (blocks_taken k * 512) ≡ false = (let h : blocks_taken k * 512 ≤ length card.now = omega arith in le-ltb _ _ h) in
      let s : count_said o.answer ≡ granted (length lent.now / 512 ∷ []) =
      q.0
      ∙ sym (through (λ s. s) (write_rows k (length card.now)) (ap not (passed k right), (enough, tt)) refl)
      ∙ ap (λ (x : ℕ). granted (x ∷ [])) n in
      (s, filled_is card.now s same q.1)
