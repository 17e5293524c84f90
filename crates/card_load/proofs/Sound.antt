-- What a granted load tells: the rules hold, so each table has room for what is gathered for it. Assumes nothing.
use mathlib.Core.Path.{◌≡◌, sym, ap}
use mathlib.Core.Bool.{true, ◌&&◌}
use mathlib.Core.List.{List}
use Prim.Native.Nat.{ℕ, ◌*◌, ◌/◌, ◌≤◌}
use native.Mathlib.Omega.{arith}
use borrow.Author.Tests.{leb-true, not-false}
use lib.Dec.{leb}
use lib.ListN.{length}
use Rattle.ground.specs.Refusals.{granted}
use Rattle.ground.specs.Limits.{most_groups, most_tracks, most_segments, most_text}
use Rattle.ground.specs.Words.{words}
use Rattle.ground.proofs.Cases.{and_left, and_right}
use Rattle.card_block.specs.Block.{record_size}
use Rattle.card_block.proofs.Records.{records_words, records_octets}
use Rattle.card_load.specs.Card.{blocks_of, blocks_rows, blocks_rule, record_count, gather, octets, CountsFit}
use Rattle.ground.proofs.Rows.{kept, parted, of_none}
use Rattle.card_load.specs.Load.{fits, room_rule, load_rows, load_said}
use Rattle.card_load.proofs.Lengths.{counts_fit, gather_length}

-- what the four fills ask
pub record Sound (card : List ℕ) (groups tracks segments text : ℕ) : Type 0 where
  pub long : length card / 512 * 512 ≤ length card
  pub fit : CountsFit (length card / 512) card
  pub groups_room : length (gather words 1 (blocks_of card)) ≤ groups
  pub tracks_room : length (gather words 2 (blocks_of card)) ≤ tracks
  pub segments_room : length (gather words 3 (blocks_of card)) ≤ segments
  pub text_room : length (gather octets 4 (blocks_of card)) ≤ text

fits_room : (count limit room : ℕ) → fits count limit room ≡ true → count ≤ room
fits_room count limit room h = leb-true _ _ (and_right (leb count limit) _ h)

pub sound : (card : List ℕ) (groups tracks segments text : ℕ) (values : List ℕ)
    → granted values ≡ load_said card groups tracks segments text → Sound card groups tracks segments text
unfolding load_said room_rule record_size
sound card groups tracks segments text values e =
    let bs = blocks_of card in
    let p = kept (load_rows card groups tracks segments text) _ (λ k. (sym e k).is_granted) in
    let q = parted (blocks_rows 0 1 bs) _ p.1 in
    let b : blocks_rule 0 1 bs ≡ true = of_none (blocks_rows 0 1 bs) q.0 in
    let d : room_rule bs groups tracks segments text ≡ true = not-false _ q.1.0 in
    let n = length card / 512 in
    let l : n * 512 ≤ length card = omega arith in
    let f : CountsFit n card = counts_fit n card b in
    let r1 = fits (record_count 1 bs) most_groups (groups / 3) in
    let r2 = fits (record_count 2 bs) most_tracks (tracks / 6) in
    let r3 = fits (record_count 3 bs) most_segments segments in
    let r4 = fits (record_count 4 bs) most_text text in
    let q3 = and_left (r1 && r2 && r3) r4 d in
    let q2 = and_left (r1 && r2) r3 q3 in
    let h1 = fits_room (record_count 1 bs) most_groups (groups / 3) (and_left r1 r2 q2) in
    let h2 = fits_room (record_count 2 bs) most_tracks (tracks / 6) (and_right r1 r2 q2) in
    let h3 = fits_room (record_count 3 bs) most_segments segments (and_right (r1 && r2) r3 q3) in
    let h4 = fits_room (record_count 4 bs) most_text text (and_right (r1 && r2 && r3) r4 d) in
    record {
      long = l;
      fit = f;
      groups_room = omega (arith, gather_length words 1 3 n card l f (λ b z c k. records_words b z c 3 (ap record_size k)));
      tracks_room = omega (arith, gather_length words 2 6 n card l f (λ b z c k. records_words b z c 6 (ap record_size k)));
      segments_room = omega (arith, gather_length words 3 1 n card l f (λ b z c k. records_words b z c 1 (ap record_size k)));
      text_room = omega (arith, gather_length octets 4 1 n card l f (λ b z c k. records_octets b z c (ap record_size k)));
    }
