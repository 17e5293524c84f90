-- What a call says fits words of 32 bits, so C is told the numbers themselves. Assumes nothing.
use mathlib.Core.Path.{◌≡◌, refl, sym, subst}
use mathlib.Core.Bool.{Bool, true, false, ◌&&◌, not}
use mathlib.Core.List.{List, [], ◌∷◌, ◌++◌}
use Prim.Native.Nat.{ℕ, suc, ◌+◌, ◌-◌, ◌/◌, ◌%◌, ◌≤◌, ◌<◌}
use native.Mathlib.Omega.{arith}
use borrow.Author.Tests.{eqb-true, not-false, ltb-true, leb-true, leb-false}
use lib.Dec.{eqb, leb, ltb, lit≤}
use lib.ListN.{length, take, drop, get_or, length-take}
use Rattle.ground.specs.Cases.{pick, has}
use Rattle.ground.specs.Refusals.{Said, granted, refused_with, Row, row, answered, said_through, Left, leaves, keeping}
use Rattle.ground.specs.Limits.{most_groups, most_tracks, most_segments, most_text, group_words, track_words, least_output}
use Rattle.ground.proofs.Cases.{and_left, and_right}
use Rattle.catalogue_tables.specs.Tables.{Tables, track_count}
use Rattle.catalogue_titles.specs.Titles.{front}
use Rattle.catalogue_titles.specs.Lent.{Lent, catalogue_of}
use Rattle.card_block.specs.Block.{kind_of}
use Rattle.card_load.specs.Card.{length_rule, blocks_of, blocks_rows, record_count}
use Rattle.card_load.specs.Load.{fits, room_rule, room_row, counted, load_said}
use Rattle.card_load.proofs.Blocks.{blocks_length}
use Rattle.catalogue_check.specs.Catalogue.{catalogue_carries, catalogue_row, Right}
use Rattle.catalogue_check.proofs.Laws.{is_right, carries_small as title-small}
use Rattle.player_check.specs.Standing.{name_carries}
use Rattle.player_check.proofs.Laws.{carries_small as name-small}
use Rattle.desk_state.specs.Desk.{client_at, started_desk}
use Rattle.desk_state.proofs.Laws.{link_stands}
use Rattle.desk_client.specs.declared.Link.{Link}
use Rattle.desk_client.specs.declared.Account.{Account}
use Rattle.desk_console.specs.Console.{Beginning, freshly, nameless, start_rows, start_call, name_rows, name_call, activate_rows, activate_call, service_rows, deactivate_call, advance_call}
use Rattle.desk_links.specs.Links.{connect_rows, connect_call, disconnect_rows, disconnect_call, slot_rows, slot_call}
use Rattle.card_write.specs.Write.{write_rows, write_said}
use Rattle.card_write.proofs.Answers.{most_blocks_lem}
use Rattle.catalogue_cue.specs.Sheet.{cue_said}
use Rattle.catalogue_cue.proofs.Small.{cue_small}
use Rattle.catalogue_objects.specs.Objects.{group_octets, segments_octets, has_group, has_segments, write_rows as objectRows, write_said as objectSaid}
use Rattle.catalogue_objects.proofs.Few.{group_few, segments_few}
use Rattle.desk_slots.specs.Slots.{place_count, client_count, slot_table, characteristic_of, service_of, slot_at}
use Rattle.desk_slots.proofs.NextLaws.{next_le}
use Rattle.ground.proofs.Rows.{NoneApplies, parted}
use Rattle.desk_client.specs.declared.Client.{Client}
use Rattle.desk_client.specs.Client.{least_mtu, mtu_right, link_rule}
use Rattle.desk_client.proofs.Rule.{connected_linked, mark_within}
use Rattle.desk_state.specs.declared.Desk.{Desk}
use Rattle.desk_replies.specs.Replies.{fronted, on_service, asked, link_of}
use Rattle.desk_replies.proofs.Gates.{stands}
use Rattle.desk_exchange.specs.Write.{writer_rows, write_call}
use Rattle.desk_exchange.specs.Read.{value_now, reader_rows, read_octets, read_call}
use Rattle.desk_title.specs.Title.{title_call}
use Rattle.desk_goto.specs.Manual.{no_arrival, manual_call}
use Rattle.desk_take.specs.Serving.{places_owed, next_place, handed_octets, handed_values, after_serving}
use Rattle.desk_take.specs.Take.{next_client, players_of, with_served, take_call}
use Rattle.mcs_told.specs.Calls.{AllWords}
use Rattle.mcs_told.proofs.Words.{at_word}

-- a cue sheet's line and its number of starts are small
pub cue_words : (sheet : List ℕ) (room i : ℕ) → get_or (cue_said sheet room).values i 0 < 4294967296
cue_words sheet room i = omega (arith, cue_small sheet room i)

-- what rows carry is below 2^32
SmallRows : List Row → Type 0
SmallRows [] = Unit
SmallRows (r ∷ rows) = AllWords r.values × SmallRows rows

-- what 200 and 207 carry
all_words : (s : List ℕ) → ((i : ℕ) → get_or s i 0 < 4294967296) → AllWords s
all_words [] h = tt
all_words (x ∷ s) h = (h 0, all_words s (λ i. h (suc i)))

title_words : (k : Tables) → AllWords (catalogue_carries k)
title_words k = all_words (catalogue_carries k) (λ i. omega (arith, title-small k i))

name_words : (name : List ℕ) → AllWords (name_carries name)
name_words name = all_words (name_carries name) (λ i. omega (arith, name-small name i))

-- where that is so, only the work is asked
behind_rows : {A : Type 0} (said : A → Said) (refuse : Said → A) → ((s : Said) → (said (refuse s)).values ≡ s.values)
    → (rows : List Row) → SmallRows rows → (work : A) → (NoneApplies rows → AllWords (said work).values) → AllWords (said (answered refuse rows work)).values
unfolding SmallRows
behind_rows said refuse e [] n work h = h tt
behind_rows {A} said refuse e (r ∷ rows) n work h = at r.applies (λ q. behind_rows said refuse e rows n.1 work (λ m. h (q, m)))
  where
    at : (t : Bool) → (t ≡ false → AllWords (said (answered refuse rows work)).values) → AllWords (said (pick t (refuse (refused_with r.number r.values)) (answered refuse rows work))).values
    at true k = subst AllWords (sym (e (refused_with r.number r.values))) n.0
    at false k = k refl

-- the rows of blocks carry their places
small_blocks : (number least : ℕ) (bs : List (List ℕ)) (behind : List Row) → number + length bs < 4294967296 → SmallRows behind → SmallRows (blocks_rows number least bs ++ behind)
unfolding SmallRows blocks_rows
small_blocks number least [] behind h n = n
small_blocks number least (b ∷ bs) behind h n =
    let w : number < 4294967296 = omega arith in
    ((w, tt), ((w, tt), ((w, tt), ((w, tt), ((w, tt), ((w, tt), small_blocks (number + 1) (kind_of b) bs behind (omega arith) n))))))

-- a card has few blocks, and its counts keep within the limits
pub load_words : (card : List ℕ) (groups tracks segments text : ℕ) → AllWords (load_said card groups tracks segments text).values
unfolding load_said length_rule room_rule SmallRows
load_words card groups tracks segments text =
    let blocks = blocks_rows 0 1 (blocks_of card) in
    let room = room_row (blocks_of card) groups tracks segments text ∷ [] in
    behind_rows (λ said. said) (λ said. said) (λ said. refl) (row 210 (not (length_rule card)) ∷ []) (tt, tt) (said_through (blocks ++ room) (counted (blocks_of card))) (λ n.
    behind_rows (λ said. said) (λ said. said) (λ said. refl) (blocks ++ room) (small_blocks 0 1 (blocks_of card) room (short (not-false _ n.0)) (tt, tt)) (counted (blocks_of card)) (λ m.
    counts (not-false _ (parted blocks room m).1.0)))
  where
    short : length_rule card ≡ true → 0 + length (blocks_of card) < 4294967296
    short h =
        let l : length card ≤ 65536 = leb-true _ _ (and_right (eqb (length card % 512) 0) (leb (length card) 65536) h) in
        rw (blocks_length (length card / 512) card) (omega arith)

    few : {n most : ℕ} → n ≤ most → most < 4294967296 → n < 4294967296
    few h k = omega (arith, h, k)

    within : (n most room : ℕ) → fits n most room ≡ true → n ≤ most
    within n most room e = leb-true n most (and_left (leb n most) (leb n room) e)

    counts : room_rule (blocks_of card) groups tracks segments text ≡ true → AllWords (record_count 1 (blocks_of card) ∷ record_count 2 (blocks_of card) ∷ record_count 3 (blocks_of card) ∷ record_count 4 (blocks_of card) ∷ [])
    counts e =
        let bs = blocks_of card in
        let a = fits (record_count 1 bs) most_groups (groups / group_words) in
        let b = fits (record_count 2 bs) most_tracks (tracks / track_words) in
        let c = fits (record_count 3 bs) most_segments segments in
        let d = fits (record_count 4 bs) most_text text in
        let three = and_left (a && b && c) d e in
        let two = and_left (a && b) c three in (
          few (within (record_count 1 bs) most_groups (groups / group_words) (and_left a b two)) (lit≤ tt),
          (
            few (within (record_count 2 bs) most_tracks (tracks / track_words) (and_right a b two)) (lit≤ tt),
            (
              few (within (record_count 3 bs) most_segments segments (and_right (a && b) c three)) (lit≤ tt),
              (few (within (record_count 4 bs) most_text text (and_right (a && b && c) d e)) (lit≤ tt), tt),
            ),
          ),
        )

-- a card has at most 89 blocks
pub write_words : (k : Tables) (room : ℕ) → AllWords (write_said k room).values
unfolding write_said SmallRows
write_words k room =
    behind_rows (λ said. said) (λ said. said) (λ said. refl) (write_rows k room) (title_words k, (tt, tt)) _
    (λ n. (omega (arith, most_blocks_lem k (is_right k (not-false _ n.0))), tt))

-- an object of a right catalogue has few octets
object_words : (k : Tables) (there : Bool) (octets : List ℕ) (room : ℕ) → (Right k → there ≡ true → length octets < 4294967296)
    → AllWords (objectSaid k there octets room).values
unfolding objectSaid SmallRows
object_words k there octets room few =
    behind_rows (λ said. said) (λ said. said) (λ said. refl) (catalogue_row k ∷ objectRows there octets room) (title_words k, (tt, (tt, tt))) _
    (λ n. (few (is_right k (not-false _ n.0)) (not-false _ n.1.0), tt))

pub group_words_lem : (k : Tables) (g room : ℕ) → AllWords (objectSaid k (has_group k g) (group_octets k.groups g) room).values
group_words_lem k g room =
    object_words k (has_group k g) (group_octets k.groups g) room (λ right there. omega (arith, group_few k right g (ltb-true _ _ there)))

pub segments_words : (k : Tables) (t room : ℕ) → AllWords (objectSaid k (has_segments k t) (segments_octets k.tracks k.segments t) room).values
segments_words k t room =
    object_words k (has_segments k t) (segments_octets k.tracks k.segments t) room
    (λ right there. omega (arith, segments_few k right t (ltb-true _ _ (and_left (ltb t (track_count k.tracks)) _ there))))

-- start says nothing besides
pub start_words : (k : Lent) (generic named : Beginning) → AllWords (start_call k generic named).said.values
unfolding start_call SmallRows
start_words k generic named =
    behind_rows (λ (l : Left Desk). l.said) (keeping (started_desk (freshly (nameless generic)) (freshly (nameless named)))) (λ said. refl) (start_rows k generic named)
    (title_words (catalogue_of k), (tt, (tt, (name_words generic.name, (name_words named.name, tt))))) _ (λ n. tt)

-- the ATT_MTU of a link that stands is small
mtu_small : (l : Link) → link_rule l ≡ true → l.mtu < 4294967296
unfolding link_rule
mtu_small l e = at l.connected refl
  where
    at : (t : Bool) → l.connected ≡ t → l.mtu < 4294967296
    at true q = omega (arith, (connected_linked l e q).mtu_to)
    at false q =
        let r = subst (λ (t : Bool). pick t (mtu_right l.mtu && ltb l.mark place_count) (not l.encrypted && eqb l.mtu least_mtu && eqb l.mark (place_count - 1)) ≡ true) q e in
        omega (arith, eqb-true l.mtu least_mtu (and_right (not l.encrypted) (eqb l.mtu least_mtu) (and_left (not l.encrypted && eqb l.mtu least_mtu) (eqb l.mark (place_count - 1)) r)))

module _ (k : Lent) (d : Desk) where
  -- nor do the calls that answer no more than that they are accepted
  asked_words : (rows : List Row) → SmallRows rows → (work : Left Desk) → work.said.values ≡ [] → AllWords (asked k false d rows work).said.values
  unfolding SmallRows
  asked_words rows n work e =
      behind_rows (λ (l : Left Desk). l.said) (keeping d) (λ said. refl) (fronted k false d ++ rows) (title_words (catalogue_of k), (tt, (tt, (tt, n)))) work (λ m. subst AllWords (sym e) tt)

  pub set_name_words : (service : ℕ) (name : List ℕ) → AllWords (name_call k d service name).said.values
  unfolding name_call SmallRows
  set_name_words service name = asked_words (name_rows service name) (tt, (name_words name, tt)) _ refl

  pub activate_words : (service g : ℕ) → AllWords (activate_call k d service g).said.values
  unfolding activate_call SmallRows
  activate_words service g = asked_words (activate_rows k service g) (tt, (tt, tt)) _ refl

  pub deactivate_words : (service : ℕ) → AllWords (deactivate_call k d service).said.values
  unfolding deactivate_call SmallRows
  deactivate_words service = asked_words (service_rows service) (tt, tt) _ refl

  -- a call on a service that alters nothing says nothing besides, whatever it shows
  service_words : {A : Type 0} (nothing shown : A) (service : ℕ) → AllWords (answered (keeping nothing) (on_service k d service) (leaves (granted []) shown)).said.values
  unfolding SmallRows
  service_words {A} nothing shown service =
      behind_rows (λ (l : Left A). l.said) (keeping nothing) (λ said. refl) (on_service k d service) (title_words (catalogue_of k), (tt, (tt, (tt, (tt, tt))))) _ (λ n. tt)

  pub titled_words : (service : ℕ) → AllWords (title_call k d service).said.values
  unfolding title_call
  titled_words service = service_words front _ service

  pub manual_words : (service opcode n allowed : ℕ) → AllWords (manual_call k d service opcode n allowed).said.values
  unfolding manual_call
  manual_words service opcode n allowed = service_words no_arrival _ service

  pub advance_words : (service step : ℕ) → AllWords (advance_call k d service step).said.values
  unfolding advance_call SmallRows
  advance_words service step = asked_words (service_rows service) (tt, tt) _ refl

  pub connect_words : (who mtu : ℕ) (encrypted : Bool) → AllWords (connect_call k d who mtu encrypted).said.values
  unfolding connect_call SmallRows
  connect_words who mtu encrypted = asked_words (connect_rows who (link_of d who).connected mtu) (tt, (tt, (tt, tt))) _ refl

  pub disconnect_words : (who : ℕ) → AllWords (disconnect_call k d who).said.values
  unfolding disconnect_call SmallRows
  disconnect_words who = asked_words (disconnect_rows who (link_of d who).connected) (tt, (tt, tt)) _ refl

  pub slot_words : (who service characteristic : ℕ) (f : ℕ → Account → Account) → AllWords (slot_call k d who service characteristic f).said.values
  unfolding slot_call SmallRows
  slot_words who service characteristic f =
      asked_words (slot_rows who service (link_of d who).connected (link_of d who).encrypted characteristic) (tt, (tt, (tt, (tt, (tt, (tt, tt)))))) _ refl

  pub written_words : (who service characteristic : ℕ) (value : List ℕ) → AllWords (write_call k d who service characteristic value).said.values
  unfolding write_call SmallRows
  written_words who service characteristic value =
      asked_words (writer_rows k d who service characteristic value) (tt, (tt, (tt, (tt, (tt, (tt, (tt, (tt, (tt, tt))))))))) _ refl

  -- a read's length is at most ATT_MTU - 1, a take's at most ATT_MTU - 3; clients, services and characteristics are few
  part_small : (most : ℕ) (value : List ℕ) → most < 4294967296 → length (take most value) < 4294967296
  part_small most value h = simp length-take (omega arith)

  pub read_words : (who service characteristic offset room : ℕ) → AllWords (read_call k d who service characteristic offset room).said.values
  unfolding read_call read_octets SmallRows
  read_words who service characteristic offset room =
      let rows = reader_rows d who service characteristic offset (length (value_now k d service characteristic)) in
      let small = ltb room least_output in
      behind_rows (λ (l : Left Desk). l.said) (keeping d) (λ said. refl) (fronted k small d ++ rows) (title_words (catalogue_of k), (tt, (tt, (tt, (tt, (tt, (tt, (tt, (tt, (tt, (tt, (tt, tt)))))))))))) _ (λ n.
      let right = link_stands k.groups k.tracks d (stands k small d rows n) who (leb-false client_count who n.1.1.1.1.0) in
      (part_small ((link_of d who).mtu - 1) (drop offset (value_now k d service characteristic)) (omega (arith, mtu_small (link_of d who) right)), tt))

  few : (s : ℕ) → characteristic_of s < 4294967296
  unfolding characteristic_of
  few s = at_word slot_table s (lit≤ tt, (lit≤ tt, (lit≤ tt, (lit≤ tt, (lit≤ tt, (lit≤ tt, (lit≤ tt, (lit≤ tt, (lit≤ tt, (lit≤ tt, (lit≤ tt, (lit≤ tt, (lit≤ tt, (lit≤ tt, tt))))))))))))))

  service_small : (place : ℕ) → place ≤ place_count → service_of place < 4294967296
  unfolding service_of
  service_small place h = omega arith

  pub take_words : (room : ℕ) → AllWords (take_call k d room).said.values
  unfolding take_call SmallRows client_at handed_octets
  take_words room =
      let small = ltb room least_output in
      behind_rows (λ (l : Left Desk). l.said) (keeping d) (λ said. refl) (fronted k small d ++ []) (title_words (catalogue_of k), (tt, (tt, (tt, tt)))) _ (λ n.
      served (leb client_count (next_client d)) refl (link_stands k.groups k.tracks d (stands k small d [] n) (next_client d)))
    where
      own : Client
      own = client_at d (next_client d)

      served : (t : Bool) → leb client_count (next_client d) ≡ t → (next_client d < client_count → link_rule (link_of d (next_client d)) ≡ true)
          → AllWords (pick t (leaves (granted []) d) (leaves (granted (next_client d ∷ handed_values k (players_of d) own)) (with_served (next_client d) (after_serving own) d))).said.values
      served true e h = tt
      served false e h =
          let there = leb-false client_count (next_client d) e in
          let right = h there in
          let l = link_of d (next_client d) in (
            omega (arith, there),
            (
              service_small (next_place own) (next_le place_count (has (places_owed own)) l.mark (mark_within l right)),
              (few (slot_at (next_place own)), (part_small (l.mtu - 3) _ (omega (arith, mtu_small l right)), tt)),
            ),
          )
