-- The bound is reached: in the history of `specs/Reached.antt` one answered take less than the bound does not hand out a value that is owed. The ledger of each
-- call is computed from the one before, once it is known that the call is accepted and whom a take serves. Assumes nothing.
use mathlib.Core.Path.{◌≡◌, refl, sym, ap, ◌∙◌, subst}
use mathlib.Core.Bool.{Bool, true, false, not, ◌&&◌}
use mathlib.Core.Option.{none, some}
use mathlib.Core.List.{List, [], ◌∷◌, ◌++◌, map}
use Prim.Native.Nat.{ℕ, zero, suc, ◌-◌}
use borrow.Author.Tests.{eqb-true, not-true}
use lib.Dec.{eqb, leb}
use lib.ListN.{length}
use Rattle.ground.specs.Cases.{pick, has}
use Rattle.ground.specs.Lists.{all_below, sum_below}
use Rattle.ground.specs.Refusals.{accepted}
use Rattle.ground.specs.Words.{six_octets}
use Rattle.ground.proofs.Cases.{and_left, and_right}
use Rattle.catalogue_tables.specs.Tables.{starts_of, title_of}
use Rattle.catalogue_titles.specs.Titles.{entry_rule, count_rule, entries_rule, renames_rule, part_of, octets_at}
use Rattle.catalogue_titles.specs.Lent.{Lent, lent_rule}
use Rattle.catalogue_rules.specs.Rules.{sizes_rule, parents_rule, follow, track_runs_rule, segment_runs_rule, durations_rule, begin_rule, rise_rule, below_rule, starts_rule, titles_placed_rule, titles_text_rule}
use Rattle.catalogue_check.specs.Catalogue.{plain_rule, catalogue_rule}
use Rattle.player_walk.specs.Steps.{move_in}
use Rattle.player_orders.specs.Order.{ordered, tracks_in_order}
use Rattle.player_state.specs.Player.{renamed, started_player}
use Rattle.player_state.specs.Modes.{forwarded}
use Rattle.player_check.specs.Standing.{text_rule, group_rule}
use Rattle.text.specs.Utf8.{text_of, text_from, char_of}
use Rattle.player_opcodes.specs.Opcodes.{mask_bit, offered, action_of, parameter_length}
use Rattle.desk_slots.specs.Table.{size_of}
use Rattle.desk_slots.specs.Round.{first, next}
use Rattle.desk_slots.specs.Characteristics.{is_in}
use Rattle.desk_exchange.specs.Write.{length_right, control_length, allowed, player_written}
use Rattle.player_moves.specs.Moves.{track_after, next_track, entry_of}
use Rattle.player_moves.specs.Control.{acted, controlled}
use Rattle.player_moves.specs.Clock.{activated}
use Rattle.desk_slots.specs.Slots.{place_count, client_count, slot_of, characteristic_of, service_of, slot_at}
use Rattle.desk_notices.specs.Changes.{same_octets, changed, track_number, track_changed}
use Rattle.desk_notices.specs.Owed.{spared, no_writer}
use Rattle.player_values.specs.Values.{word_octets, title_part, title_value, duration_value, position_value, track_now, next_now, parent_now, group_now, object_octets, value_of}
use Rattle.desk_console.specs.Console.{Beginning, freshly, name_rows, activate_rows}
use Rattle.desk_history.specs.Calls.{Call, set_name, activate, deactivate, advance, connect, disconnect, subscribe, unsubscribe, read, write, take}
use Rattle.desk_history.specs.Ledger.{Ledger, opening, line_of, in_service, changing, relinking, becoming, joining, serving, owes, any_below, owed_any, next_in, place_in, serving_at, taking, may_connect, may_join, may_write, may_take, writing, after}
use Rattle.desk_history.specs.Rounds.{is_for, count_for, prepend, answers}
use Rattle.desk_history.specs.History.{answer_in, due_out, ledger_at, onward, subscribed_at, Stays, bound}
use Rattle.desk_history.specs.Reached.{one_track, plain, comes, everything, takes, every_change, reached_history}
use Rattle.desk_history.proofs.LedgerLaws.{ledger_system}

module _ (k : Lent) where
  -- what an accepted call makes of the ledger, and whether it is accepted; calls that the history does not make are left as they are
  abbrev pub sure : Call → Ledger → Ledger
  sure (set_name v name) L = in_service v (λ b. becoming k (no_writer false) (renamed name b.player) b) L
  sure (activate v g) L = in_service v (λ b. becoming k (no_writer false) (activated k.groups k.tracks g b.player) b) L
  sure (deactivate v) L = after k (deactivate v) L
  sure (advance v step) L = after k (advance v step) L
  sure (connect who mtu encrypted) L = relinking who (line_of true encrypted mtu) L
  sure (disconnect who) L = after k (disconnect who) L
  sure (subscribe who v c) L = in_service v (changing who (joining (slot_of c))) L
  sure (unsubscribe who v c) L = after k (unsubscribe who v c) L
  sure (read who v c offset room) L = after k (read who v c offset room) L
  sure (write who v c value) L = in_service v (writing k who c value) L
  sure (take room) L = after k (take room) L

  abbrev pub fits : Call → Ledger → Bool
  fits (set_name v name) L = accepted (name_rows v name)
  fits (activate v g) L = accepted (activate_rows k v g)
  fits (deactivate v) L = true
  fits (advance v step) L = true
  fits (connect who mtu encrypted) L = may_connect L who mtu
  fits (disconnect who) L = true
  fits (subscribe who v c) L = may_join L who v c
  fits (unsubscribe who v c) L = true
  fits (read who v c offset room) L = true
  fits (write who v c value) L = may_write k L who v c value
  fits (take room) L = true

  after_is : (c : Call) (L : Ledger) → fits c L ≡ true → after k c L ≡ sure c L
  after_is (set_name v name) L e = λ i. pick (e i) (sure (set_name v name) L) L
  after_is (activate v g) L e = λ i. pick (e i) (sure (activate v g) L) L
  after_is (deactivate v) L e = refl
  after_is (advance v step) L e = refl
  after_is (connect who mtu encrypted) L e = λ i. pick (e i) (sure (connect who mtu encrypted) L) L
  after_is (disconnect who) L e = refl
  after_is (subscribe who v c) L e = λ i. pick (e i) (sure (subscribe who v c) L) L
  after_is (unsubscribe who v c) L e = refl
  after_is (read who v c offset room) L e = refl
  after_is (write who v c value) L e = λ i. pick (e i) (sure (write who v c value) L) L
  after_is (take room) L e = refl

  abbrev pub sure_all : List Call → Ledger → Ledger
  sure_all [] L = L
  sure_all (c ∷ cs) L = sure_all cs (sure c L)

  abbrev pub fit_all : List Call → Ledger → Bool
  fit_all [] L = true
  fit_all (c ∷ cs) L = fits c L && fit_all cs (sure c L)

  -- a take of 128 octets serves whom it is said to serve
  abbrev pub serves : ℕ × ℕ → Ledger → Bool
  serves w L = eqb (next_in L) w.0 && (not (leb client_count w.0) && eqb (place_in L w.0) w.1)

  abbrev served_all : List (ℕ × ℕ) → Ledger → Ledger
  served_all [] L = L
  served_all (w ∷ ws) L = served_all ws (serving_at L w.0 w.1)

  abbrev pub serve_all : List (ℕ × ℕ) → Ledger → Bool
  serve_all [] L = true
  serve_all (w ∷ ws) L = serves w L && serve_all ws (serving_at L w.0 w.1)

  module _ (w : ℕ × ℕ) (L : Ledger) (e : serves w L ≡ true) where
    who_is : next_in L ≡ w.0
    who_is = eqb-true (next_in L) w.0 (and_left (eqb (next_in L) w.0) (not (leb client_count w.0) && eqb (place_in L w.0) w.1) e)

    rest : (not (leb client_count w.0) && eqb (place_in L w.0) w.1) ≡ true
    rest = and_right (eqb (next_in L) w.0) (not (leb client_count w.0) && eqb (place_in L w.0) w.1) e

    inside : leb client_count w.0 ≡ false
    inside = not-true (leb client_count w.0) (and_left (not (leb client_count w.0)) (eqb (place_in L w.0) w.1) rest)

    place_is : place_in L w.0 ≡ w.1
    place_is = eqb-true (place_in L w.0) w.1 (and_right (not (leb client_count w.0)) (eqb (place_in L w.0) w.1) rest)

    take_is : after k (take 128) L ≡ serving_at L w.0 w.1
    take_is = (λ i. taking L (who_is i)) ∙ (λ i. pick (inside i) L (serving_at L w.0 (place_in L w.0))) ∙ ap (serving_at L w.0) place_is

    hands_is : due_out k (take 128) L ≡ some (answer_in k L w.0)
    hands_is = (λ i. pick (leb client_count (who_is i)) none (some (answer_in k L (who_is i)))) ∙ (λ i. pick (inside i) none (some (answer_in k L w.0)))

    is_for_lem : (c s : ℕ) → is_for c s (answer_in k L w.0) ≡ (eqb c w.0 && eqb s w.1)
    is_for_lem c s = ap (λ (t : ℕ). eqb c w.0 && eqb s t) place_is

  -- as many answers as takes, and as many of them for a place as the list says
  abbrev pub count_in : ℕ → ℕ → List (ℕ × ℕ) → ℕ
  count_in c s [] = 0
  count_in c s (w ∷ ws) = pick (eqb c w.0 && eqb s w.1) (suc (count_in c s ws)) (count_in c s ws)

  abbrev pub takes_of : List (ℕ × ℕ) → List Call
  takes_of ws = map (λ w. take 128) ws

  module _ (c s : ℕ) where
    abbrev pub Counted : List (ℕ × ℕ) → Ledger → Type 0
    Counted ws L =
        (length (answers (ledger_system k) (takes_of ws) L) ≡ length ws) × (count_for c s (answers (ledger_system k) (takes_of ws) L) ≡ count_in c s ws)

    pub counted : (ws : List (ℕ × ℕ)) (L : Ledger) → serve_all ws L ≡ true → Counted ws L
    counted [] L e = (refl, refl)
    counted (w ∷ ws) L e =
        let f = and_left (serves w L) (serve_all ws (serving_at L w.0 w.1)) e in
        let more = subst (Counted ws) (sym (take_is w L f)) (counted ws (serving_at L w.0 w.1) (and_right (serves w L) (serve_all ws (serving_at L w.0 w.1)) e)) in
        let l = answers (ledger_system k) (takes_of ws) (after k (take 128) L) in (
          (λ i. length (prepend (hands_is w L f i) l)) ∙ ap suc more.0,
          (λ i. count_for c s (prepend (hands_is w L f i) l)) ∙ (λ i. pick (is_for_lem w L f c s i) (suc (more.1 i)) (more.1 i)),
        )

-- ---- the history
abbrev begun : Ledger
begun = opening (freshly plain) (freshly plain)

abbrev coming : List Call
coming = comes 0 ++ (comes 1 ++ (comes 2 ++ comes 3))

all_come : fit_all one_track coming begun ≡ true
unfolding slot_of is_in
all_come = refl

abbrev there : Ledger
there = sure_all one_track coming begun

abbrev changes : List Call
changes = everything 0 ++ everything 1

all_changes : fit_all one_track changes there ≡ true
unfolding slot_of is_in length_right control_length allowed size_of parameter_length mask_bit text_rule group_rule text_of text_from char_of
all_changes = refl

abbrev round : ℕ → List (ℕ × ℕ)
round p = (0, p) ∷ (1, p) ∷ (2, p) ∷ (3, p) ∷ []

abbrev pub owing : Ledger
owing = sure_all one_track changes there

-- the generic service's name is served first to all
names_served : serve_all one_track (round 0) owing ≡ true
unfolding next_in place_in owed_any any_below next first service_of slot_at slot_of changed same_octets value_of characteristic_of started_player renamed spared
names_served = refl

-- and changes again
abbrev once_more : List Call
once_more = set_name 0 (0x43 ∷ []) ∷ []

abbrev pub waiting : Ledger
waiting = sure_all one_track once_more (served_all one_track (round 0) owing)

name_changes : fit_all one_track once_more (served_all one_track (round 0) owing) ≡ true
unfolding text_rule text_of text_from char_of
name_changes = refl

-- all other places come before it
abbrev rounds : ℕ → ℕ → List (ℕ × ℕ)
rounds p zero = []
rounds p (suc n) = round p ++ rounds (suc p) n

abbrev pub others : List (ℕ × ℕ)
others = rounds 1 (place_count - 1) ++ ((0, 0) ∷ (1, 0) ∷ (2, 0) ∷ [])

pub name_owed : owes ((waiting.service 0).account 3) 0 ≡ true
unfolding service_of slot_at slot_of changed same_octets value_of characteristic_of started_player renamed spared player_written controlled activated entry_of offered mask_bit has tracks_in_order ordered acted action_of forwarded
name_owed = refl

pub name_wanted : ((waiting.service 0).account 3).wants 0 ≡ true
unfolding slot_of service_of
name_wanted = refl

pub others_served : serve_all one_track others waiting ≡ true
unfolding next_in place_in owed_any any_below next first service_of slot_at slot_of is_in changed same_octets value_of characteristic_of started_player renamed spared title_value title_part part_of octets_at duration_value position_value track_now next_now parent_now group_now word_octets object_octets six_octets track_changed track_number player_written activated entry_of controlled offered mask_bit has next_track track_after move_in tracks_in_order ordered acted action_of forwarded title_of
others_served = refl

-- ---- the ledger after it
module _ (k : Lent) (gen nam : Beginning) where
  pub sure_onward : (cs h : List Call) (L : Ledger) → ledger_at k gen nam h ≡ L → fit_all k cs L ≡ true → ledger_at k gen nam (onward k gen nam h cs) ≡ sure_all k cs L
  sure_onward [] h L e f = e
  sure_onward (c ∷ cs) h L e f =
      sure_onward cs (c ∷ h) (sure k c L) (ap (after k c) e ∙ after_is k c L (and_left (fits k c L) (fit_all k cs (sure k c L)) f)) (and_right (fits k c L) (fit_all k cs (sure k c L)) f)

  served_onward : (ws : List (ℕ × ℕ)) (h : List Call) (L : Ledger) → ledger_at k gen nam h ≡ L → serve_all k ws L ≡ true
      → ledger_at k gen nam (onward k gen nam h (takes_of k ws)) ≡ served_all k ws L
  served_onward [] h L e f = e
  served_onward (w ∷ ws) h L e f =
      let g = and_left (serves k w L) (serve_all k ws (serving_at L w.0 w.1)) f in
      served_onward ws (take 128 ∷ h) (serving_at L w.0 w.1) (ap (after k (take 128)) e ∙ take_is k w L g) (and_right (serves k w L) (serve_all k ws (serving_at L w.0 w.1)) f)

  -- a take leaves who is subscribed to what
  take_wants : (L : Ledger) (room c v s : ℕ) → (((after k (take room) L).service v).account c).wants s ≡ ((L.service v).account c).wants s
  take_wants L room c v s = go (may_take room) (leb client_count (next_in L))
    where
      serve : (w s' : ℕ) (t : Bool)
          → ((pick t (changing w (serving s') (L.service v)) (L.service v)).account c).wants s ≡ ((L.service v).account c).wants s
      serve w s' true = at (eqb c w)
        where
          at : (x : Bool) → (pick x (serving s' ((L.service v).account c)) ((L.service v).account c)).wants s ≡ ((L.service v).account c).wants s
          at true = refl
          at false = refl
      serve w s' false = refl

      go : (t u : Bool) → (((pick t (pick u L (serving_at L (next_in L) (place_in L (next_in L)))) L).service v).account c).wants s ≡ ((L.service v).account c).wants s
      go true true = refl
      go true false = serve (next_in L) (slot_at (place_in L (next_in L))) (eqb v (service_of (place_in L (next_in L))))
      go false u = refl

  pub stays_takes : (n c v s : ℕ) (h : List Call) → subscribed_at k gen nam c v s h ≡ true → Stays k gen nam c v s h (takes n)
  stays_takes zero c v s h e = e
  stays_takes (suc n) c v s h e = (e, stays_takes n c v s (take 128 ∷ h) (take_wants (ledger_at k gen nam h) 128 c v s ∙ e))

-- its parts
abbrev goes_on : List Call → List Call → List Call
goes_on h ks = onward one_track plain plain h ks

abbrev h1 : List Call
h1 = goes_on [] coming

abbrev h2 : List Call
h2 = goes_on h1 changes

abbrev h3 : List Call
h3 = goes_on h2 (takes_of one_track (round 0))

in_parts : goes_on h3 once_more ≡ reached_history
in_parts = refl

ledger_1 : ledger_at one_track plain plain h1 ≡ there
ledger_1 = sure_onward one_track plain plain coming [] begun refl all_come

ledger_2 : ledger_at one_track plain plain h2 ≡ owing
ledger_2 = sure_onward one_track plain plain changes h1 there ledger_1 all_changes

-- what is owed when every value of both services has changed
every_change_parts : h2 ≡ goes_on [] every_change
every_change_parts = refl

pub every_change_owes : ledger_at one_track plain plain (goes_on [] every_change) ≡ owing
every_change_owes = subst (λ (h : List Call). ledger_at one_track plain plain h ≡ owing) every_change_parts ledger_2

ledger_3 : ledger_at one_track plain plain h3 ≡ served_all one_track (round 0) owing
ledger_3 = served_onward one_track plain plain (round 0) h2 owing ledger_2 names_served

pub ledger_is : ledger_at one_track plain plain reached_history ≡ waiting
ledger_is =
    subst (λ (h : List Call). ledger_at one_track plain plain h ≡ waiting) in_parts
    (sure_onward one_track plain plain once_more h3 (served_all one_track (round 0) owing) ledger_3 name_changes)

pub one_track_right : lent_rule one_track ≡ true
unfolding lent_rule renames_rule count_rule entries_rule entry_rule catalogue_rule plain_rule sizes_rule parents_rule track_runs_rule follow segment_runs_rule durations_rule starts_rule begin_rule rise_rule below_rule titles_placed_rule titles_text_rule all_below sum_below starts_of title_of text_of text_from char_of
one_track_right = refl

pub no_name_right : text_rule plain.name ≡ true
unfolding text_rule text_of text_from
no_name_right = refl

-- and they are one less than the bound
pub takes_are : takes_of one_track others ≡ takes (bound - 1)
takes_are = refl
