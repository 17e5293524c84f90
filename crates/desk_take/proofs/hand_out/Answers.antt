-- `desk_take::hand_out`: the next place, its present value or the oldest result.
use mathlib.Core.Path.{◌≡◌, sym, ap, ◌∙◌, subst}
use mathlib.Core.Bool.{Bool, true, false}
use mathlib.Core.List.{List, [], ◌∷◌}
use Prim.Native.Nat.{ℕ, ◌<◌, ◌≤◌, ◌-◌}
use native.Mathlib.Omega.{arith}
use lib.ListN.{length, get_or}
use Rattle.ground.specs.Cases.{has}
use Rattle.ground.specs.Lists.{filled, part_from}
use Rattle.catalogue_titles.specs.Lent.{Lent, lent, catalogue_of}
use Rattle.catalogue_titles.proofs.Laws.{fit_right}
use Rattle.desk_slots.specs.Slots.{place_count, characteristic_of, service_of, slot_at}
use Rattle.desk_slots.specs.Round.{next}
use Rattle.player_state.specs.declared.Player.{Player}
use Rattle.player_check.specs.Standing.{player_rule}
use Rattle.player_values.specs.Values.{source_of, value_of}
use Rattle.player_values.proofs.Fits.{player_sits, name_short, title_fits}
use Rattle.desk_client.specs.Client.{is_control, blank_entry, account_with}
use Rattle.desk_client.specs.Duties.{passed_on}
use Rattle.desk_client.proofs.Rule.{client_link, mtu_least, mark_within}
use Rattle.desk_take.specs.Serving.{next_place, result_octets, player_at, handed_octets, handed_values}
use Rattle.desk_take.proofs.Laws.{each_player, result_handed, value_handed}
use Rattle.desk_take.proofs.hand_out.Goals as goal
use Rattle.desk_take.proofs.hand_out.Goals.{After-is_control}

-- the place that comes next, and what stands there
module _ (c : After-is_control) where
  abbrev k : Lent
  k = lent c.args.loan.now

  abbrev of : Player
  of = player_at c.args.players c.service_of-service.result

  place : c.next_place-place.result ≡ next_place c.args.c
  place = c.next_place-place.ensures.1 ∙ ap (λ (w : ℕ). next place_count (has w) c.args.c.link.mark) c.places_owed-owed.ensures.1

  service : c.service_of-service.result ≡ service_of (next_place c.args.c)
  service = c.service_of-service.ensures.1 ∙ ap service_of place

  slot : c.slot_at-s.result ≡ slot_at (next_place c.args.c)
  slot = c.slot_at-s.ensures.1 ∙ ap slot_at place

  number : c.characteristic_of-characteristic.result ≡ characteristic_of (slot_at (next_place c.args.c))
  number = c.characteristic_of-characteristic.ensures.1 ∙ ap characteristic_of slot

  -- what is said of n octets that are handed out, and the record afterwards
  said : (n : ℕ) → n ≡ length (handed_octets k c.args.players c.args.c)
      → (c.service_of-service.result ∷ c.characteristic_of-characteristic.result ∷ n ∷ [] ≡ handed_values k c.args.players c.args.c)
      × (c.serve-next.result ≡ passed_on (next_place c.args.c) c.args.c)
  said n e = (λ i. service i ∷ number i ∷ e i ∷ [], c.serve-next.ensures ∙ ap (λ (n : ℕ). passed_on n c.args.c) place)

  least : 23 ≤ c.args.c.link.mtu
  least = mtu_least c.args.c.link (client_link c.args.c c.requires.c_value.0)

  control : {t : Bool} → c.is_control.result ≡ t → is_control (slot_at (next_place c.args.c)) ≡ t
  control e = sym (c.is_control.ensures ∙ ap is_control slot) ∙ e

  result : c.is_control.result ≡ true
      → result_octets (get_or (account_with c.args.c c.service_of-service.result).results 0 blank_entry) ≡ handed_octets k c.args.players c.args.c
  result e =
      ap (λ (n : ℕ). result_octets (get_or (account_with c.args.c n).results 0 blank_entry)) service
      ∙ result_handed k c.args.players c.args.c (control e) least

  value : c.is_control.result ≡ false → (most : ℕ) → most ≡ c.args.c.link.mtu - 3
      → part_from 0 most (value_of (source_of k) of c.characteristic_of-characteristic.result) ≡ handed_octets k c.args.players c.args.c
  value e most q =
      (λ i. part_from 0 (q i) (value_of (source_of k) (player_at c.args.players (service i)) (number i)))
      ∙ value_handed k c.args.players c.args.c (control e)

  stands : player_rule c.args.loan.now.groups.now c.args.loan.now.tracks.now of ≡ true
  stands =
      each_player c.args.loan.now.groups.now c.args.loan.now.tracks.now c.args.players c.requires.players_value c.service_of-service.result c.service_of-service.ensures.0

pub next_place-place-requires : goal.next_place-place-requires
next_place-place-requires c =
    let owed = c.places_owed-owed.ensures in
    (subst (λ (w : ℕ). 0 < w) (sym owed.1) c.requires.c_value.1, owed.0, mark_within c.args.c.link (client_link c.args.c c.requires.c_value.0))

pub returns-then-is_control-clause-len_value : goal.returns-then-is_control-clause-len_value
returns-then-is_control-clause-len_value c =
    let f = (goal.at.returns-then-is_control-clause-len_value c).After-is_control in
    said f c.put-n.result (c.put-n.ensures.value ∙ ap length (result f c.if-is_control.true))

pub returns-then-is_control-clause-out_after : goal.returns-then-is_control-clause-out_after
returns-then-is_control-clause-out_after c =
    let f = (goal.at.returns-then-is_control-clause-out_after c).After-is_control in
    c.put-n.ensures.out_after ∙ ap (λ (front : List ℕ). filled front c.args.out.now) (result f c.if-is_control.true)

pub overflow_sub-c : goal.overflow_sub-c
overflow_sub-c c =
    omega (arith, least (goal.at.overflow_sub-c c).After-is_control)

pub value-n-requires-clause-sits : goal.value-n-requires-clause-sits
value-n-requires-clause-sits c =
    let f = (goal.at.value-n-requires-clause-sits c).After-is_control in
    player_sits (catalogue_of (k f)) (fit_right (k f) c.requires.fit) (of f) (stands f)

pub value-n-requires-clause-len_le_most_title : goal.value-n-requires-clause-len_le_most_title
value-n-requires-clause-len_le_most_title c =
    let f = (goal.at.value-n-requires-clause-len_le_most_title c).After-is_control in
    name_short (catalogue_of (k f)) (fit_right (k f) c.requires.fit) (of f) (stands f)

pub value-n-requires-clause-p_len_bound : goal.value-n-requires-clause-p_len_bound
value-n-requires-clause-p_len_bound c =
    let f = (goal.at.value-n-requires-clause-p_len_bound c).After-is_control in
    title_fits (k f) c.requires.fit (of f) (stands f)

pub returns-clause-len_value : goal.returns-clause-len_value
returns-clause-len_value c =
    let f = (goal.at.returns-clause-len_value c).After-is_control in
    said f c.value-n.result (c.value-n.ensures.value ∙ ap length (value f c.if-is_control.false c.wide_word-most.result c.wide_word-most.ensures.0))

pub returns-clause-out_after : goal.returns-clause-out_after
returns-clause-out_after c =
    let f = (goal.at.returns-clause-out_after c).After-is_control in
    c.value-n.ensures.out_after
    ∙ ap (λ (front : List ℕ). filled front c.args.out.now) (value f c.if-is_control.false c.wide_word-most.result c.wide_word-most.ensures.0)
