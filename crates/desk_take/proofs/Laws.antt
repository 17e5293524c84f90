-- What is handed out, and the clients' sets. Assumes nothing.
use mathlib.Core.Path.{◌≡◌, refl, sym, ap, ◌∙◌}
use mathlib.Core.Bool.{true, false}
use mathlib.Core.List.{List}
use Prim.Native.Nat.{ℕ, ◌-◌, ◌^◌, ◌≤◌, ◌<◌}
use native.Mathlib.Omega.{arith}
use lib.ListN.{take, get_or}
use lib.Seq.{take_all}
use Rattle.ground.proofs.Bounded.{all_at, all_intro}
use Rattle.ground.proofs.Cases.{past, here}
use Rattle.catalogue_titles.specs.Lent.{Lent}
use Rattle.desk_slots.specs.Slots.{slot_count, service_count, client_count, characteristic_of, service_of, slot_at, owing}
use Rattle.desk_slots.proofs.SlotLaws.{owing_pos}
use Rattle.desk_slots.proofs.NextLaws.{next_hit}
use Rattle.player_state.specs.declared.Player.{Player}
use Rattle.player_check.specs.Standing.{player_rule}
use Rattle.player_values.specs.Values.{source_of, value_of}
use Rattle.desk_client.specs.declared.Client.{Client}
use Rattle.desk_client.specs.Client.{is_control, blank_entry, account_with, client_rule}
use Rattle.desk_client.proofs.Rule.{client_account, owed_within}
use Rattle.desk_state.specs.declared.Desk.{Desk}
use Rattle.desk_state.specs.Desk.{no_player, service_at, client_at}
use Rattle.desk_state.proofs.Laws.{listed}
use Rattle.desk_take.specs.Serving.{places_owed, next_place, result_octets, player_at, handed_octets, players_rule}
use Rattle.desk_take.specs.Take.{owed_sets, next_client, players_of}

-- what a record that stands is owed by a service is a set of slots
pub owed_set : (c : Client) → client_rule c ≡ true → (v : ℕ) → v < service_count → (account_with c v).owed < 2 ^ slot_count
owed_set c e v h = owed_within c.link (account_with c v) (client_account c e v h)

-- the rule over the players is the rule of each of them
module _ (groups tracks : List ℕ) where
  pub each_player : (players : List Player) → players_rule groups tracks players ≡ true → (v : ℕ) → v < service_count → player_rule groups tracks (player_at players v) ≡ true
  unfolding players_rule
  each_player players e v h = all_at _ service_count e v h

  pub players_stand : (d : Desk) → ((v : ℕ) → v < service_count → player_rule groups tracks (service_at d v).player ≡ true) → players_rule groups tracks (players_of d) ≡ true
  unfolding players_rule
  players_stand d f =
      all_intro _ service_count (λ v h. ap (player_rule groups tracks) (listed (λ (v : ℕ). (service_at d v).player) service_count v no_player h) ∙ f v h)

module _ (k : Lent) (players : List Player) (c : Client) where
  -- a result has two octets, which every ATT_MTU lets through
  pub result_handed : is_control (slot_at (next_place c)) ≡ true → 23 ≤ c.link.mtu
      → result_octets (get_or (account_with c (service_of (next_place c))).results 0 blank_entry) ≡ handed_octets k players c
  unfolding handed_octets
  result_handed e h =
      let two = result_octets (get_or (account_with c (service_of (next_place c))).results 0 blank_entry) in
      sym (take_all (c.link.mtu - 3) two (omega arith)) ∙ ap (take (c.link.mtu - 3)) (here _ e refl)

  pub value_handed : is_control (slot_at (next_place c)) ≡ false
      → take (c.link.mtu - 3) (value_of (source_of k) (player_at players (service_of (next_place c))) (characteristic_of (slot_at (next_place c)))) ≡ handed_octets k players c
  unfolding handed_octets
  value_handed e = ap (take (c.link.mtu - 3)) (past _ e refl)

-- the set of a client is its record's
pub set_of_lem : (d : Desk) (who : ℕ) → who < client_count → get_or (owed_sets d) who 0 ≡ places_owed (client_at d who)
unfolding owed_sets
set_of_lem d who h = listed (λ (who : ℕ). places_owed (client_at d who)) client_count who 0 h

-- the next client is owed something
pub owed_there : (d : Desk) → d.turn < client_count → (who : ℕ) → who ≡ next_client d → who < client_count → 0 < places_owed (client_at d who)
unfolding next_client
owed_there d turn who e h =
    let near = next_hit client_count (owing (owed_sets d)) d.turn turn (omega arith) in
    rw (← (set_of_lem d who h)) (owing_pos (owed_sets d) who (ap (owing (owed_sets d)) e ∙ near.holds))
