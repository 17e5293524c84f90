-- The most that can be owed is reached: the ledger after the history of `specs/Full.antt` is computed, and what it owes is counted. Assumes nothing.
use mathlib.Core.Path.{◌≡◌, refl, ap, ◌∙◌}
use mathlib.Core.Bool.{true}
use mathlib.Core.List.{[]}
use Rattle.ground.specs.Cases.{has}
use Rattle.ground.specs.Lists.{sum_below}
use Rattle.ground.specs.Words.{six_octets}
use Rattle.catalogue_tables.specs.Tables.{title_of}
use Rattle.catalogue_titles.specs.Titles.{part_of, octets_at}
use Rattle.player_walk.specs.Steps.{move_in}
use Rattle.player_orders.specs.Order.{ordered, tracks_in_order}
use Rattle.player_opcodes.specs.Opcodes.{mask_bit, offered, action_of, parameter_length}
use Rattle.player_state.specs.Player.{renamed, started_player}
use Rattle.player_state.specs.Modes.{forwarded}
use Rattle.player_moves.specs.Moves.{track_after, next_track, entry_of}
use Rattle.player_moves.specs.Control.{acted, controlled}
use Rattle.player_moves.specs.Clock.{activated}
use Rattle.player_values.specs.Values.{word_octets, title_part, title_value, duration_value, position_value, track_now, next_now, parent_now, group_now, object_octets, value_of}
use Rattle.desk_slots.specs.Table.{size_of}
use Rattle.desk_slots.specs.Slots.{slot_of, characteristic_of, service_of, slot_at}
use Rattle.desk_slots.specs.Characteristics.{is_in}
use Rattle.desk_notices.specs.Changes.{same_octets, changed, track_number, track_changed}
use Rattle.desk_notices.specs.Owed.{spared}
use Rattle.desk_exchange.specs.Write.{length_right, control_length, allowed, player_written}
use Rattle.desk_history.specs.Ledger.{Ledger}
use Rattle.desk_history.specs.History.{ledger_at, onward}
use Rattle.desk_history.specs.Reached.{one_track, plain, every_change}
use Rattle.desk_history.proofs.Reached.{sure_all, fit_all, sure_onward, owing, every_change_owes}
use Rattle.desk_quiet.specs.Quiet.{most_owed}
use Rattle.desk_quiet.specs.Full.{more_presses, full_history}
use Rattle.desk_quiet.proofs.Count.{owed_count}

-- every press finds room for its result
abbrev full : Ledger
full = sure_all one_track more_presses owing

all_fit : fit_all one_track more_presses owing ≡ true
unfolding slot_of is_in length_right control_length allowed size_of parameter_length mask_bit
all_fit = refl

full_count : owed_count full ≡ most_owed
unfolding sum_below service_of slot_at slot_of is_in changed same_octets value_of characteristic_of started_player renamed spared title_value title_part part_of octets_at duration_value position_value track_now next_now parent_now group_now word_octets object_octets six_octets track_changed track_number player_written activated entry_of controlled offered mask_bit has next_track track_after move_in tracks_in_order ordered acted action_of forwarded title_of
full_count = refl

pub full_owes : owed_count (ledger_at one_track plain plain full_history) ≡ most_owed
full_owes = ap owed_count (sure_onward one_track plain plain more_presses (onward one_track plain plain [] every_change) owing every_change_owes all_fit) ∙ full_count
