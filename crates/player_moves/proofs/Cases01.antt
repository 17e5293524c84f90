-- The sample catalogue is right (SCOPE 22.1), and all cases come to what they should, in one statement (SCOPE 22.2). Assumes nothing.
use mathlib.Core.Path.{◌≡◌, refl, sym, ap, ◌∙◌}
use mathlib.Core.Bool.{true}
use mathlib.Core.List.{[], ◌∷◌}
use Prim.Native.Nat.{ℕ, zero, suc, ◌<◌}
use native.Mathlib.Omega.{arith}
use lib.ListN.{get_or}
use Rattle.std.specs.Prelude.{Option, Some}
use Rattle.ground.specs.Cases.{has}
use Rattle.ground.specs.Lists.{all_below, sum_below}
use Rattle.text.specs.Utf8.{text_of, text_from}
use Rattle.catalogue_tables.specs.Tables.{tables, end_of, starts_of, title_of}
use Rattle.catalogue_rules.specs.Rules.{sizes_rule, parents_rule, follow, track_runs_rule, segment_runs_rule, durations_rule, begin_rule, rise_rule, below_rule, starts_rule, titles_placed_rule, titles_text_rule}
use Rattle.catalogue_check.specs.Catalogue.{plain_rule, catalogue_rule, check_said, Right}
use Rattle.player_walk.specs.Signed.{signed_word}
use Rattle.player_walk.specs.Steps.{place, goto, move_in}
use Rattle.player_walk.specs.Places.{place_after}
use Rattle.player_walk.specs.declared.Step.TheVariants.{Goto}
use Rattle.player_walk.proofs.Walk.{move_is}
use Rattle.player_walk.proofs.Ways.{back}
use Rattle.player_orders.specs.Order.{comes_before, ordered, tracks_in_order}
use Rattle.player_groups.specs.Family.{siblings}
use Rattle.player_segments.specs.Segments.{segment_starts, previous_start, next_start, move_along}
use Rattle.player_segments.proofs.Steps.{goes_back}
use Rattle.player_segments.proofs.Whole.{back_past}
use Rattle.player_opcodes.specs.Opcodes.{mask_bit, offered, step_of, action_of}
use Rattle.player_state.specs.Player.{at_position, started_player}
use Rattle.player_state.specs.Modes.{moved_to}
use Rattle.player_state.specs.Positions.{held_sum, written}
use Rattle.player_moves.specs.Moves.{past_last, segment_after, track_after, next_track, group_after, entry_of}
use Rattle.player_moves.specs.Control.{success, onward, track_moved, acted, controlled}
use Rattle.player_moves.specs.Clock.{positioned}
use Rattle.player_moves.specs.Cases01.{sample_groups, sample_tracks, sample_segments, minus, goto_segment, goto_track, in_group1, in_track0, came, outcome, control, cases, AllHold}
use Rattle.player_moves.proofs.Past.{past_starts}
use Rattle.player_moves.proofs.Ready.{shaped}

pub sample_right : Right (tables sample_groups sample_tracks sample_segments [])
unfolding check_said catalogue_rule plain_rule sizes_rule parents_rule track_runs_rule follow segment_runs_rule durations_rule starts_rule begin_rule rise_rule below_rule titles_placed_rule titles_text_rule all_below sum_below starts_of end_of title_of text_of text_from
sample_right = refl

-- −2147483648 is too far to walk: it is found without walking, 2147483647 steps from the last
far_position : segment_after sample_tracks sample_segments (Goto (minus 2147483648)) (in_track0 1500) ≡ Some 0
unfolding segment_after starts_of started_player
far_position =
    sym
    (goes_back sample_segments (past_last sample_tracks 0) 1500 (minus 2147483648) ((shaped _ sample_right).rising 0 (omega arith))
    (past_starts sample_tracks 0 sample_segments ((shaped _ sample_right).below 0 (omega arith))) 2147483647 2147483647 0
    (back (minus 2147483648) (omega arith)) refl (back_past sample_segments 2147483647 (omega arith)))

far_segment : control goto_segment (minus 2147483648) (in_track0 1500) ≡ came 1 1 0 0
unfolding controlled offered mask_bit has action_of step_of acted started_player
far_segment =
    ap (λ (n : Option ℕ). outcome (onward n (λ x. success (at_position x (in_track0 1500))) (in_track0 1500))) far_position

apart : (k : ℕ) → k < 3 → place (get_or (0 ∷ 1 ∷ 2 ∷ []) k 0) (0 ∷ 1 ∷ 2 ∷ []) ≡ k
apart zero h = refl
apart (suc zero) h = refl
apart (suc (suc zero)) h = refl
apart (suc (suc (suc k))) h = absurd (let z : ⊥ = omega arith in z)

far_found : track_after sample_groups sample_tracks (Goto (minus 2147483648)) (in_group1 4 0 1500) ≡ Some 1
unfolding track_after tracks_in_order ordered comes_before place_after started_player
far_found =
    move_is (0 ∷ 1 ∷ 2 ∷ []) apart (Goto (minus 2147483648)) true 0 (omega arith)
    ∙ rw (sym (back (minus 2147483648) (omega arith)))

far_track : control goto_track (minus 2147483648) (in_group1 4 0 1500) ≡ came 1 1 1 0
unfolding controlled offered mask_bit has action_of step_of acted track_moved moved_to started_player
far_track = ap (λ (n : Option ℕ). outcome (onward n (λ t. success (moved_to 1 t (in_group1 4 0 1500))) (in_group1 4 0 1500))) far_found

pub cases_hold : AllHold cases
unfolding controlled positioned offered mask_bit has action_of step_of acted track_moved next_track moved_to started_player segment_after starts_of end_of segment_starts move_along previous_start next_start goto signed_word held_sum written track_after tracks_in_order ordered comes_before move_in group_after siblings entry_of
cases_hold =
    (refl, (refl, (refl, (refl, (refl, (refl, (refl, (refl, (refl, (far_segment, (refl, (refl, (refl, (refl, (refl, (refl, (far_track, (refl, (refl, tt)))))))))))))))))))
