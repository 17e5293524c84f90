-- What the call answers where it is accepted: with |n| or more allowed, the result of the service's control point for the same opcode and number, and the
-- place where it leaves the player; and whatever is allowed, what is counted. Assumes nothing.
use mathlib.Core.Path.{◌≡◌, ap, ◌∙◌}
use mathlib.Core.Bool.{true}
use mathlib.Core.List.{[]}
use Prim.Native.Nat.{ℕ, ◌≤◌}
use Rattle.ground.specs.Refusals.{granted, leaves, accepted}
use Rattle.ground.specs.Cases.{pick}
use Rattle.ground.proofs.Rows.{NoneApplies, none_of, state_of}
use Rattle.catalogue_titles.specs.Lent.{Lent}
use Rattle.player_walk.specs.Signed.{signed_word}
use Rattle.player_manual.specs.Made.{size}
use Rattle.player_moves.specs.declared.Controlled.{Controlled}
use Rattle.player_moves.specs.Control.{controlled}
use Rattle.player_goto.specs.Goto.{is_goto, gone}
use Rattle.player_goto.proofs.Agree.{came, goto_agrees}
use Rattle.player_goto.proofs.Counted.{Ends, goto_ends}
use Rattle.desk_state.specs.declared.Desk.{Desk}
use Rattle.desk_state.specs.Desk.{service_at}
use Rattle.desk_replies.specs.Replies.{on_service}
use Rattle.desk_goto.specs.declared.Arrival.{Arrival}
use Rattle.desk_goto.specs.Manual.{arrival_of, no_arrival, manual_call}
use Rattle.desk_goto.proofs.Standing.{shaped_now, player_now}

module _ (k : Lent) (d : Desk) (service opcode n allowed : ℕ) (accepts : accepted (on_service k d service) ≡ true) where
  passed : NoneApplies (on_service k d service)
  passed = none_of (on_service k d service) accepts

  -- what is shown is what the service's player comes to
  pub shows : (manual_call k d service opcode n allowed).state ≡ arrival_of (gone k.groups k.tracks k.segments opcode n allowed (service_at d service).player)
  unfolding manual_call
  shows =
      state_of no_arrival (on_service k d service) (leaves (granted []) (arrival_of (gone k.groups k.tracks k.segments opcode n allowed (service_at d service).player)))
      ∙ ap (λ t. pick t (arrival_of (gone k.groups k.tracks k.segments opcode n allowed (service_at d service).player)) no_arrival) accepts

  module _ (one : is_goto opcode ≡ true) (enough : size (signed_word n) ≤ allowed) where
    agrees : came (gone k.groups k.tracks k.segments opcode n allowed (service_at d service).player) ≡ controlled k.groups k.tracks k.segments opcode n (service_at d service).player
    agrees =
        goto_agrees k.groups k.tracks k.segments (shaped_now k d service passed) n allowed (service_at d service).player (player_now k d service passed) opcode one enough

    pub outcome_agrees : (manual_call k d service opcode n allowed).state.outcome ≡ (controlled k.groups k.tracks k.segments opcode n (service_at d service).player).result
    outcome_agrees = ap (λ (a : Arrival). a.outcome) shows ∙ ap (λ (c : Controlled). c.result) agrees

    pub place_agrees : (manual_call k d service opcode n allowed).state.place ≡ (controlled k.groups k.tracks k.segments opcode n (service_at d service).player).player.place
    place_agrees = ap (λ (a : Arrival). a.place) shows ∙ ap (λ (c : Controlled). c.player.place) agrees

  -- and what is counted of it
  pub call_ends : Ends allowed (size (signed_word n)) (service_at d service).player (gone k.groups k.tracks k.segments opcode n allowed (service_at d service).player)
  call_ends = goto_ends n allowed (service_at d service).player k.groups k.tracks k.segments (shaped_now k d service passed) (player_now k d service passed) opcode
