-- What a call of no client on a service knows once the gate has let it through, and what it comes to. Assumes nothing.
use mathlib.Core.Path.{◌≡◌, refl, subst}
use mathlib.Core.Bool.{true, false}
use mathlib.Core.List.{List, [], ◌∷◌}
use lib.ListN.{length}
use Prim.Native.Nat.{ℕ, ◌<◌, ◌≤◌}
use borrow.Author.Tests.{leb-false}
use Rattle.std.specs.Prelude.{Result}
use Rattle.ground.specs.declared.Refusal.{Refusal}
use Rattle.ground.specs.Refusals.{granted, Left, keeping, answered, said_by}
use Rattle.ground.proofs.Rows.{NoneApplies, through}
use Rattle.catalogue_check.specs.Catalogue.{Right}
use Rattle.catalogue_titles.specs.Lent.{Lent, catalogue_of}
use Rattle.catalogue_titles.proofs.Laws.{fit_right}
use Rattle.player_state.specs.declared.Player.{Player}
use Rattle.player_check.specs.Standing.{player_rule}
use Rattle.player_moves.specs.Moves.{Shaped, Sits}
use Rattle.player_moves.proofs.Ready as ready
use Rattle.player_values.proofs.Fits.{player_sits}
use Rattle.desk_slots.specs.Slots.{service_count}
use Rattle.desk_state.specs.declared.Desk.{Desk}
use Rattle.mcs_state.specs.Codec.{desk_of}
use Rattle.mcs_state.specs.Stored.{Octets, Plain}
use Rattle.desk_replies.specs.declared.Reply.{Reply}
use Rattle.desk_replies.specs.Replies.{on_service, service_row, Answers}
use Rattle.desk_replies.proofs.Gates as gates
use Rattle.desk_console.specs.Console.{player_of}

module _ (k : Lent) (old : List ℕ) (service : ℕ) (let_through : granted [] ≡ said_by (on_service k (desk_of old) service)) where
  passed : NoneApplies (on_service k (desk_of old) service)
  passed = gates.none (on_service k (desk_of old) service) let_through refl

  pub there : service < service_count
  there = leb-false _ _ passed.1.1.1.1.0

  pub plain : 649 ≤ length old → Octets old → Plain old
  plain = gates.plain_so k false old (service_row service ∷ []) passed

  right : Right (catalogue_of k)
  right = fit_right k (gates.fit k false (desk_of old) (service_row service ∷ []) passed)

  pub shaped : Shaped k.groups k.tracks k.segments
  shaped = ready.shaped (catalogue_of k) right

  -- the player before the call stands, and one that stands sits
  pub stands : player_rule k.groups k.tracks (player_of (desk_of old) service) ≡ true
  stands = gates.player k false (desk_of old) (service_row service ∷ []) passed service there

  pub sits : (q : Player) → player_rule k.groups k.tracks q ≡ true → Sits k.groups k.tracks q
  sits = player_sits (catalogue_of k) right

  -- the call's own rows and its work are what is asked then
  pub behind : {left rest : Left Desk} → left ≡ rest → left ≡ answered (keeping (desk_of old)) (on_service k (desk_of old) service) rest
  behind = through (keeping (desk_of old)) (on_service k (desk_of old) service) passed

  pub told_so : {l rest : Left Desk} {new : List ℕ} {answer : Result Reply Refusal} → l ≡ rest → Answers l old answer new
      → Answers (answered (keeping (desk_of old)) (on_service k (desk_of old) service) rest) old answer new
  told_so {l} {rest} {new} {answer} e = subst (λ (x : Left Desk). Answers x old answer new) (behind e)
