-- What falls due, from the words that the code compares. Assumes nothing.
use mathlib.Core.Path.{◌≡◌, refl, ap}
use mathlib.Core.Bool.{Bool, not, ◌&&◌}
use Prim.Native.Nat.{ℕ, ◌<◌}
use borrow.Author.Tests.{ltb-true}
use lib.Dec.{ltb}
use Rattle.ground.specs.Lists.{all_below}
use Rattle.ground.proofs.Bounded.{all_at}
use Rattle.player_state.specs.declared.Player.{Player}
use Rattle.desk_slots.specs.Slots.{slot_count, characteristic_of}
use Rattle.desk_slots.specs.Characteristics.{set_of}
use Rattle.desk_slots.proofs.SetLaws.{set_has, set_same}
use Rattle.desk_notices.specs.Changes.{changed, track_changed}
use Rattle.desk_notices.specs.declared.Cause.{Cause}
use Rattle.player_values.specs.Values.{Source}
use Rattle.desk_notices.specs.Owed.{falls_due, spared, falls, due_to, altered_of}

-- each slot's characteristic has a bit in a word
pub slot_bit : (s : ℕ) → s < slot_count → characteristic_of s < 32
unfolding characteristic_of all_below
slot_bit s h = ltb-true (characteristic_of s) 32 (all_at (λ (k : ℕ). ltb (characteristic_of k) 32) slot_count refl s h)

pub due_is : (from : Source) (p q : Player) (cause : Cause) (who : ℕ)
    → set_of slot_count (falls (altered_of from p q) (track_changed p q) cause who) ≡ due_to from p q cause who
unfolding due_to altered_of
due_is from p q cause who =
    set_same slot_count _ _ (λ s h. ap (λ (b : Bool). falls_due b (track_changed p q) (characteristic_of s) && not (spared cause who (characteristic_of s)))
    (set_has (changed from p q) 32 (characteristic_of s) (slot_bit s h)))
