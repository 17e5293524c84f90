-- `desk_slots::places_of`: service 1's slots stand behind service 0's, and none of them is lost by the shift.
use mathlib.Core.Path.{◌≡◌, sym, ap, ◌∙◌, subst}
use mathlib.Core.List.{[], ◌∷◌}
use Prim.Native.Nat.{ℕ, ◌*◌, ◌%◌, ◌^◌, ◌<◌}
use lib.Bits.{bit_or, or_zero_r}
use lib.Dec.{lit≤}
use lib.Pow.{shl_exact}
use Rattle.desk_slots.specs.Slots.{slot_count, place_count, places_of}
use Rattle.desk_slots.proofs.PlaceLaws.{places_lt}
use Rattle.desk_slots.proofs.places_of.Goals as goal

same : (w v : ℕ) → v < 2 ^ slot_count → bit_or w (v * 2 ^ slot_count % 2 ^ 32) ≡ places_of (w ∷ v ∷ [])
unfolding places_of
same w v h = ap (bit_or w) (shl_exact slot_count slot_count 32 h (lit≤ tt) ∙ ap (λ (x : ℕ). x * 2 ^ slot_count) (sym (or_zero_r v)))

pub returns : goal.returns
returns c =
    let e = same c.args.generic c.args.named c.requires.1 in
    (subst (λ (x : ℕ). x < 2 ^ place_count) (sym e) (places_lt (c.args.generic ∷ c.args.named ∷ []) (c.requires.0, (c.requires.1, tt))), e)
