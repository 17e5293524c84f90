-- A part of an empty list. Assumes nothing.
use mathlib.Core.Path.{◌≡◌, sym, ap, ◌∙◌}
use mathlib.Core.List.{List, []}
use Prim.Native.Nat.{ℕ}
use lib.ListN.{length, take}
use lib.Seq.{take-nil, drop-nil}
use Rattle.ground.specs.Lists.{filled, part_from}

-- a part of no octets: none of them, and what they are put over stays
pub nothing_put : (from most : ℕ) (old : List ℕ) → (0 ≡ length {A = ℕ} (part_from from most [])) × (old ≡ filled (part_from from most []) old)
nothing_put from most old =
    let none : part_from from most [] ≡ [] = ap (take {A = ℕ} most) (drop-nil from) ∙ take-nil most in
    (sym (ap length none), sym (ap (λ (part : List ℕ). filled part old) none))
