-- `mcs_told::tell_place`: the track by `tell`, and the offset, which is the last of what is carried.
use mathlib.Core.Path.{◌≡◌, refl, ap}
use mathlib.Core.List.{List, [], ◌∷◌}
use Prim.Native.Nat.{ℕ}
use native.Mathlib.Omega.{arith}
use lib.ListN.{length, take, set}
use Rattle.ground.proofs.Cases.{past, here}
-- one word written
use Rattle.mcs_told.proofs.tell_place.Goals as goal

one_word : (old : List ℕ) (v : ℕ) {w : ℕ} → length old ≡ 1 → v ≡ w → set old 0 v ≡ take (length old) (w ∷ [])
one_word [] v l e = absurd (let z : ⊥ = omega arith in z)
one_word (x ∷ []) v l e = ap (λ (y : ℕ). y ∷ []) e
one_word (x ∷ y ∷ s) v l e = absurd (let z : ⊥ = omega arith in z)

pub returns-then-t-2-clause-track_after : goal.returns-then-t-2-clause-track_after
returns-then-t-2-clause-track_after c =
    c.tell.ensures

pub returns-then-t-2-clause-octet_after : goal.returns-then-t-2-clause-octet_after
returns-then-t-2-clause-octet_after c =
    here _ c.if-t.true (one_word c.args.octet.now _ c.requires.octet_value (here _ c.if-t-2.true refl))

pub returns-else-t-2-clause-track_after : goal.returns-else-t-2-clause-track_after
returns-else-t-2-clause-track_after c =
    c.tell.ensures

pub returns-else-t-2-clause-octet_after : goal.returns-else-t-2-clause-octet_after
returns-else-t-2-clause-octet_after c =
    here _ c.if-t.true (one_word c.args.octet.now _ c.requires.octet_value (past _ c.if-t-2.false refl))

pub returns-else-t-clause-track_after : goal.returns-else-t-clause-track_after
returns-else-t-clause-track_after c =
    c.tell.ensures

pub returns-else-t-clause-octet_after : goal.returns-else-t-clause-octet_after
returns-else-t-clause-octet_after c =
    past _ c.if-t.false refl
