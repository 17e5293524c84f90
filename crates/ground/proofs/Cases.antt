-- Case splits: on an order of two numbers, on a conjunction, and along `pick`, where `past` goes by a test that failed and `here` stops at one
-- that held. `past` and `here` cost nothing that grows with the two branches. Assumes nothing.
use mathlib.Core.Path.{◌≡◌, refl, sym, subst}
use mathlib.Core.Bool.{Bool, true, false, ◌&&◌, false≢true}
use mathlib.Core.Logic.{◌⊎◌, inl, inr}
use Prim.Native.Nat.{ℕ, ◌<◌, ◌≤◌}
use native.Mathlib.Decide.{dec_le}
use native.Mathlib.Omega.{arith}
use Rattle.ground.specs.Cases.{pick}

pub past : {A : Type 0} {t : Bool} (a : A) {b r : A} → t ≡ false → r ≡ b → r ≡ pick t a b
past {A} {t} a {b} {r} e h = subst (λ (u : Bool). r ≡ pick u a b) (sym e) h

pub here : {A : Type 0} {t : Bool} {a : A} (b : A) {r : A} → t ≡ true → r ≡ a → r ≡ pick t a b
here {A} {t} {a} b {r} e h = subst (λ (u : Bool). r ≡ pick u a b) (sym e) h

pub le_or : (a b : ℕ) → (a ≤ b) ⊎ (b < a)
le_or a b = elim (dec_le a b) [ yes h ↦ inl h | no h ↦ inr (omega arith) ]

pub true_or : (t : Bool) → (t ≡ true) ⊎ (t ≡ false)
true_or true = inl refl
true_or false = inr refl

pub clash : {A : Type 0} → false ≡ true → A
clash e = absurd (false≢true e)

pub and_left : (a b : Bool) → (a && b) ≡ true → a ≡ true
and_left true b h = refl
and_left false b h = clash h

pub and_right : (a b : Bool) → (a && b) ≡ true → b ≡ true
and_right true b h = h
and_right false b h = clash h

pub and_both : {a b : Bool} → a ≡ true → b ≡ true → (a && b) ≡ true
and_both {a} {b} p q = subst (λ (t : Bool). (t && b) ≡ true) (sym p) q

-- where the second of two tests fails, both together do
pub and_fails : (a : Bool) {b : Bool} → b ≡ false → (a && b) ≡ false
and_fails true e = e
and_fails false e = refl
