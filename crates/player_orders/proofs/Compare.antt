-- Of two tracks the one that comes before has the lesser key, where stamps and numbers have 32 bits. Assumes nothing.
use mathlib.Core.Path.{◌≡◌, sym, ◌∙◌}
use mathlib.Core.Bool.{◌&&◌, ◌||◌}
use mathlib.Core.Logic.{⊎_elim}
use mathlib.Core.List.{List}
use Prim.Native.Nat.{ℕ, ◌+◌, ◌-◌, ◌*◌, ◌<◌}
use native.Mathlib.Nat.{eq-or-lt_of_le}
use native.Mathlib.Omega.{arith}
use borrow.Author.Tests.{lt-ltb, le-ltb, eq-eqb, ne_eqb}
use lib.Dec.{ltb, eqb}
use Rattle.ground.proofs.Cases.{le_or}
use Rattle.catalogue_tables.specs.Tables.{stamp_of}
use Rattle.player_orders.specs.declared.By.{By}
use Rattle.player_orders.specs.declared.By.TheVariants.{Number, Rising, Falling}
use Rattle.player_orders.specs.Order.{comes_before}
use Rattle.player_orders.specs.Keys.{key_of}

-- a number of two digits compares by the higher and, where these are equal, by the lower
module _ (a b t u : ℕ) (ht : t < 0x1_0000_0000) (hu : u < 0x1_0000_0000) where
  digits : (ltb a b || (eqb a b && ltb t u)) ≡ ltb (a * 0x1_0000_0000 + t) (b * 0x1_0000_0000 + u)
  digits = ⊎_elim (λ h. ⊎_elim equal above (eq-or-lt_of_le h)) less (le_or b a)
    where
      less : a < b → (ltb a b || (eqb a b && ltb t u)) ≡ ltb (a * 0x1_0000_0000 + t) (b * 0x1_0000_0000 + u)
      less h = rw (lt-ltb a b h, lt-ltb (a * 0x1_0000_0000 + t) (b * 0x1_0000_0000 + u) (omega arith))

      above : b < a → (ltb a b || (eqb a b && ltb t u)) ≡ ltb (a * 0x1_0000_0000 + t) (b * 0x1_0000_0000 + u)
      above h =
          rw (le-ltb a b (omega arith), ne_eqb a b (λ e. omega arith), le-ltb (a * 0x1_0000_0000 + t) (b * 0x1_0000_0000 + u) (omega arith))

      equal : b ≡ a → (ltb a b || (eqb a b && ltb t u)) ≡ ltb (a * 0x1_0000_0000 + t) (b * 0x1_0000_0000 + u)
      equal e =
          rw (le-ltb a b (omega arith), eq-eqb a b (sym e))
          (⊎_elim
          (λ q. rw (le-ltb t u q, le-ltb (a * 0x1_0000_0000 + t) (b * 0x1_0000_0000 + u) (omega arith)))
          (λ q. rw (lt-ltb t u q, lt-ltb (a * 0x1_0000_0000 + t) (b * 0x1_0000_0000 + u) (omega arith)))
          (le_or u t))

-- what is left of a bound falls as a number rises
module _ (a b : ℕ) (ha : a < 0x1_0000_0000) (hb : b < 0x1_0000_0000) where
  falls : ltb b a ≡ ltb (0xFFFF_FFFF - a) (0xFFFF_FFFF - b)
  falls =
      ⊎_elim
      (λ h. rw (le-ltb b a h, le-ltb (0xFFFF_FFFF - a) (0xFFFF_FFFF - b) (omega arith)))
      (λ h. rw (lt-ltb b a h, lt-ltb (0xFFFF_FFFF - a) (0xFFFF_FFFF - b) (omega arith)))
      (le_or a b)

  same : eqb a b ≡ eqb (0xFFFF_FFFF - a) (0xFFFF_FFFF - b)
  same = ⊎_elim (λ h. ⊎_elim equal (λ q. apart (λ e. omega arith)) (eq-or-lt_of_le h)) (λ q. apart (λ e. omega arith)) (le_or a b)
    where
      equal : a ≡ b → eqb a b ≡ eqb (0xFFFF_FFFF - a) (0xFFFF_FFFF - b)
      equal e = rw (eq-eqb a b e, eq-eqb (0xFFFF_FFFF - a) (0xFFFF_FFFF - b) (omega arith))

      apart : (a ≡ b → ⊥) → eqb a b ≡ eqb (0xFFFF_FFFF - a) (0xFFFF_FFFF - b)
      apart n = rw (ne_eqb a b n, ne_eqb (0xFFFF_FFFF - a) (0xFFFF_FFFF - b) (λ e. n (omega arith)))

pub key_compares : (by : By) (tracks : List ℕ) → ((i : ℕ) → stamp_of tracks i < 0x1_0000_0000) → (t u : ℕ) → t < 0x1_0000_0000 → u < 0x1_0000_0000
    → comes_before by tracks t u ≡ ltb (key_of by tracks t) (key_of by tracks u)
unfolding comes_before
key_compares Number tracks stamps t u ht hu = digits 0 0 t u ht hu
key_compares Rising tracks stamps t u ht hu = digits (stamp_of tracks t) (stamp_of tracks u) t u ht hu
key_compares Falling tracks stamps t u ht hu =
    (λ k. falls (stamp_of tracks t) (stamp_of tracks u) (stamps t) (stamps u) k || (same (stamp_of tracks t) (stamp_of tracks u) (stamps t) (stamps u) k && ltb t u))
    ∙ digits (0xFFFF_FFFF - stamp_of tracks t) (0xFFFF_FFFF - stamp_of tracks u) t u ht hu
