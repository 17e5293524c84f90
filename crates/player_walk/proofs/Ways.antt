-- The way that a word says, and whether its number is below 0. Assumes nothing.
use mathlib.Core.Path.{◌≡◌, sym, ap}
use mathlib.Core.Logic.{⊎_elim}
use Prim.Native.Nat.{ℕ, suc, ◌-◌, ◌<◌, ◌≤◌}
use native.Mathlib.Omega.{arith}
use borrow.Author.Tests.{lt-ltb, le-ltb, le-leb, lt-leb}
use lib.Dec.{leb}
use lib.IntN.{pos}
use Rattle.ground.proofs.Cases.{le_or}
use Rattle.player_walk.specs.Signed.{signed_word, is_negative}
use Rattle.player_walk.specs.Places.{way_of}
use Rattle.player_walk.specs.declared.Way.TheVariants.{Stay, Ahead, Back}

pub stays : (w : ℕ) → w ≡ 0 → Stay ≡ way_of (signed_word w)
unfolding signed_word
stays w e = rw e

pub ahead : (w : ℕ) → (w ≡ 0 → ⊥) → w < 0x8000_0000 → Ahead (w - 1) ≡ way_of (signed_word w)
unfolding signed_word
ahead w n h =
    let e : w ≡ suc (w - 1) = omega arith in
    rw (lt-ltb w 0x8000_0000 h) (sym (ap (λ (k : ℕ). way_of (pos k)) e))

pub back : (w : ℕ) → 0x8000_0000 ≤ w → Back (0xFFFF_FFFF - w) ≡ way_of (signed_word w)
unfolding signed_word
back w h = rw (le-ltb w 0x8000_0000 h)

pub negative : (w : ℕ) → leb 0x8000_0000 w ≡ is_negative (signed_word w)
unfolding signed_word
negative w = ⊎_elim
    (λ h. rw (le-leb 0x8000_0000 w h, le-ltb w 0x8000_0000 h))
    (λ h. rw (lt-leb 0x8000_0000 w h, lt-ltb w 0x8000_0000 h))
    (le_or 0x8000_0000 w)
