-- Positions by a signed number or octet, case by case of its sign. Assumes nothing.
use mathlib.Core.Path.{◌≡◌}
use Prim.Native.Nat.{ℕ, suc, min, ◌+◌, ◌-◌, ◌*◌, ◌<◌, ◌≤◌}
use native.Mathlib.Nat.{mul-le-mul}
use native.Mathlib.Omega.{arith}
use borrow.Author.Tests.{lt-ltb, le-ltb}
use Rattle.player_walk.specs.Signed.{signed_word}
use Rattle.player_state.specs.Positions.{held_sum, written, sought}

module _ (d p n : ℕ) where
  pub held_up : n < 0x8000_0000 → min (p + n) d ≡ held_sum d p (signed_word n)
  unfolding held_sum signed_word
  held_up h = rw (lt-ltb n 0x8000_0000 h)

  pub held_down : 0x8000_0000 ≤ n → n < 0x1_0000_0000 → min (p - (0x1_0000_0000 - n)) d ≡ held_sum d p (signed_word n)
  unfolding held_sum signed_word
  held_down h k =
      let e : 0x1_0000_0000 - n ≡ suc (0xFFFF_FFFF - n) = omega arith in
      rw (le-ltb n 0x8000_0000 h, e)

  pub written_up : n < 0x8000_0000 → min n d ≡ written d (signed_word n)
  unfolding written signed_word
  written_up h = rw (lt-ltb n 0x8000_0000 h)

  pub written_down : 0x8000_0000 ≤ n → n < 0x1_0000_0000 → min (d - (0x1_0000_0000 - n)) d ≡ written d (signed_word n)
  unfolding written signed_word
  written_down h k = rw (le-ltb n 0x8000_0000 h) (omega arith)

module _ (d p s n : ℕ) where
  pub sought_up : s < 0x80 → min (p + n * s) d ≡ sought d p s n
  unfolding sought
  sought_up h = rw (lt-ltb s 0x80 h)

  pub sought_down : 0x80 ≤ s → s < 0x100 → min (p - n * (0x100 - s)) d ≡ sought d p s n
  unfolding sought
  sought_down h k =
      let e : 0x100 - s ≡ suc (0xFF - s) = omega arith in
      rw (le-ltb s 0x80 h, e)

-- a number of 32 bits times an octet fits
pub small_product : (n k : ℕ) → n < 0x1_0000_0000 → k ≤ 0x100 → n * k ≤ 0x1_0000_0000 * 0x100
small_product n k h l = let m : n ≤ 0x1_0000_0000 = omega arith in mul-le-mul m l
