-- The next slot of a set, found in the turned word by its trailing zeros: for n slots at m bits. Assumes nothing.
use mathlib.Core.Path.{◌≡◌, sym, ap, ap₂, ◌∙◌}
use mathlib.Core.Bool.{Bool, ◌||◌, or-false}
use mathlib.Core.Logic.{⊎_elim}
use Prim.Native.Nat.{ℕ, ◌+◌, ◌-◌, ◌*◌, ◌/◌, ◌%◌, ◌^◌, ◌≤◌, ◌<◌}
use native.Mathlib.Nat.{mod-add-mod, lt_of_lt_of_le}
use native.Mathlib.Omega.{arith}
use lib.Bits.{bit_or}
use lib.Count.{count_trailing_zeros}
use Rattle.ground.specs.Cases.{has}
use Rattle.desk_slots.specs.Round.{ahead, next, dist}
use Rattle.desk_slots.proofs.Bits.{has_or, has_shr, has_shl, has_shl_below, has_mod, has_above}
use Rattle.desk_slots.proofs.Zeros.{zeros_below, zeros_at, zeros_le, zeros_lt}
use Rattle.desk_slots.proofs.RoundLaws.{ahead_cases, ahead_lt, ahead_dist, dist_range}
use Rattle.desk_slots.proofs.NextLaws.{next_at}

-- `(w >> k) | (w << (n - k))` at m bits
abbrev pub turned : ℕ → ℕ → ℕ → ℕ → ℕ
turned n m w k = bit_or (w / 2 ^ k) (w * 2 ^ (n - k) % 2 ^ m)

-- slot i of the turned word is the slot i places after k
pub has_turned : (n m w k i : ℕ) → n ≤ m → w < 2 ^ n → k < n → i < n → has (turned n m w k) i ≡ has w (ahead n k i)
has_turned n m w k i nm hw hk hi =
    has_or (w / 2 ^ k) (w * 2 ^ (n - k) % 2 ^ m) i
    ∙ ap₂ ◌||◌ (has_shr w k i) (has_mod (w * 2 ^ (n - k)) m i (lt_of_lt_of_le hi nm))
    ∙ ⊎_elim low high (ahead_cases n k i hk (omega arith))
  where
    low : (k + i < n) × (ahead n k i ≡ k + i) → (has w (k + i) || has (w * 2 ^ (n - k)) i) ≡ has w (ahead n k i)
    low h =
        ap (λ (b : Bool). has w (k + i) || b) (has_shl_below w (n - k) i (omega arith)) ∙ or-false (has w (k + i)) ∙ ap (has w) (sym h.1)

    high : (n ≤ k + i) × (ahead n k i ≡ k + i - n) → (has w (k + i) || has (w * 2 ^ (n - k)) i) ≡ has w (ahead n k i)
    high h =
        let e : i ≡ n - k + (k + i - n) = omega arith in
        ap (λ (b : Bool). b || has (w * 2 ^ (n - k)) i) (has_above n w (k + i) hw h.0)
        ∙ ap (has (w * 2 ^ (n - k))) e ∙ has_shl w (n - k) (k + i - n) ∙ ap (has w) (sym h.1)

module _ (n m w a : ℕ) (nm : n ≤ m) (ha : a < n) (pos : 0 < w) (hw : w < 2 ^ n) where
  -- the word turned to a + 1: its slot i is the slot i + 1 places after a
  turned_at : (i : ℕ) → i < n → has (turned n m w ((a + 1) % n)) i ≡ has w (ahead n a (1 + i))
  turned_at i hi =
      let e : a + 1 + i ≡ a + (1 + i) = omega arith in
      has_turned n m w ((a + 1) % n) i nm hw (ahead_lt n a 1 ha) hi
      ∙ ap (has w) (mod-add-mod (a + 1) n i ∙ ap (λ (x : ℕ). x % n) e)

  -- the trailing zeros of the turned word are fewer than n: some slot is in w
  pub turned_zeros : count_trailing_zeros m (turned n m w ((a + 1) % n)) < n
  turned_zeros =
      let s = count_trailing_zeros n w in
      let hs = zeros_lt n w pos hw in
      let r = dist_range n a s ha hs in
      let i = dist n a s - 1 in
      let e : 1 + i ≡ dist n a s = omega arith in
      let found = turned_at i (omega arith) ∙ ap (has w) (ap (ahead n a) e ∙ ahead_dist n a s ha hs) ∙ zeros_at n w hs in
      omega (arith, zeros_le m (turned n m w ((a + 1) % n)) i found)

  pub next_code : ((a + 1) % n + count_trailing_zeros m (turned n m w ((a + 1) % n))) % n ≡ next n (has w) a
  next_code =
      let x = turned n m w ((a + 1) % n) in
      let z = count_trailing_zeros m x in
      let e : a + 1 + z ≡ a + (1 + z) = omega arith in
      mod-add-mod (a + 1) n z ∙ ap (λ (y : ℕ). y % n) e
      ∙ sym (next_at n (has w) a ha z turned_zeros
      (sym (turned_at z turned_zeros) ∙ zeros_at m x (lt_of_lt_of_le turned_zeros nm))
      (λ j h. sym (turned_at j (omega (arith, turned_zeros))) ∙ zeros_below m x j h))
