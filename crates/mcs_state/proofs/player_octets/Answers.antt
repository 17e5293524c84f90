-- `mcs_state::player_octets`: each number is laid out as the four octets that std gives; of a number of 32 bits the last is an octet.
use mathlib.Core.Path.{◌≡◌, refl, ap, ◌∙◌}
use mathlib.Core.List.{List, [], ◌∷◌}
use Prim.Native.Nat.{ℕ, ◌/◌, ◌%◌, ◌<◌}
use native.Mathlib.Omega.{arith}
use lib.ListN.{get_or}
use Rattle.mcs_state.specs.Codec.{word_then, player_octets}
use Rattle.mcs_state.proofs.player_octets.Goals as goal

word_laid : (n : ℕ) (b r q : List ℕ) → b ≡ n % 256 ∷ n / 256 % 256 ∷ n / 65536 % 256 ∷ n / 16777216 % 256 ∷ [] → n < 4294967296 → r ≡ q →
    get_or b 0 0 ∷ get_or b 1 0 ∷ get_or b 2 0 ∷ get_or b 3 0 ∷ r ≡ word_then n q
word_laid n b r q e h t =
    let top : n / 16777216 % 256 ≡ n / 16777216 = omega arith in
    (λ k. get_or (e k) 0 0 ∷ get_or (e k) 1 0 ∷ get_or (e k) 2 0 ∷ get_or (e k) 3 0 ∷ t k) ∙ (λ k. n % 256 ∷ n / 256 % 256 ∷ n / 65536 % 256 ∷ top k ∷ q)

pub returns : goal.returns
unfolding player_octets
returns c =
    let p = c.args.p in
    ap (λ (s : List ℕ). p.name.len ∷ p.offer.ccid ∷ p.mode.media ∷ p.mode.order ∷ p.mode.speed ∷ p.mode.seeking ∷ s)
    (word_laid p.offer.mask _ _ _ c.to_le_bytes.ensures (omega arith)
    (word_laid p.place.group.0 _ _ _ c.to_le_bytes-2.ensures (omega arith)
    (word_laid p.place.track.0 _ _ _ c.to_le_bytes-3.ensures (omega arith)
    (word_laid p.place.position.0 _ _ _ c.to_le_bytes-4.ensures (omega arith)
    (word_laid p.upcoming _ _ _ c.to_le_bytes-5.ensures (omega arith)
    (word_laid p.place.rest _ _ _ c.to_le_bytes-6.ensures (omega arith) refl))))))
