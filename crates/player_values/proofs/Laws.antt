-- What each value is, how long, and that its octets tell a word. Assumes nothing.
use mathlib.Core.Path.{◌≡◌, refl, ap, sym, ◌∙◌}
use mathlib.Core.Bool.{Bool, true, false}
use mathlib.Core.Logic.{⊎_elim}
use mathlib.Core.List.{List, [], ◌∷◌}
use Prim.Native.Nat.{ℕ, ◌/◌, ◌%◌, ◌^◌, ◌≤◌, ◌<◌}
use native.Mathlib.Omega.{arith}
use borrow.Author.Tests.{ne_eqb, eqb-true}
use lib.Dec.{eqb}
use lib.ListN.{length, get_or, length-take}
use Rattle.ground.specs.Cases.{pick}
use Rattle.ground.specs.Words.{six_octets}
use Rattle.ground.proofs.Cases.{true_or}
use Rattle.catalogue_tables.specs.Tables.{duration_of, not_yet_known, is_running}
use Rattle.player_state.specs.declared.Player.{Player}
use Rattle.player_state.specs.Player.{name_of}
use Rattle.player_values.specs.Values.{Source, source, word_octets, title_value, duration_read, duration_value, position_value, segments_now, track_now, next_now, parent_now, group_now, object_octets, opcodes_value, value_of}

pub word_long : (w : ℕ) → length (word_octets w) ≡ 4
unfolding word_octets
word_long w = refl

object_short : (object : ℕ) → length (object_octets object) ≤ 128
unfolding object_octets six_octets
object_short object = ⊎_elim (λ e. rw e (omega arith)) (λ e. rw e (omega arith)) (true_or (eqb object 0))

-- a number is told by its lowest octet and the rest
by_octet : (a b : ℕ) → a % 256 ≡ b % 256 → a / 256 ≡ b / 256 → a ≡ b
by_octet a b e f = omega arith

last_octet : (a b : ℕ) → a < 256 → b < 256 → a % 256 ≡ b % 256 → a ≡ b
last_octet a b h k e = omega arith

-- the octets of a word tell it
pub word_apart : (a b : ℕ) → a < 2 ^ 32 → b < 2 ^ 32 → word_octets a ≡ word_octets b → a ≡ b
unfolding word_octets
word_apart a b h k e =
    let d : a / 16777216 ≡ b / 16777216 = last_octet (a / 16777216) (b / 16777216) (omega arith) (omega arith) (ap (λ (l : List ℕ). get_or l 3 0) e) in
    let c : a / 65536 ≡ b / 65536 = by_octet (a / 65536) (b / 65536) (ap (λ (l : List ℕ). get_or l 2 0) e) (wider a ∙ d ∙ sym (wider b)) in
    by_octet a b (ap (λ (l : List ℕ). get_or l 0 0) e)
    (by_octet (a / 256) (b / 256) (ap (λ (l : List ℕ). get_or l 1 0) e) (wide a ∙ c ∙ sym (wide b)))
  where
    wide : (x : ℕ) → x / 256 / 256 ≡ x / 65536
    wide x = omega arith

    wider : (x : ℕ) → x / 65536 / 256 ≡ x / 16777216
    wider x = omega arith

-- a duration is read as it is kept: the word that says that it is not yet known is the word of −1 (SCOPE 16.4)
pub read_as_kept : (tracks : List ℕ) (t : ℕ) → duration_of tracks t ≡ duration_read tracks t
read_as_kept tracks t = ⊎_elim
    (λ e. rw e (eqb-true (duration_of tracks t) not_yet_known e))
    (λ e. rw e)
    (true_or (is_running tracks t))

-- each characteristic's value: which depend on the player alone, and which are a word, of four octets
pub record Values (from : Source) (p : Player) : Type 0 where
  pub name : value_of from p 1 ≡ name_of p
  pub title : value_of from p 5 ≡ title_value from.tracks from.text from.renames from.office p
  pub duration : value_of from p 6 ≡ duration_value from.tracks p
  pub position : value_of from p 7 ≡ position_value p
  pub speed : value_of from p 8 ≡ p.mode.speed ∷ []
  pub seeking : value_of from p 9 ≡ p.mode.seeking ∷ []
  pub segments_object_lem : value_of from p 10 ≡ object_octets (segments_now from.tracks p)
  pub track_object_lem : value_of from p 11 ≡ object_octets (track_now p)
  pub next_object : value_of from p 12 ≡ object_octets (next_now from.groups from.tracks p)
  pub parent_object : value_of from p 13 ≡ object_octets (parent_now from.groups p)
  pub group_object_lem : value_of from p 14 ≡ object_octets (group_now p)
  pub order : value_of from p 15 ≡ p.mode.order ∷ []
  pub orders : value_of from p 16 ≡ 0xFF ∷ 0x00 ∷ []
  pub media : value_of from p 17 ≡ p.mode.media ∷ []
  pub opcodes : value_of from p 19 ≡ word_octets (p.offer.mask % 2 ^ 21)
  pub ccid : value_of from p 22 ≡ p.offer.ccid ∷ []

pub values : (from : Source) (p : Player) → Values from p
unfolding value_of opcodes_value
values from p =
    record {
      name = refl;
      title = refl;
      duration = refl;
      position = refl;
      speed = refl;
      seeking = refl;
      segments_object_lem = refl;
      track_object_lem = refl;
      next_object = refl;
      parent_object = refl;
      group_object_lem = refl;
      order = refl;
      orders = refl;
      media = refl;
      opcodes = refl;
      ccid = refl;
    }

module _ (groups tracks text renames office : List ℕ) (p : Player) where
  -- a number that is none of those with a value has none
  pub value_none : (c : ℕ) → (c ≡ 1 → ⊥) → (c ≡ 5 → ⊥) → (c ≡ 6 → ⊥) → (c ≡ 7 → ⊥) → (c ≡ 8 → ⊥) → (c ≡ 9 → ⊥) → (c ≡ 10 → ⊥) → (c ≡ 11 → ⊥) → (c ≡ 12 → ⊥)
      → (c ≡ 13 → ⊥) → (c ≡ 14 → ⊥) → (c ≡ 15 → ⊥) → (c ≡ 16 → ⊥) → (c ≡ 17 → ⊥) → (c ≡ 19 → ⊥) → (c ≡ 22 → ⊥)
      → value_of (source groups tracks text renames office) p c ≡ []
  unfolding value_of
  value_none c a b d e f g n10 n11 n12 n13 n14 h i j k l =
      rw (ne_eqb c 1 a, ne_eqb c 5 b, ne_eqb c 6 d, ne_eqb c 7 e, ne_eqb c 8 f, ne_eqb c 9 g, ne_eqb c 10 n10, ne_eqb c 11 n11, ne_eqb c 12 n12, ne_eqb c 13 n13, ne_eqb c 14 n14, ne_eqb c 15 h, ne_eqb c 16 i, ne_eqb c 17 j, ne_eqb c 19 k, ne_eqb c 22 l)

  -- none has more than 128 octets, where the name and the title have not
  pub value_short : p.name.len ≤ 128 → length (title_value tracks text renames office p) ≤ 128 → (c : ℕ) → length (value_of (source groups tracks text renames office) p c) ≤ 128
  unfolding value_of duration_value position_value opcodes_value
  value_short n t c =
      short (eqb c 1) _ _ (simp length-take (omega arith))
      (short (eqb c 5) _ _ t
      (short (eqb c 6) _ _ (word_short _)
      (short (eqb c 7) _ _ (word_short _)
      (short (eqb c 8) _ _ (omega arith)
      (short (eqb c 9) _ _ (omega arith)
      (short (eqb c 10) _ _ (object_short (segments_now tracks p))
      (short (eqb c 11) _ _ (object_short (track_now p))
      (short (eqb c 12) _ _ (object_short (next_now groups tracks p))
      (short (eqb c 13) _ _ (object_short (parent_now groups p))
      (short (eqb c 14) _ _ (object_short (group_now p))
      (short (eqb c 15) _ _ (omega arith)
      (short (eqb c 16) _ _ (omega arith)
      (short (eqb c 17) _ _ (omega arith)
      (short (eqb c 19) _ _ (word_short _)
      (short (eqb c 22) _ _ (omega arith) (omega arith))))))))))))))))
    where
      short : (u : Bool) (a b : List ℕ) → length a ≤ 128 → length b ≤ 128 → length (pick u a b) ≤ 128
      short true a b h k = h
      short false a b h k = k

      word_short : (w : ℕ) → length (word_octets w) ≤ 128
      word_short w = rw (word_long w) (omega arith)
