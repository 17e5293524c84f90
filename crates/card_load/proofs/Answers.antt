-- What load says, by the first of its rows that applies. Assumes nothing.
use mathlib.Core.Path.{◌≡◌, refl, sym, ap, ◌∙◌}
use mathlib.Core.Bool.{true, false, not}
use mathlib.Core.List.{List, [], ◌∷◌}
use Prim.Native.Nat.{ℕ}
use Rattle.ground.specs.Refusals.{Said, granted, refused, said_through, said_by}
use Rattle.ground.proofs.Cases.{past, here}
use Rattle.ground.proofs.Rows.{in_turn, shut, none_of, through}
use Rattle.card_load.specs.Card.{length_rule, blocks_of, blocks_rows, blocks_rule, record_count}
use Rattle.card_load.specs.Load.{room_rule, room_row, counted, load_said}

module _ (card : List ℕ) (groups tracks segments text : ℕ) where
  -- what is said behind the blocks
  abbrev behind : Said
  behind = said_through (room_row (blocks_of card) groups tracks segments text ∷ []) (counted (blocks_of card))

  pub says_length : length_rule card ≡ false → refused 210 ≡ load_said card groups tracks segments text
  unfolding load_said
  says_length l = here _ (ap not l) refl

  -- a bad block is said whatever room there is
  pub says_block : length_rule card ≡ true → (said_by (blocks_rows 0 1 (blocks_of card))).is_granted ≡ false
      → said_by (blocks_rows 0 1 (blocks_of card)) ≡ load_said card groups tracks segments text
  unfolding load_said
  says_block l b =
      past (refused 210) (ap not l)
      (shut (λ said. said) (blocks_rows 0 1 (blocks_of card)) behind b ∙ sym (in_turn (λ said. said) (blocks_rows 0 1 (blocks_of card)) _ _))

  pub says_behind : length_rule card ≡ true → blocks_rule 0 1 (blocks_of card) ≡ true → {said : Said} → said ≡ behind
      → said ≡ load_said card groups tracks segments text
  unfolding load_said
  says_behind l b e =
      past (refused 210) (ap not l)
      (through (λ said. said) (blocks_rows 0 1 (blocks_of card)) (none_of (blocks_rows 0 1 (blocks_of card)) b) e ∙ sym (in_turn (λ said. said) (blocks_rows 0 1 (blocks_of card)) _ _))

  pub says_done : length_rule card ≡ true → blocks_rule 0 1 (blocks_of card) ≡ true → room_rule (blocks_of card) groups tracks segments text ≡ true
      → {g t s x : ℕ}
      → g ≡ record_count 1 (blocks_of card) → t ≡ record_count 2 (blocks_of card) → s ≡ record_count 3 (blocks_of card) → x ≡ record_count 4 (blocks_of card)
      → granted (g ∷ t ∷ s ∷ x ∷ []) ≡ load_said card groups tracks segments text
  says_done l b r g t s x = says_behind l b (past (refused 212) (ap not r) (λ k. granted (g k ∷ t k ∷ s k ∷ x k ∷ [])))
