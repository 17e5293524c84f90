-- The player moves along the groups of one parent, which have the same groups beside them; group 0 along itself alone. Assumes nothing.
use mathlib.Core.Path.{◌≡◌, refl, sym, ap, ◌∙◌}
use mathlib.Core.Bool.{false}
use mathlib.Core.Logic.{⊎_elim}
use mathlib.Core.List.{List, [], ◌∷◌}
use Prim.Native.Nat.{ℕ, zero, suc, ◌≤◌, ◌<◌}
use native.Mathlib.Nat.{not-suc-le-zero, le_of_suc-le-suc, lt_irrefl}
use native.Mathlib.Omega.{arith}
use lib.ListN.{length, get_or}
use Rattle.std.specs.Prelude.{Option, Some, None}
use Rattle.ground.specs.Lists.{span, those}
use Rattle.ground.proofs.Cases.{le_or}
use Rattle.catalogue_tables.specs.Tables.{group_count}
use Rattle.player_walk.specs.Signed.{signed_word}
use Rattle.player_walk.specs.Steps.{at, place, move_in}
use Rattle.player_walk.specs.declared.Step.{Step}
use Rattle.player_walk.specs.declared.Step.TheVariants.{Goto}
use Rattle.player_manual.specs.declared.Made.{Made}
use Rattle.player_manual.specs.declared.Made.TheVariants.{All, Stopped, RanOut}
use Rattle.player_manual.specs.Made.{by_steps, size, found}
use Rattle.player_manual.specs.Places.{on_places, onto}
use Rattle.player_manual.proofs.Places.{Holds, Within, placed}
use Rattle.player_manual.proofs.Along.{Along, along_from, on_places_lem, along_agrees}
use Rattle.player_manual.proofs.Leads.{keeps, leads_to}
use Rattle.player_groups.specs.Family.{is_sibling, Current}
use Rattle.player_groups.proofs.Rising.{each, placed as apart}
use Rattle.player_groups.proofs.Moves.{alone_is, line_is, lone_apart, its_place}
use Rattle.player_groups.proofs.Laws.{stays_current, same_siblings}
use Rattle.player_steps.specs.Stepping.{along_groups}

module _ (groups : List ℕ) (g : ℕ) where
  -- group 0
  module _ (zeroth : g ≡ 0) where
    moves_alone : (s : Step) (k : ℕ) → k < 1 → along_groups groups s (get_or (0 ∷ []) k 0) ≡ move_in s false (0 ∷ []) (get_or (0 ∷ []) k 0)
    moves_alone s zero h = ap (λ (l : List ℕ). move_in s false l 0) (alone_is groups 0 refl)
    moves_alone s (suc k) h = absurd (not-suc-le-zero (le_of_suc-le-suc h))

    alone : Along (along_groups groups) g
    alone = along_from (along_groups groups) g (0 ∷ []) false lone_apart moves_alone (0, omega arith, sym zeroth)

    -- on one place, where group 0 stands
    on_one : (r : Made ℕ) → Within 1 (found r) → onto (λ k. Some g) r ≡ onto (at (0 ∷ [])) r
    on_one (All zero n) h = ap (λ (x : ℕ). All x n) zeroth
    on_one (All (suc k) n) h = absurd (not-suc-le-zero (le_of_suc-le-suc h))
    on_one (Stopped n) h = refl
    on_one (RanOut n) h = refl

    pub walked_alone : (n allowed : ℕ) → onto (λ k. Some g) (by_steps (on_places false 1) n allowed 0) ≡ by_steps (along_groups groups) n allowed g
    unfolding alone along_from
    walked_alone n allowed =
        on_one (by_steps (on_places false 1) n allowed 0) (keeps (λ j. j < 1) (on_places false 1) (λ s j b. placed 1 s false j b) n allowed 0 (omega arith))
        ∙ ap (λ (x : ℕ). onto (at (0 ∷ [])) (by_steps (on_places false 1) n allowed (place x (0 ∷ [])))) (sym zeroth)
        ∙ sym (on_places_lem (along_groups groups) g alone n allowed)

  -- any other group that is there and has tracks
  module _ (current : Current groups g) (other : g ≡ 0 → ⊥) where
    moves_line : (s : Step) (k : ℕ) → k < length (those (is_sibling groups g) (span 0 (group_count groups)))
        → along_groups groups s (get_or (those (is_sibling groups g) (span 0 (group_count groups))) k 0)
        ≡ move_in s false (those (is_sibling groups g) (span 0 (group_count groups))) (get_or (those (is_sibling groups g) (span 0 (group_count groups))) k 0)
    moves_line s k h =
        each (is_sibling groups g) (λ x. along_groups groups s x ≡ move_in s false (those (is_sibling groups g) (span 0 (group_count groups))) x) (group_count groups) 0 k
        (λ x a b t. ap (λ (l : List ℕ). move_in s false l x) (same_siblings groups g x other t ∙ line_is groups g other)) h

    in_line : Along (along_groups groups) g
    in_line =
        let p = its_place groups g current other (group_count groups) _ _ refl refl refl in
        along_from (along_groups groups) g (those (is_sibling groups g) (span 0 (group_count groups))) false (apart (is_sibling groups g) (group_count groups) 0) moves_line
        (length (those (is_sibling groups g) (span 0 g)), p.0, p.1)

    its_rank : place g (those (is_sibling groups g) (span 0 (group_count groups))) ≡ length (those (is_sibling groups g) (span 0 g))
    its_rank =
        let p = its_place groups g current other (group_count groups) _ _ refl refl refl in
        let l = those (is_sibling groups g) (span 0 (group_count groups)) in
        ap (λ (x : ℕ). place x l) (sym p.1) ∙ apart (is_sibling groups g) (group_count groups) 0 (length (those (is_sibling groups g) (span 0 g))) p.0

    pub walked_line : (n allowed b k len : ℕ) → b ≡ group_count groups → k ≡ length (those (is_sibling groups g) (span 0 g)) → len ≡ length (those (is_sibling groups g) (span 0 b))
        → onto (at (those (is_sibling groups g) (span 0 b))) (by_steps (on_places false len) n allowed k) ≡ by_steps (along_groups groups) n allowed g
    unfolding in_line along_from
    walked_line n allowed b k len eb ek en =
        ap (λ (c : ℕ). onto (at (those (is_sibling groups g) (span 0 b))) (by_steps (on_places false c) n allowed k)) en
        ∙ ap (λ (c : ℕ). onto (at (those (is_sibling groups g) (span 0 c))) (by_steps (on_places false (length (those (is_sibling groups g) (span 0 c)))) n allowed k)) eb
        ∙ ap (λ (j : ℕ). onto (at (those (is_sibling groups g) (span 0 (group_count groups)))) (by_steps (on_places false (length (those (is_sibling groups g) (span 0 (group_count groups))))) n allowed j)) (ek ∙ sym its_rank)
        ∙ sym (on_places_lem (along_groups groups) g in_line n allowed)

  -- with |n| or more allowed, it is the player's own Goto Group (SCOPE 15.8)
  module _ (current : Current groups g) where
    groups_along : Along (along_groups groups) g
    groups_along = ⊎_elim (λ h. in_line current (λ z. lt_irrefl 0 (omega arith))) (λ h. alone (omega arith)) (le_or 1 g)

    pub groups_agree : (n allowed : ℕ) → size (signed_word n) ≤ allowed → found (by_steps (along_groups groups) n allowed g) ≡ along_groups groups (Goto n) g
    groups_agree n allowed = along_agrees (along_groups groups) g groups_along n allowed

    -- the group that all steps lead to is there and has tracks
    pub leads_current : (n allowed h count : ℕ) → by_steps (along_groups groups) n allowed g ≡ All h count → Current groups h
    leads_current n allowed h count = leads_to (Current groups) (along_groups groups) (λ s x c. holds s x c (along_groups groups s x) refl) n allowed g current h count
      where
        holds : (s : Step) (x : ℕ) → Current groups x → (p : Option ℕ) → along_groups groups s x ≡ p → Holds (Current groups) p
        holds s x c (Some y) e = stays_current s groups x y c e
        holds s x c None e = tt
