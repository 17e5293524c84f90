-- The groups that a group move runs over (SCOPE 12.1).
-- Assumes nothing.
use Rattle.std.specs.Prelude.{Bool, ◌&&◌, not, List, [], ◌∷◌, ℕ, ◌<◌, ◌≤◌, eqb, Option, Some, None}
use Rattle.ground.specs.Cases.{pick}
use Rattle.ground.specs.Limits.{most_groups}
use Rattle.ground.specs.Lists.{span, those}
use Rattle.catalogue_tables.specs.Tables.{group_count, parent_of, tracks_in}
use Rattle.catalogue_tables.specs.declared.GroupNo.{GroupNo}

-- SCOPE 12.1: "the groups of the same parent that have tracks, group 0 left out"
abbrev pub is_sibling : List ℕ → ℕ → ℕ → Bool
is_sibling groups g h =
    not (eqb h 0) && eqb (parent_of groups h) (parent_of groups g) && not (eqb (tracks_in groups h) 0)

-- SCOPE 12.1: "Group moves run, by number," over those. "For group 0 they run over group 0 alone."
unfoldable pub siblings : List ℕ → ℕ → List ℕ
siblings groups g = pick (eqb g 0) (0 ∷ []) (those (is_sibling groups g) (span 0 (group_count groups)))

-- what was found, as a plain number
abbrev pub near_group : Option GroupNo → Option ℕ
near_group (Some g) = Some g.0
near_group None = None

-- what a group move asks for: there are few groups (SCOPE 4.2), and the current one is there and has tracks
pub record Current (groups : List ℕ) (g : ℕ) : Type 0 where
  pub few : group_count groups ≤ most_groups
  pub there : g < group_count groups
  pub used : 0 < tracks_in groups g
