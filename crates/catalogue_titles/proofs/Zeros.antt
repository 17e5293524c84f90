-- Entries of zeros rename nothing, so each of them is right (SCOPE 5.2, 5.4). Assumes nothing.
use mathlib.Core.Path.{◌≡◌}
use mathlib.Core.Bool.{true}
use mathlib.Core.List.{List}
use Prim.Native.Nat.{ℕ, ◌+◌, ◌*◌, ◌≤◌}
use native.Mathlib.Omega.{arith}
use borrow.Author.Tests.{eqb-true, eq-eqb}
use lib.Dec.{eqb}
use lib.ListN.{get_or}
use Rattle.ground.specs.Limits.{rename_words}
use Rattle.ground.specs.Lists.{all_below}
use Rattle.ground.proofs.Bounded.{all_at, all_intro}
use Rattle.catalogue_titles.specs.Titles.{rename_length_of, entry_rule, entries_rule}

pub zeros_right : (count n : ℕ) (renames office : List ℕ) → count * rename_words ≤ n → all_below n (λ i. eqb (get_or renames i 0) 0) ≡ true
    → entries_rule count renames office ≡ true
unfolding entries_rule entry_rule
zeros_right count n renames office long zeros =
    all_intro _ count (λ t h. rw (eq-eqb (rename_length_of renames t) 0 (eqb-true _ 0 (all_at _ n zeros (t * rename_words + 1) (omega arith)))))
