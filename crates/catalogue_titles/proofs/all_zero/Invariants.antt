-- `catalogue_titles::all_zero`: after i turns, whether the first i words are 0.
use mathlib.Core.Path.{◌≡◌}
use lib.Dec.{eqb}
use lib.ListN.{get_or}
use Rattle.ground.specs.Lists.{all_below}
use Rattle.catalogue_titles.proofs.all_zero.Given as goal

abbrev pub invariant-loop-word : goal.invariant-loop-word
invariant-loop-word l = l.good ≡ all_below l.word-index (λ k. eqb (get_or l.words k 0) 0)
