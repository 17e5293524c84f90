-- Where a track ends, and what stands past its last start: D where the duration is known, else nothing. Assumes nothing.
use mathlib.Core.Path.{◌≡◌}
use mathlib.Core.Bool.{Bool, true, false}
use mathlib.Core.Logic.{⊎_elim}
use mathlib.Core.List.{List}
use Prim.Native.Nat.{ℕ, ◌≤◌}
use native.Mathlib.Omega.{arith}
use borrow.Author.Tests.{eqb-true}
use Rattle.std.specs.Prelude.{Some, None}
use Rattle.ground.specs.Cases.{pick}
use Rattle.ground.proofs.Cases.{true_or}
use Rattle.catalogue_tables.specs.Tables.{duration_of, not_yet_known, is_running, end_of}
use Rattle.player_segments.specs.Segments.{Below, Past}
use Rattle.player_moves.specs.Moves.{past_last}

module _ (tracks : List ℕ) (t : ℕ) where
  -- no end is above the word of its duration, so it fits a word too
  pub end_le : end_of tracks t ≤ duration_of tracks t
  unfolding end_of
  end_le = ⊎_elim
      (λ e. rw e (omega (arith, eqb-true (duration_of tracks t) not_yet_known e)))
      (λ e. rw e (omega arith))
      (true_or (is_running tracks t))

  past_is : (d : ℕ) → past_last tracks t ≡ Some d → d ≡ end_of tracks t
  past_is d e = by (is_running tracks t) e
    where
      by : (running : Bool) → pick running None (Some (end_of tracks t)) ≡ Some d → d ≡ end_of tracks t
      by true e = cc
      by false e = cc

  pub past_end : (d : ℕ) → past_last tracks t ≡ Some d → d ≤ end_of tracks t
  past_end d e = omega (arith, past_is d e)

  -- starts below a track's end are below what stands past them
  pub past_starts : (starts : List ℕ) → Below starts (end_of tracks t) → Past starts (past_last tracks t)
  past_starts starts b d e i h = omega (arith, past_is d e, b i h)
