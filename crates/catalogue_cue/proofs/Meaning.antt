-- What a line gives, from the tests on it without its leading spaces. Assumes nothing.
use mathlib.Core.Path.{◌≡◌, refl, sym, ap}
use mathlib.Core.Bool.{true, false}
use mathlib.Core.List.{List, [], ◌∷◌, ◌++◌}
use Prim.Native.Nat.{ℕ}
use Rattle.ground.proofs.Cases.{past, here}
use Rattle.catalogue_cue.specs.declared.Line.{Line}
use Rattle.catalogue_cue.specs.declared.Line.TheVariants.{Start, Passed, NotUnderstood}
use Rattle.catalogue_cue.specs.Sheet.{unspaced, is_start, start_of, is_passed, meaning, line_of, starts_of}

module _ (line u : List ℕ) (e : u ≡ unspaced line) where
  is_meaning : meaning u ≡ line_of line
  unfolding line_of
  is_meaning = ap meaning e

  pub gives_start : is_start u ≡ true → {n : ℕ} → n ≡ start_of u → Start n ≡ line_of line
  unfolding meaning
  gives_start s {n} m = rw (sym is_meaning) (here _ s (ap Start m))

  module _ (s : is_start u ≡ false) where
    pub gives_nothing : is_passed u ≡ true → Passed ≡ line_of line
    unfolding meaning
    gives_nothing p = rw (sym is_meaning) (past _ s (here _ p refl))

    pub gives_fault : is_passed u ≡ false → NotUnderstood ≡ line_of line
    unfolding meaning
    gives_fault p = rw (sym is_meaning) (past _ s (past _ p refl))

-- the starts of a line, and then those of the lines behind it
pub starts_split : (line : Line) (more : List Line) → starts_of (line ∷ more) ≡ starts_of (line ∷ []) ++ starts_of more
unfolding starts_of
starts_split (Start n) more = refl
starts_split Passed more = refl
starts_split NotUnderstood more = refl
