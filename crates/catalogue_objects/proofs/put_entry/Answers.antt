-- `catalogue_objects::put_entry`: one store or three, of what stands at the place and behind it.
use mathlib.Core.Path.{sym, ap, ◌∙◌}
use mathlib.Core.List.{[], ◌∷◌}
use Prim.Native.Nat.{ℕ, ◌+◌, ◌≤◌}
use native.Mathlib.Omega.{arith}
use lib.ListN.{length, drop}
use Rattle.ground.specs.Lists.{laid}
use Rattle.ground.specs.Words.{word_at}
use Rattle.ground.proofs.Laying.{laid_one}
use Rattle.ground.proofs.Words.{word_drop}
use Rattle.catalogue_objects.specs.declared.Kind.{Kind}
use Rattle.catalogue_objects.specs.Reading.{label_head, words_of}
use Rattle.catalogue_objects.proofs.Stores.{first_of, half_of, laid_three}
use Rattle.catalogue_objects.proofs.put_entry.Goals as goal

pub returns-in-Group : goal.returns-in-Group
unfolding words_of
returns-in-Group c =
    let a = c.args in
    let s = a.octets.now in
    let fits : a.to + 3 ≤ length a.out.now = rw c.in-Group.is at c.requires.kind_in_bounds in
    let kind = sym (first_of s a.at) in
    let low = c.word_at.ensures ∙ sym (word_drop s a.at 1) in
    let high = c.half_at.ensures.0 ∙ sym (half_of s a.at 5) in
    laid_three a.out.now a.to _ _ _ fits
    ∙ (λ i. laid a.out.now a.to (kind i ∷ low i ∷ high i ∷ []))
    ∙ sym (ap (λ (kind : Kind). laid a.out.now a.to (words_of kind (drop a.at s))) c.in-Group.is)

pub returns-in-Segments : goal.returns-in-Segments
unfolding words_of
returns-in-Segments c =
    let a = c.args in
    let s = a.octets.now in
    let fits : a.to + 1 ≤ length a.out.now = rw c.in-Segments.is at c.requires.kind_in_bounds in
    let position = c.word_at-in-Segments.ensures ∙ ap (λ (k : ℕ). word_at s (a.at + k)) c.label_head-head.ensures.0 ∙ sym (word_drop s a.at (label_head (drop a.at s))) in
    laid_one a.out.now a.to _ (omega (arith, fits))
    ∙ (λ i. laid a.out.now a.to (position i ∷ []))
    ∙ sym (ap (λ (kind : Kind). laid a.out.now a.to (words_of kind (drop a.at s))) c.in-Segments.is)
