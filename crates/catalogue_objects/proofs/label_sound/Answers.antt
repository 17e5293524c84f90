-- `catalogue_objects::label_sound`: the name and the position, seen from the place on.
use mathlib.Core.Path.{◌≡◌, sym, ap, ◌∙◌}
use mathlib.Core.Bool.{◌&&◌}
use Prim.Native.Nat.{ℕ, ◌+◌, ◌-◌}
use native.Mathlib.Omega.{arith}
use lib.Dec.{ltb}
use lib.ListN.{take, drop}
use lib.Seq.{drop-drop}
use Rattle.ground.specs.Words.{word_at}
use Rattle.ground.proofs.Words.{word_drop}
use Rattle.text.specs.Utf8.{text_of, is_fine}
use Rattle.catalogue_objects.specs.Reading.{label_head, label_sound}
use Rattle.catalogue_objects.proofs.label_sound.Goals as goal

pub returns : goal.returns
unfolding label_sound
returns c =
    let a = c.args in
    let s = a.octets.now in
    let head = c.label_head-head.ensures.0 in
    let long : a.at + c.label_head-head.result - (a.at + 1) ≡ label_head (drop a.at s) - 1 = omega (arith, head) in
    let named = c.is_text-named.ensures ∙ (λ i. is_fine (text_of (take (long i) (sym (drop-drop 1 a.at s) i)))) in
    let position = c.word_at-position.ensures ∙ ap (λ (k : ℕ). word_at s (a.at + k)) head ∙ sym (word_drop s a.at (label_head (drop a.at s))) in
    λ i. named i && ltb (position i) 0x8000_0000
