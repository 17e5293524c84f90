-- What is cut out of a text at the start and the end of a run within it: the part's octets, and where it lies inside, the part itself. Assumes nothing.
use mathlib.Core.Path.{◌≡◌, refl, ap, ◌∙◌}
use mathlib.Core.Bool.{Bool, true, false}
use mathlib.Core.List.{List}
use Prim.Native.Nat.{ℕ, min, ◌+◌, ◌-◌}
use native.Mathlib.Omega.{arith}
use denote.Ref.{Bor}
use lib.ListN.{length, take, drop, length-take, length-drop}
use Rattle.ground.specs.Cases.{pick}
use Rattle.catalogue_tables.proofs.Clip.{clipped}
use Rattle.catalogue_titles.specs.Titles.{text_for, octets_at, Inside, IsPart}
use Rattle.catalogue_titles.specs.declared.Part.{Part}

-- a choice of one of two texts, and then a question about it, is the choice between the two answers
chosen : {A B : Type 0} (f : A → B) (renamed : Bool) (a b : A) → f (pick renamed a b) ≡ pick renamed (f a) (f b)
chosen f true a b = refl
chosen f false a b = refl

module _ (part : Part) (text office whole : Bor (List ℕ)) (of : whole ≡ text_for part text office) (a e : ℕ)
    (from : a ≡ min part.offset (length whole.now)) (to : e ≡ a + min part.len (length whole.now - a)) where
  pub cut_octets : take (e - a) (drop a whole.now) ≡ octets_at part text.now office.now
  unfolding octets_at
  cut_octets =
      clipped whole.now part.offset part.len a e from to
      ∙ ap (λ (t : List ℕ). take part.len (drop part.offset t)) (ap (λ (t : Bor (List ℕ)). t.now) of ∙ chosen (λ (t : Bor (List ℕ)). t.now) part.renamed office text)

  -- what is cut out is the part itself
  pub cut_part : Inside part (length text.now) (length office.now)
      → IsPart part text office (record { ref_ptr = (whole.ref_ptr.0, a + whole.ref_ptr.1); now = take (e - a) (drop a whole.now) })
  cut_part inside =
      let size = ap (λ (t : Bor (List ℕ)). length t.now) of ∙ chosen (λ (t : Bor (List ℕ)). length t.now) part.renamed office text in
      let at : a ≡ part.offset = omega arith in
      let place : whole.ref_ptr.1 ≡ (text_for part text office).ref_ptr.1 = ap (λ (t : Bor (List ℕ)). t.ref_ptr.1) of in
      let long : e - a ≡ part.len = omega arith in
      record {
        block = ap (λ (t : Bor (List ℕ)). t.ref_ptr.0) of;
        start = omega arith;
        many = rw (length-take, length-drop) (omega arith);
        octets = cut_octets;
      }
