-- No title is told as bad exactly where all are UTF-8. Assumes nothing.
use mathlib.Core.Path.{◌≡◌, refl, sym, ap, ◌∙◌}
use mathlib.Core.Bool.{Bool, true, false}
use mathlib.Core.List.{List, [], ◌∷◌}
use mathlib.Core.Logic.{⊎_elim}
use Prim.Native.Nat.{ℕ, zero, suc, min, ◌+◌, ◌-◌, ◌<◌, ◌≤◌, zero-le}
use native.Mathlib.Nat.{eq-or-lt_of_le}
use native.Mathlib.Omega.{arith}
use lib.ListN.{length, get_or, drop, length-take, length-drop}
use lib.Seq.{get_or-take, get_or-drop}
use Rattle.ground.specs.Cases.{pick}
use Rattle.ground.proofs.Cases.{true_or}
use Rattle.ground.proofs.Bounded.{all_at, all_intro}
use Rattle.text.specs.Utf8.{is_fine, text_said}
use Rattle.text.proofs.Law.{offset_within}
use Rattle.text.proofs.Run.{ascii_is_text}
use Rattle.catalogue_tables.specs.Tables.{track_count, title_offset_of, title_length_of, title_of}
use Rattle.catalogue_rules.specs.Rules.{titles_text_rule, bad_title_from, bad_title}

title_within : (tracks text : List ℕ) (t : ℕ) → length (title_of tracks text t) ≤ length text
unfolding title_of
title_within tracks text t = simp (length-take, length-drop) (omega arith)

-- an octet of a title is one of the text
plain_title : (tracks text : List ℕ) (t : ℕ) → ((i : ℕ) → i < length text → get_or text i 0 ≤ 0x7F)
    → (i : ℕ) → i < length (title_of tracks text t) → get_or (title_of tracks text t) i 0 ≤ 0x7F
unfolding title_of
plain_title tracks text t low i h =
    let at = title_offset_of tracks t in
    let len = title_length_of tracks t in
    let l : i < min len (length text - at) = simp (length-take, length-drop) at h in
    omega (arith, get_or-take len (drop at text) i 0 (omega arith), get_or-drop at text i 0, low (at + i) (omega arith))

module _ (tracks text : List ℕ) where
  abbrev fine : ℕ → Bool
  fine t = (text_said (title_of tracks text t)).is_granted

  all_fine : (n t : ℕ) → ((i : ℕ) → t ≤ i → i < t + n → fine i ≡ true) → bad_title_from tracks text n t ≡ []
  unfolding bad_title_from
  all_fine zero t h = refl
  all_fine (suc n) t h = rw (h t (omega arith) (omega arith)) (all_fine n (suc t) (λ i l u. h i (omega arith) (omega arith)))

  none_bad : (n t : ℕ) → bad_title_from tracks text n t ≡ [] → (i : ℕ) → t ≤ i → i < t + n → fine i ≡ true
  unfolding bad_title_from
  none_bad zero t e i l u = absurd (let z : ⊥ = omega arith in z)
  none_bad (suc n) t e i l u = at (fine t) refl e (λ s x. none_bad n (suc t) s i x (omega arith))
    where
      at : (b : Bool) → fine t ≡ b → pick b (bad_title_from tracks text n (suc t)) (t ∷ (text_said (title_of tracks text t)).values) ≡ []
          → (bad_title_from tracks text n (suc t) ≡ [] → suc t ≤ i → fine i ≡ true) → fine i ≡ true
      at true q s ih = ⊎_elim (λ x. ap fine (sym x) ∙ q) (ih s) (eq-or-lt_of_le l)
      at false q s ih = absurd (let z : ⊥ = omega (arith, ap length s) in z)

  pub text_is : bad_title tracks text ≡ [] → titles_text_rule tracks text ≡ true
  unfolding titles_text_rule text_said
  text_is e = all_intro _ (track_count tracks) (λ i l. none_bad (track_count tracks) 0 e i zero-le (omega arith))

  pub is_text : titles_text_rule tracks text ≡ true → bad_title tracks text ≡ []
  unfolding titles_text_rule text_said
  is_text e = all_fine (track_count tracks) 0 (λ i l u. all_at _ (track_count tracks) e i (omega arith))

  -- in a text of octets below 0x80 every title is UTF-8
  pub plain_text : ((i : ℕ) → i < length text → get_or text i 0 ≤ 0x7F) → bad_title tracks text ≡ []
  unfolding titles_text_rule
  plain_text low = is_text (all_intro _ (track_count tracks) (λ t h. ap is_fine (ascii_is_text (title_of tracks text t) (plain_title tracks text t low))))

  -- a title that is told as bad is bad
  pub text_not : {t : ℕ} {l : List ℕ} → bad_title tracks text ≡ t ∷ l → titles_text_rule tracks text ≡ false
  text_not {t} {l} e =
      ⊎_elim
      (λ h. absurd (let z : 1 + length l ≤ 0 = omega (arith, ap length (sym e ∙ is_text h)) in let y : ⊥ = omega arith in y))
      (λ h. h)
      (true_or (titles_text_rule tracks text))

  -- what is told of a bad title is small
  small_from : (n t i : ℕ) → get_or (bad_title_from tracks text n t) i 0 ≤ t + n + length text
  unfolding bad_title_from
  small_from zero t i = zero-le
  small_from (suc n) t i = at (fine t) i (λ j. omega (arith, small_from n (suc t) j))
    where
      short : (j : ℕ) → get_or (text_said (title_of tracks text t)).values j 0 ≤ length text
      short j = omega (arith, offset_within (title_of tracks text t) j, title_within tracks text t)

      at : (b : Bool) (i : ℕ) → ((j : ℕ) → get_or (bad_title_from tracks text n (suc t)) j 0 ≤ t + suc n + length text)
          → get_or (pick b (bad_title_from tracks text n (suc t)) (t ∷ (text_said (title_of tracks text t)).values)) i 0 ≤ t + suc n + length text
      at true i ih = ih i
      at false zero ih = omega arith
      at false (suc i) ih = omega (arith, short i)

  pub told_small : (i : ℕ) → get_or (bad_title tracks text) i 0 ≤ track_count tracks + length text
  told_small i = omega (arith, small_from (track_count tracks) 0 i)
